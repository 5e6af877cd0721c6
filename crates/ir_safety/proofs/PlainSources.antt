-- Each instruction, phi and entry of a plain body comes from one of its function, and what the rules say of those.
use Rattle.std.proofs.Common.{◌≡◌, inl, inr, List, [], ◌∷◌, map, Some, All, Contains, refl, sym, ap, ◌∙◌, subst}
use Rattle.ir_core.specs.declared.flat.Entry.{Entry}
use Rattle.ir_core.specs.declared.flat.Phi.{Phi}
use Rattle.ir_core.specs.declared.flat.FlatInstr.{FlatInstr}
use Rattle.ir_core.specs.declared.ty.IrType.{IrType}
use Rattle.ir_core.specs.declared.module.Module.{Module}
use Rattle.ir_core.specs.declared.op.Pair.{Pair}
use Rattle.ir_core.specs.declared.op.Op.{Op}
use Rattle.ir_core.specs.declared.op.Op.TheVariants as ops
use Rattle.ir_core.specs.declared.func.Instr.{Instr}
use Rattle.ir_core.specs.declared.func.Block.{Block}
use Rattle.ir_core.specs.declared.func.Func.{Func}
use Rattle.ir_core.specs.Parts.{instrs}
use Rattle.ir_core.specs.Operands.{Step, Does, Ends, steps, block_steps, place_of, op_operands, operands_of}
use Rattle.ir_core.specs.Operands.{typed as with_type}
use Rattle.ir_core.specs.Instructions.{entry, block_rows}
use Rattle.ir_core.specs.Plain.{other_instr, other_entry, other_phi, numbers}
use Rattle.ir_core.specs.Valid.{IsValidFunc}
use Rattle.ir_core.specs.ValidOps.{StepAgrees, OperandFits, CountFits}
use Rattle.ir_core.specs.ValidPaths.{HasGoodEntries}
use Rattle.ir_core.proofs.Lists.{Has, has_left, has_right, has_part, has_source, has_mapped, map_source, contains}
use Rattle.ir_safety.proofs.Safe.{NotFalse}
use Rattle.ir_safety.proofs.PlainEdges.{row}
use Rattle.ir_safety.proofs.PlainRows.{instr_row, phi_row, phi_is}

-- ---- the instructions and the terminator of a block of a function

module _ (f : Func) (b : Block) (here : Has f.blocks b) where
  pub is_instr : (i : Instr) → Has b.code i → Contains (instrs f) i
  is_instr i h = contains (instrs f) i (has_part (λ (c : Block). c.code) f.blocks b i here h)

  pub does : (i : Instr) → Has b.code i → Has (steps f) (Does i)
  does i h =
      has_part block_steps f.blocks b (Does i) here
      (has_left (map Does b.code) (Ends b ∷ []) (Does i) (has_mapped Does b.code i h))

  pub ends : Has (steps f) (Ends b)
  ends = has_part block_steps f.blocks b (Ends b) here (has_right (map Does b.code) (Ends b ∷ []) (Ends b) (inl refl))

module _ (m : Module) (f : Func) (rules : IsValidFunc m f) where
  pub step_agrees : (s : Step) → Has (steps f) s → NotFalse (StepAgrees m.types.defs f s)
  step_agrees s h not = rules.types (place_of s) (inr (s, contains (steps f) s h, refl, not))

  pub step_fits : (s : Step) → Has (steps f) s → NotFalse (All OperandFits (operands_of s) × CountFits s)
  step_fits s h not = rules.constants (place_of s) (s, contains (steps f) s h, refl, not)

-- ---- where the rows of a block come from

module _ (m : Module) (f : Func) where
  pub code_source : (b : Block) (w : FlatInstr) → Has (row m f b).code w
      → (i : Instr) × (v : FlatInstr) × Has b.code i × (instr_row m i ≡ Some v) × (other_instr (numbers f) v ≡ w)
  code_source b w h =
      let v = map_source (other_instr (numbers f)) (block_rows m b).code w h in
      let i = has_source (instr_row m) b.code v.0 v.1 in
      (i.0, v.0, i.1, i.2, v.2)

  pub phi_source : (b : Block) (q : Phi) → Has (row m f b).phis q
      → (i : Instr) × (p : Phi) × Has b.code i × (phi_row m i ≡ Some p) × (other_phi (numbers f) p ≡ q)
  phi_source b q h =
      let p = map_source (other_phi (numbers f)) (block_rows m b).phis q h in
      let i = has_source (phi_row m) b.code p.0 p.1 in
      (i.0, p.0, i.1, i.2, p.2)

  -- a phi of the block of which a row with these entries was made
  pub record Source (b : Block) (entries : List Entry) : Type 0 where
    pub instr : Instr
    pub ty : IrType
    pub pairs : List Pair
    pub stands : Has b.code instr
    pub is_phi : instr.op ≡ ops.Phi ty pairs
    pub made : entries ≡ map (other_entry (numbers f)) (map (entry m ty) pairs)

  pub source_of : (b : Block) (q : Phi) → Has (row m f b).phis q → Source b q.entries
  source_of b q h =
      let s = phi_source b q h in
      let p = phi_is m s.0.result s.0.op s.1 s.3 in
      record {
        instr = s.0;
        ty = p.ty;
        pairs = p.pairs;
        stands = s.2;
        is_phi = p.is_phi;
        made = sym (ap (λ (x : Phi). x.entries) s.4) ∙ ap (map (other_entry (numbers f))) p.entries;
      }

  module _ (b : Block) (entries : List Entry) (s : Source b entries) where
    -- the pair of which an entry was made
    pub pair_of : (e : Entry) → Has entries e → (p : Pair) × Has s.pairs p × (other_entry (numbers f) (entry m s.ty p) ≡ e)
    pair_of e h =
        let x = map_source (other_entry (numbers f)) (map (entry m s.ty) s.pairs) e (subst (λ (es : List Entry). Has es e) s.made h) in
        let p = map_source (entry m s.ty) s.pairs x.0 x.1 in
        (p.0, p.1, ap (other_entry (numbers f)) p.2 ∙ x.2)

    -- its value is an operand of the phi
    pub value_of : (p : Pair) → Has s.pairs p → Has (op_operands s.instr.op) (with_type s.ty p.value)
    value_of p h =
        subst (λ (o : Op). Has (op_operands o) (with_type s.ty p.value)) (sym s.is_phi)
        (has_mapped (λ (q : Pair). with_type s.ty q.value) s.pairs p h)

    pub good_entries : IsValidFunc m f → Has f.blocks b → NotFalse (HasGoodEntries m.types.defs f b.label s.ty s.pairs)
    good_entries rules here bad =
        rules.phis s.instr.place
        (b, s.instr, s.ty, s.pairs, contains f.blocks b here, contains b.code s.instr s.stands, refl, s.is_phi, bad)
