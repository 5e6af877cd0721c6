-- The phis of a plain body: each has an entry for each block before its own and only for those, and two entries for one block have
-- one operand.
use Rattle.std.proofs.Common.{◌≡◌, ℕ, ◌<◌, ◌≤◌, List, map, length, Some, slice_get, Contains, sym, ap, ◌∙◌, subst}
use Rattle.std.proofs.lemmas.Bool.{cases_eq}
use Rattle.std.proofs.lemmas.List.Elements.{All-contains}
use Rattle.ir_core.specs.declared.flat.Entry.{Entry}
use Rattle.ir_core.specs.declared.flat.Phi.{Phi}
use Rattle.ir_core.specs.declared.flat.FlatBlock.{FlatBlock}
use Rattle.ir_core.specs.declared.module.Module.{Module}
use Rattle.ir_core.specs.declared.op.LocalId.{LocalId}
use Rattle.ir_core.specs.declared.op.TypedOperand.{TypedOperand}
use Rattle.ir_core.specs.declared.op.Pair.{Pair}
use Rattle.ir_core.specs.declared.func.Block.{Block}
use Rattle.ir_core.specs.declared.func.Func.{Func}
use Rattle.ir_core.specs.Parts.{targets}
use Rattle.ir_core.specs.Operands.{Does, steps, op_operands}
use Rattle.ir_core.specs.Operands.{typed as with_type}
use Rattle.ir_core.specs.Formed.{IsBlock, IsEdge, IsPhi, writes, all_writes}
use Rattle.ir_core.specs.Instructions.{operand}
use Rattle.ir_core.specs.Plain.{other_operand, numbers, registers, plain_body}
use Rattle.ir_core.specs.Proper.{IsProper}
use Rattle.ir_core.specs.Valid.{IsValid, IsValidFunc}
use Rattle.ir_core.specs.ValidConsts.{meaning}
use Rattle.ir_core.specs.ValidOps.{OperandAgrees, OperandFits}
use Rattle.ir_core.specs.ValidPaths.{Precedes, HasGoodEntries}
use Rattle.ir_core.proofs.Lists.{Has, has_at, at_has, has_left, has_part, has_mapped, contains, has_in, all_at, place, place_within}
use Rattle.ir_core.proofs.SoundRules.{same_name}
use Rattle.ir_safety.proofs.Safe.{NotFalse, and_so, in_turn}
use Rattle.ir_safety.proofs.Labels.{phis_safe}
use Rattle.ir_safety.proofs.Decided.{so, some_element, is_edge, same_operand}
use Rattle.ir_safety.proofs.PlainEdges.{block_of, edge_there}
use Rattle.ir_safety.proofs.PlainSources.{does, step_agrees, step_fits, Source, source_of, pair_of, value_of, good_entries}
use Rattle.ir_safety.proofs.Elements.{own_place, one_key}
use Rattle.ir_safety.proofs.Once.{label, labels_once}
use Rattle.ir_safety.proofs.FormedNumbers.{written}
use Rattle.ir_safety.proofs.OperandMeanings.{of_meaning, operand_means}

-- ---- a phi of a block

module _ (m : Module) (f : Func) (rules : IsValidFunc m f) (b : ℕ) (block : Block)
    (found : slice_get f.blocks b ≡ Some block) (entries : List Entry) (s : Source m f block entries) where
  here : Has f.blocks block
  here = has_at f.blocks b block found

  step : Has (steps f) (Does s.instr)
  step = does f block here s.instr s.stands

  good : NotFalse (HasGoodEntries m.types.defs f block.label s.ty s.pairs)
  good = good_entries m f block entries s rules here

  operand_of : (p : Pair) → Has s.pairs p → Contains (op_operands s.instr.op) (with_type s.ty p.value)
  operand_of p h = contains (op_operands s.instr.op) (with_type s.ty p.value) (value_of m f block entries s p h)

  means : (p : Pair) → Has s.pairs p → NotFalse (operand m s.ty p.value ≡ of_meaning m (meaning m.types.defs s.ty p.value))
  means p h =
      let a : TypedOperand = with_type s.ty p.value in
      and_so (step_agrees m f rules (Does s.instr) step) (λ types. in_turn (step_fits m f rules (Does s.instr) step) (λ words.
      operand_means m f a (All-contains (OperandAgrees m.types.defs f) (op_operands s.instr.op) a types.0 (operand_of p h)) (All-contains OperandFits (op_operands s.instr.op) a words.0 (operand_of p h))))

  -- each entry comes from a block that leads to the phi's
  from_before : (p : Pair) → Precedes f p.from block.label → IsEdge (plain_body m f) ((numbers f).block p.from.0) b
  from_before p (c, has, named, goes) =
      let j = at_has f.blocks c (has_in f.blocks c has) in
      let own : (numbers f).block p.from.0 ≡ j.0 = ap (λ (x : LocalId). place label f.blocks x.0) (sym named) ∙ own_place label f.blocks j.0 c (labels_once m f rules) j.1 in
      let to : (numbers f).block block.label.0 ≡ b = own_place label f.blocks b block (labels_once m f rules) found in
      subst (λ (a : ℕ). IsEdge (plain_body m f) a b) (sym own) (edge_there m f j.0 b (c, j.1, (block.label, has_in (targets c.end) block.label goes, to)))

  only : (e : Entry) → Has entries e → IsEdge (plain_body m f) e.from.0 b
  only e h =
      let p = pair_of m f block entries s e h in
      subst (λ (x : Entry). IsEdge (plain_body m f) x.from.0 b) p.2
      (so (is_edge (plain_body m f) ((numbers f).block p.0.from.0) b) (in_turn good (λ g. from_before p.0 (g.only p.0 (contains s.pairs p.0 p.1)))))

  -- labels of blocks with one number are one
  one_label : (p r : Pair) → Precedes f p.from block.label → (numbers f).block p.from.0 ≡ (numbers f).block r.from.0 → p.from ≡ r.from
  one_label p r (c, has, named, goes) same =
      let lt : place label f.blocks p.from.0 < length f.blocks = subst (λ (x : LocalId). place label f.blocks x.0 < length f.blocks) named (place_within label f.blocks c (has_in f.blocks c has)) in
      same_name p.from r.from (one_key label f.blocks p.from.0 r.from.0 lt same)

  -- and two from one block have one value
  equal_pairs : (p r : Pair) → Has s.pairs p → Has s.pairs r → (numbers f).block p.from.0 ≡ (numbers f).block r.from.0 → NotFalse (operand m s.ty p.value ≡ operand m s.ty r.value)
  equal_pairs p r hp hr same =
      and_so good (λ g. and_so (means p hp) (λ first. in_turn (means r hr) (λ second.
      let from : p.from ≡ r.from = one_label p r (g.only p (contains s.pairs p hp)) same in
      let value : meaning m.types.defs s.ty p.value ≡ meaning m.types.defs s.ty r.value = g.equal p r (contains s.pairs p hp) (contains s.pairs r hr) from in
      first ∙ ap (of_meaning m) value ∙ sym second)))

  equal : (e g : Entry) → Has entries e → Has entries g → e.from.0 ≡ g.from.0 → e.value ≡ g.value
  equal e g he hg same =
      let p = pair_of m f block entries s e he in
      let r = pair_of m f block entries s g hg in
      let from : (numbers f).block p.0.from.0 ≡ (numbers f).block r.0.from.0 = ap (λ (x : Entry). x.from.0) p.2 ∙ same ∙ ap (λ (x : Entry). x.from.0) (sym r.2) in
      so (same_operand e.value g.value) (in_turn (equal_pairs p.0 r.0 p.1 r.1 from) (λ one. ap (λ (x : Entry). x.value) (sym p.2) ∙ ap (other_operand (numbers f)) one ∙ ap (λ (x : Entry). x.value) r.2))

-- ---- the phis of a body

module _ (m : Module) (proper : IsProper m) (valid : IsValid m) (g : ℕ) (f : Func) (at : slice_get m.funcs g ≡ Some f) where
  rules : IsValidFunc m f
  rules = all_at (IsValidFunc m) m.funcs g f valid.each_func at

  pub phi_formed : (b : ℕ) (k : FlatBlock) (q : Phi) → IsBlock (plain_body m f) b k → Contains k.phis q → IsPhi (plain_body m f) b q
  phi_formed b k q is h =
      let c = block_of m f b k is in
      let s = source_of m f c.0 q (subst (λ (l : FlatBlock). Has l.phis q) (sym c.2) (has_in k.phis q h)) in
      record {
        only = λ e he. only m f rules b c.0 c.1 q.entries s e (has_in q.entries e he);
        each = each;
        equal = λ e r he hr same. equal m f rules b c.0 c.1 q.entries s e r (has_in q.entries e he) (has_in q.entries r hr) same;
      }
    where
      each : (a : ℕ) → IsEdge (plain_body m f) a b → (e : Entry) × Contains q.entries e × (e.from.0 ≡ a)
      each a to =
          so (some_element (λ (e : Entry). e.from.0 ≡ a) (λ (e : Entry). cases_eq e.from.0 a) q.entries) (phis_safe m proper valid g f at a b k q to is h)

  pub phi_register : (b : ℕ) (k : FlatBlock) (q : Phi) → IsBlock (plain_body m f) b k → Contains k.phis q → q.reg.0 < length (registers f)
  phi_register b k q is h =
      let body = (plain_body m f).blocks in
      let among : Has (writes k) q.reg.0 = has_left (map (λ (p : Phi). p.reg.0) k.phis) _ q.reg.0 (has_mapped (λ (p : Phi). p.reg.0) k.phis q (has_in k.phis q h)) in
      let all : Has (all_writes (plain_body m f)) q.reg.0 = has_part writes body k q.reg.0 (has_at body b k is) among in
      (All-contains (λ (r : ℕ). (length f.params ≤ r) × (r < length (registers f))) (all_writes (plain_body m f)) q.reg.0 (written m proper valid g f at) (contains (all_writes (plain_body m f)) q.reg.0 all)).1
