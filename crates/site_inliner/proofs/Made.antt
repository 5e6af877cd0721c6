-- Rows, phis, ends and blocks of a plain body, made of parts that have other numbers already.
use Rattle.std.proofs.Common.{◌≡◌, Bool, true, false, if◌then◌else◌, List, [], ◌∷◌, map, codes, bytes_eq, Option, Some, None, refl, sym, ap, ◌∙◌}
use Rattle.std.specs.List.{filter_map}
use Rattle.std.specs.Option.{option_map}
use Rattle.oi_base.specs.declared.ids.RegId.{RegId}
use Rattle.ir_core.specs.declared.flat.FlatOp.{FlatOp}
use Rattle.ir_core.specs.declared.flat.Case.{Case}
use Rattle.ir_core.specs.declared.flat.Entry.{Entry}
use Rattle.ir_core.specs.declared.flat.Phi as flat_phi
use Rattle.ir_core.specs.declared.flat.FlatInstr.{FlatInstr}
use Rattle.ir_core.specs.declared.flat.FlatInstr.TheVariants as flat
use Rattle.ir_core.specs.declared.flat.FlatEnd.{FlatEnd}
use Rattle.ir_core.specs.declared.flat.FlatEnd.TheVariants as flat_end
use Rattle.ir_core.specs.declared.flat.FlatBlock.{FlatBlock}
use Rattle.ir_core.specs.declared.ty.IrType.{IrType}
use Rattle.ir_core.specs.declared.module.SymId.{SymId}
use Rattle.ir_core.specs.declared.module.Module.{Module}
use Rattle.ir_core.specs.declared.op.LocalId.{LocalId}
use Rattle.ir_core.specs.declared.op.TypedOperand.{TypedOperand}
use Rattle.ir_core.specs.declared.op.Pair.{Pair}
use Rattle.ir_core.specs.declared.op.SwitchCase.{SwitchCase}
use Rattle.ir_core.specs.declared.op.Op.TheVariants as ops
use Rattle.ir_core.specs.declared.op.End.TheVariants as ends
use Rattle.ir_core.specs.declared.func.Instr.{Instr}
use Rattle.ir_core.specs.declared.func.Block.{Block}
use Rattle.ir_core.specs.Constants.{width_of}
use Rattle.ir_core.specs.Operands.{symbol_text}
use Rattle.ir_core.specs.Parts.{is_defined}
use Rattle.ir_core.specs.Instructions.{register, typed, func_number, first, call, entry, phi, switch_case, instruction}
use Rattle.ir_core.specs.Plain.{Numbers, other_reg, other_operand, other_instr, other_entry, other_phi, other_case, numbers}
use Rattle.ir_safety.proofs.Elements.{mapped_twice}
use Rattle.site_inliner.specs.Parts.{Part, reg_in, block_in, typed_in, row_in, phi_in, entry_in, case_in, end_in, instr_row, instr_phi, block_of}
use Rattle.site_inliner.proofs.Kept.{kept_mapped}

-- ---- calls

module _ (n : Numbers) (m : Module) (d : Option RegId) (s : SymId) (args : List FlatOp) where
  abbrev inner : FlatInstr
  inner = flat.Call d (record { 0 = func_number m s }) args

  abbrev other : FlatInstr
  other = flat.Call (option_map (other_reg n) d) (record { 0 = func_number m s }) (map (other_operand n) args)

  first_other : (as' : List FlatOp) → other_operand n (first as') ≡ first (map (other_operand n) as')
  first_other [] = refl
  first_other (a ∷ as') = refl

  external : (a b c : Bool) → other_instr n (if a then flat.Put d (first args) else (if b then flat.Get d else (if c then flat.Exit (first args) else inner)))
      ≡ (if a then flat.Put (option_map (other_reg n) d) (first (map (other_operand n) args))
      else (if b then flat.Get (option_map (other_reg n) d) else (if c then flat.Exit (first (map (other_operand n) args)) else other)))
  external true b c = ap (flat.Put (option_map (other_reg n) d)) (first_other args)
  external false true c = refl
  external false false true = ap flat.Exit (first_other args)
  external false false false = refl

  pub call_other : other_instr n (call m d s args) ≡ call m (option_map (other_reg n) d) s (map (other_operand n) args)
  call_other = by (is_defined m s)
    where
      by : (t : Bool) → other_instr n (if t then inner else (if bytes_eq (symbol_text m s) (codes "putchar") then flat.Put d (first args) else (if bytes_eq (symbol_text m s) (codes "getchar") then flat.Get d else (if bytes_eq (symbol_text m s) (codes "exit") then flat.Exit (first args) else inner))))
          ≡ (if t then other else (if bytes_eq (symbol_text m s) (codes "putchar") then flat.Put (option_map (other_reg n) d) (first (map (other_operand n) args))
          else (if bytes_eq (symbol_text m s) (codes "getchar") then flat.Get (option_map (other_reg n) d) else (if bytes_eq (symbol_text m s) (codes "exit") then flat.Exit (first (map (other_operand n) args)) else other))))
      by true = refl
      by false = external (bytes_eq (symbol_text m s) (codes "putchar")) (bytes_eq (symbol_text m s) (codes "getchar")) (bytes_eq (symbol_text m s) (codes "exit"))

call_made : (p : Part) (d : Option RegId) (s : SymId) (as' : List TypedOperand) →
    call p.source (option_map (other_reg (numbers p.func)) d) s (map (typed_in p) as') ≡ other_instr (numbers p.func) (call p.source d s (map (typed p.source) as'))
call_made p d s as' =
    ap (call p.source (option_map (other_reg (numbers p.func)) d) s) (sym (mapped_twice (other_operand (numbers p.func)) (typed p.source) as'))
    ∙ sym (call_other (numbers p.func) p.source d s (map (typed p.source) as'))

pub row_call : (p : Part) (d : Option LocalId) (t : IrType) (s : SymId) (as' : List TypedOperand) → Some (call p.source (option_map (reg_in p) d) s (map (typed_in p) as')) ≡ row_in p d (ops.Call t s as')
row_call p None t s as' = ap Some (call_made p None s as')
row_call p (Some x) t s as' = ap Some (call_made p (Some (register x)) s as')

-- ---- phis, ends and blocks

abbrev phi_with : RegId → List Entry → flat_phi.Phi
phi_with r es = record { reg = r; entries = es }

pub phi_made : (p : Part) (x : LocalId) (t : IrType) (es : List Pair) (r : RegId) (entries : List Entry) → r ≡ reg_in p x → entries ≡ map (entry_in p t) es → Some (phi_with r entries) ≡ phi_in p (Some x) (ops.Phi t es)
phi_made p x t es r entries e f =
    ap (λ (q : RegId). Some (phi_with q entries)) e
    ∙ ap (λ (ys : List Entry). Some (phi_with (reg_in p x) ys)) (f ∙ sym (mapped_twice (other_entry (numbers p.func)) (entry p.source t) es))

pub switch_made : (p : Part) (a : TypedOperand) (other : LocalId) (cs : List SwitchCase) → flat_end.Switch (typed_in p a) (width_of a.ty) (map (case_in p) cs) (block_in p other) ≡ end_in p (ends.Switch a other cs)
switch_made p a other cs =
    ap (λ (ys : List Case). flat_end.Switch (typed_in p a) (width_of a.ty) ys (block_in p other)) (sym (mapped_twice (other_case (numbers p.func)) (switch_case p.source) cs))

abbrev block_with : List flat_phi.Phi → List FlatInstr → FlatEnd → FlatBlock
block_with phis code end = record { phis = phis; code = code; end = end }

pub block_made : (p : Part) (b : Block) (phis : List flat_phi.Phi) (code : List FlatInstr) (end : FlatEnd) → phis ≡ filter_map (instr_phi p) b.code → code ≡ filter_map (instr_row p) b.code → end ≡ end_in p b.end
    → block_with phis code end ≡ block_of p b
block_made p b phis code end e f g =
    ap (λ (xs : List flat_phi.Phi). block_with xs code end) (e ∙ kept_mapped (other_phi (numbers p.func)) (λ (i : Instr). phi p.source i.result i.op) b.code)
    ∙ ap (λ (xs : List FlatInstr). block_with (block_of p b).phis xs end) (f ∙ kept_mapped (other_instr (numbers p.func)) (λ (i : Instr). instruction p.source i.result i.op) b.code)
    ∙ ap (λ (x : FlatEnd). block_with (block_of p b).phis (block_of p b).code x) g
