-- The places at which the rule of alignments is broken.
use Rattle.std.proofs.Common.{◌≡◌, sym, subst, Bool, not, nat_le, ℕ, ◌≤◌, List, [], ◌∷◌, Option, Some, None, arith}
use Rattle.std.specs.Bool.{Decides}
use Rattle.std.proofs.lemmas.Bool.Decides.{Decides-and, Decides-not, nat_tests}
use Rattle.oi_base.specs.declared.ids.Place.{Place}
use Rattle.ir_core.specs.declared.ty.TypeDef.{TypeDef}
use Rattle.ir_core.specs.declared.ty.IrType.{IrType}
use Rattle.ir_core.specs.declared.module.GlobalVar.{GlobalVar}
use Rattle.ir_core.specs.declared.module.Module.{Module}
use Rattle.ir_core.specs.declared.op.Op.{Op}
use Rattle.ir_core.specs.declared.op.Op.TheVariants.{Bin, Icmp, Select, Cast, Alloca, Load, Store, Gep, Phi, Call}
use Rattle.ir_core.specs.declared.func.Instr.{Instr}
use Rattle.ir_core.specs.declared.func.Block.{Block}
use Rattle.ir_core.specs.declared.func.Func.{Func}
use Rattle.ir_core.specs.Formed.{IsAlign}
use Rattle.ir_core.specs.Parts.{instrs}
use Rattle.ir_core.specs.Sizes.{align}
use Rattle.ir_core.specs.Operands.{AtInstr, AtGlobal}
use Rattle.ir_core.specs.ValidTypes.{IsGoodAlign, PromisesWell, BreaksAlignments}
use Rattle.ir_core.proofs.Lists.{Has, contains}
use Rattle.module_rules.specs.First.{earliest, IsFound}
use Rattle.module_rules.specs.Faults.{place_if}
use Rattle.module_rules.specs.AlignFaults.{is_align, is_good_align, promises_well, func_align_faults, align_faults}
use Rattle.module_rules.proofs.Decided.{always}
use Rattle.module_rules.proofs.Faulty.{has, places}
use Rattle.module_rules.proofs.InParts.{at_sound, at_complete, made_twice, found_in_parts}
use Rattle.module_rules.proofs.Sets.{number_decides}

abbrev aligns : List ℕ
aligns = 1 ∷ 2 ∷ 4 ∷ 8 ∷ 16 ∷ []

align_decides : (a : ℕ) → Decides (is_align a) (IsAlign a)
align_decides a = let d = number_decides a aligns in (λ e. contains aligns a (d.0 e), λ h. d.1 (has aligns a h))

least_decides : (n a : ℕ) → Decides (nat_le n a) (n ≤ a)
least_decides n a = (λ e. grind (arith, nat_tests), λ h. grind (arith, nat_tests))

module _ (defs : List TypeDef) where
  good_decides : (t : IrType) (a : Option ℕ) → Decides (is_good_align defs t a) (IsGoodAlign defs t a)
  good_decides t None = always
  good_decides t (Some a) = Decides-and (is_align a) (nat_le (align defs t) a) (align_decides a) (least_decides (align defs t) a)

  op_decides : (op : Op) → Decides (promises_well defs op) (PromisesWell defs op)
  op_decides (Alloca t count a) = good_decides t a
  op_decides (Load t from a) = good_decides t a
  op_decides (Store v to a) = good_decides v.ty a
  op_decides (Bin op t a b) = always
  op_decides (Icmp c t a b) = always
  op_decides (Select c a b) = always
  op_decides (Cast c a t) = always
  op_decides (Gep t a is) = always
  op_decides (Phi t es) = always
  op_decides (Call t f as') = always

  bad_instr : (i : Instr) → Decides (not (promises_well defs i.op)) (PromisesWell defs i.op → ⊥)
  bad_instr i = Decides-not (promises_well defs i.op) (op_decides i.op)

  bad_global : (g : GlobalVar) → Decides (not (is_good_align defs g.ty g.align)) (IsGoodAlign defs g.ty g.align → ⊥)
  bad_global g = Decides-not (is_good_align defs g.ty g.align) (good_decides g.ty g.align)

  func_places : (f : Func) → places (λ (i : Instr). not (promises_well defs i.op)) (λ (i : Instr). i.place) (instrs f) ≡ func_align_faults defs f
  func_places f = made_twice (λ (i : Instr). place_if (not (promises_well defs i.op)) i.place) (λ (b : Block). b.code) f.blocks

pub alignments_found : (m : Module) → IsFound (BreaksAlignments m) (earliest None (align_faults m))
alignments_found m =
    found_in_parts (λ (p : Place). AtGlobal m p (λ g. IsGoodAlign defs g.ty g.align → ⊥)) (places bad_align at_global m.globals)
    (λ (f : Func) (p : Place). AtInstr f p (λ i. PromisesWell defs i.op → ⊥)) (func_align_faults defs) m.funcs
    (at_sound bad_align at_global (λ (g : GlobalVar). IsGoodAlign defs g.ty g.align → ⊥) m.globals (λ g h. bad_global defs g))
    (at_complete bad_align at_global (λ (g : GlobalVar). IsGoodAlign defs g.ty g.align → ⊥) m.globals (λ g h. bad_global defs g))
    (λ f in_module p h. at_sound bad_op at_instr (λ (i : Instr). PromisesWell defs i.op → ⊥) (instrs f) (λ i g. bad_instr defs i) p (subst (λ (ps : List Place). Has ps p) (sym (func_places defs f)) h))
    (λ f in_module p h. subst (λ (ps : List Place). Has ps p) (func_places defs f) (at_complete bad_op at_instr (λ (i : Instr). PromisesWell defs i.op → ⊥) (instrs f) (λ i g. bad_instr defs i) p h))
  where
    defs : List TypeDef
    defs = m.types.defs

    bad_align : GlobalVar → Bool
    bad_align g = not (is_good_align m.types.defs g.ty g.align)

    at_global : GlobalVar → Place
    at_global g = g.place

    bad_op : Instr → Bool
    bad_op i = not (promises_well m.types.defs i.op)

    at_instr : Instr → Place
    at_instr i = i.place
