-- The places at which the rule of sizes is broken.
use Rattle.std.proofs.Common.{◌≡◌, ◌⊎◌, inl, inr, refl, sym, ap, ◌∙◌, subst, ⊎_elim, Bool, true, nat_lt, ℕ, ◌*◌, ◌<◌, ℤ, pos, negsuc, List, [], ◌∷◌, ◌++◌, map, Some, None, Contains, arith}
use Rattle.std.specs.List.{list_any}
use Rattle.std.specs.Bool.{Decides}
use Rattle.std.proofs.lemmas.Bool.Decides.{Decides-or, nat_tests}
use Rattle.ir_core.specs.declared.limits.TheConstants.{LARGEST}
use Rattle.oi_base.specs.declared.ids.Place.{Place}
use Rattle.ir_core.specs.declared.ty.TypeDef.{TypeDef}
use Rattle.ir_core.specs.declared.ty.IrType.{IrType}
use Rattle.ir_core.specs.declared.module.GlobalVar.{GlobalVar}
use Rattle.ir_core.specs.declared.module.Module.{Module}
use Rattle.ir_core.specs.declared.op.Op.{Op}
use Rattle.ir_core.specs.declared.op.Op.TheVariants.{Bin, Icmp, Select, Cast, Alloca, Load, Store, Gep, Phi, Call}
use Rattle.ir_core.specs.declared.func.Instr.{Instr}
use Rattle.ir_core.specs.declared.func.Block.{Block}
use Rattle.ir_core.specs.declared.func.Func.{Func}
use Rattle.ir_core.specs.Parts.{instrs, op_values, end_values}
use Rattle.ir_core.specs.Sizes.{size, IsLaid}
use Rattle.ir_core.specs.Operands.{Step, Does, Ends, block_steps, steps, place_of, AtStep, AtInstr, AtGlobal}
use Rattle.ir_core.specs.ValidTypes.{const_sources, sources_in_values, op_sized, step_sized, IsTooLarge, OneIsTooLarge, MakesTooMuch, BreaksTypeNames, BreaksSizes}
use Rattle.ir_core.proofs.Lists.{Has, has_left, has_part, contains}
use Rattle.module_rules.specs.First.{earliest, IsFound}
use Rattle.module_rules.specs.SizeFaults.{small_defs, is_too_large, count_is_above, makes_too_much, step_is_too_large, global_is_too_large, func_size_faults, size_faults}
use Rattle.module_rules.proofs.At.{step_places}
use Rattle.module_rules.proofs.Decided.{false_is_not_true}
use Rattle.module_rules.proofs.Faulty.{has, places}
use Rattle.module_rules.proofs.InParts.{some_decides, at_sound, at_complete, found_in_parts}
use Rattle.module_rules.proofs.Sets.{has_made}
use Rattle.module_rules.proofs.SizeLaws.{large_decides}
use Rattle.module_rules.proofs.SizeUses.{global_laid, step_laid}

-- ---- instructions among the steps of a function

does_in : (code : List Instr) (b : Block) (i : Instr) → Has (map (λ (j : Instr). Does j) code ++ Ends b ∷ []) (Does i) → Has code i
does_in [] b i (inl e) = absurd (let clash : Ends b ≡ Does i = e in cc)
does_in [] b i (inr h) = absurd h
does_in (j ∷ js) b i (inl e) = inl (let same : Does j ≡ Does i = e in cc)
does_in (j ∷ js) b i (inr h) = inr (does_in js b i h)

does_has : (code : List Instr) (i : Instr) → Has code i → Has (map (λ (j : Instr). Does j) code) (Does i)
does_has [] i h = absurd h
does_has (j ∷ js) i (inl e) = inl (ap (λ (x : Instr). Does x) e)
does_has (j ∷ js) i (inr h) = inr (does_has js i h)

instr_of : (f : Func) (i : Instr) → Contains (steps f) (Does i) → Contains (instrs f) i
instr_of f i c =
    let b = has_made block_steps f.blocks (Does i) (has (steps f) (Does i) c) in
    contains (instrs f) i (has_part (λ (k : Block). k.code) f.blocks b.0 i b.1 (does_in b.0.code b.0 i b.2))

step_of : (f : Func) (i : Instr) → Contains (instrs f) i → Contains (steps f) (Does i)
step_of f i c =
    let b = has_made (λ (k : Block). k.code) f.blocks i (has (instrs f) i c) in
    contains (steps f) (Does i) (has_part block_steps f.blocks b.0 (Does i) b.1 (has_left (map (λ (j : Instr). Does j) b.0.code) (Ends b.0 ∷ []) (Does i) (does_has b.0.code i b.2)))

-- ---- tests that decide

above_is : (n : ℕ) → Decides (nat_lt LARGEST n) (LARGEST < n)
above_is n = (λ e. grind (arith, nat_tests), λ h. grind (arith, nat_tests))

module _ (defs : List TypeDef) where
  one_decides : (ts : List IrType) → ((t : IrType) → Has ts t → IsLaid defs t) → Decides (list_any (is_too_large defs (small_defs defs)) ts) (OneIsTooLarge defs ts)
  one_decides ts laid = some_decides (is_too_large defs (small_defs defs)) (IsTooLarge defs) ts (λ t h. large_decides defs t (laid t h))

  -- the count of an alloca
  makes_of : (i : Instr) (op : Op) → i.op ≡ op → makes_too_much defs op ≡ true → MakesTooMuch defs i
  makes_of i (Alloca t (Some n) a) is e = of_count n.count refl e
    where
      of_count : (z : ℤ) → n.count ≡ z → count_is_above z (size defs t) ≡ true → MakesTooMuch defs i
      of_count (pos k) c g = (t, n, a, k, is, c, (above_is (k * size defs t)).0 g)
      of_count (negsuc k) c g = absurd (false_is_not_true g)
  makes_of i (Alloca t None a) is e = absurd (false_is_not_true e)
  makes_of i (Bin op t a b) is e = absurd (false_is_not_true e)
  makes_of i (Icmp c t a b) is e = absurd (false_is_not_true e)
  makes_of i (Select c a b) is e = absurd (false_is_not_true e)
  makes_of i (Cast c a t) is e = absurd (false_is_not_true e)
  makes_of i (Load t a align) is e = absurd (false_is_not_true e)
  makes_of i (Store a p align) is e = absurd (false_is_not_true e)
  makes_of i (Gep t a as') is e = absurd (false_is_not_true e)
  makes_of i (Phi t es) is e = absurd (false_is_not_true e)
  makes_of i (Call t f as') is e = absurd (false_is_not_true e)

  of_makes : (i : Instr) → MakesTooMuch defs i → makes_too_much defs i.op ≡ true
  of_makes i (t, n, a, k, is, c, lt) = ap (makes_too_much defs) is ∙ ap (λ (z : ℤ). count_is_above z (size defs t)) c ∙ (above_is (k * size defs t)).1 lt

  makes_decides : (i : Instr) → Decides (makes_too_much defs i.op) (MakesTooMuch defs i)
  makes_decides i = (makes_of i i.op refl, of_makes i)

  abbrev MakesAt : Step → Type 0
  MakesAt (Does i) = MakesTooMuch defs i
  MakesAt (Ends b) = ⊥

  abbrev TooLargeAt : Step → Type 0
  TooLargeAt s = OneIsTooLarge defs (step_sized s) ⊎ MakesAt s

  step_decides : (s : Step) → ((t : IrType) → Has (step_sized s) t → IsLaid defs t) → Decides (step_is_too_large defs (small_defs defs) s) (TooLargeAt s)
  step_decides (Does i) laid =
      Decides-or (list_any (is_too_large defs (small_defs defs)) (op_sized i.op ++ sources_in_values (op_values i.op))) (makes_too_much defs i.op)
      (one_decides (op_sized i.op ++ sources_in_values (op_values i.op)) laid) (makes_decides i)
  step_decides (Ends b) laid =
      let d = one_decides (sources_in_values (end_values b.end)) laid in
      (λ e. inl (d.0 e), λ h. ⊎_elim d.1 (λ g. absurd g) h)

  -- ---- functions

  abbrev InFunc : Func → Place → Type 0
  InFunc f p = AtStep f p (λ s. OneIsTooLarge defs (step_sized s)) ⊎ AtInstr f p (MakesTooMuch defs)

  split : (f : Func) (p : Place) → AtStep f p TooLargeAt → InFunc f p
  split f p (s, c, e, inl one) = inl (s, c, e, one)
  split f p (Does i, c, e, inr makes) = inr (i, instr_of f i c, e, makes)
  split f p (Ends b, c, e, inr makes) = absurd makes

  joined : (f : Func) (p : Place) → InFunc f p → AtStep f p TooLargeAt
  joined f p (inl (s, c, e, one)) = (s, c, e, inl one)
  joined f p (inr (i, c, e, makes)) = (Does i, step_of f i c, e, inr makes)

-- ---- the module

pub sizes_found : (m : Module) → ((p : Place) → BreaksTypeNames m p → ⊥) → IsFound (BreaksSizes m) (earliest None (size_faults m (small_defs m.types.defs)))
sizes_found m unbroken =
    found_in_parts (λ (p : Place). AtGlobal m p IsLargeGlobal) (places bad_global at_global m.globals) (InFunc defs) (func_size_faults defs small) m.funcs
    (at_sound bad_global at_global IsLargeGlobal m.globals global_decides)
    (at_complete bad_global at_global IsLargeGlobal m.globals global_decides)
    (λ f h p g. split defs f p (at_sound bad_step place_of (TooLargeAt defs) (steps f) (decides_in f h) p (subst (λ (ps : List Place). Has ps p) (step_places bad_step f.blocks) g)))
    (λ f h p g. subst (λ (ps : List Place). Has ps p) (sym (step_places bad_step f.blocks)) (at_complete bad_step place_of (TooLargeAt defs) (steps f) (decides_in f h) p (joined defs f p g)))
  where
    defs : List TypeDef
    defs = m.types.defs

    small : List TypeDef
    small = small_defs m.types.defs

    bad_global : GlobalVar → Bool
    bad_global g = global_is_too_large m.types.defs (small_defs m.types.defs) g

    at_global : GlobalVar → Place
    at_global g = g.place

    IsLargeGlobal : GlobalVar → Type 0
    IsLargeGlobal g = OneIsTooLarge m.types.defs (g.ty ∷ const_sources g.init)

    global_decides : (g : GlobalVar) → Has m.globals g → Decides (bad_global g) (IsLargeGlobal g)
    global_decides g h = one_decides m.types.defs (g.ty ∷ const_sources g.init) (global_laid m unbroken g h)

    bad_step : Step → Bool
    bad_step s = step_is_too_large m.types.defs (small_defs m.types.defs) s

    decides_in : (f : Func) → Has m.funcs f → (s : Step) → Has (steps f) s → Decides (bad_step s) (TooLargeAt m.types.defs s)
    decides_in f h s g = step_decides m.types.defs s (step_laid m unbroken f h s g)
