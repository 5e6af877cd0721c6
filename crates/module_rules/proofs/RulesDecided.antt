-- Each rule of a module as a whole is broken nowhere, or first at some place.
use Rattle.std.proofs.Common.{◌≡◌, ◌⊎◌, inl, inr, refl, sym, subst, Bool, true, false, nat_eq, nat_lt, ℕ, zero, suc, ◌+◌, ◌<◌, ◌≤◌, min, List, [], length, take, slice_get, Option, Some, None, Contains, arith}
use Rattle.std.specs.List.{list_any}
use Rattle.std.specs.Bool.{Decides}
use Rattle.std.proofs.lemmas.Bool.Decides.{nat_tests}
use Rattle.std.proofs.lemmas.List.{take_all}
use Rattle.std.proofs.lemmas.Option.{slice_get_within, get_or_from_slice_get}
use Rattle.ir_core.specs.declared.limits.TheConstants.{MOST_DATA, MOST_NAME_BYTES}
use Rattle.oi_base.specs.declared.ids.Place.{Place}
use Rattle.ir_core.specs.declared.ty.TypeName.{TypeName}
use Rattle.ir_core.specs.declared.ty.TypeDef.{TypeDef}
use Rattle.ir_core.specs.declared.module.GlobalVar.{GlobalVar}
use Rattle.ir_core.specs.declared.module.Module.{Module}
use Rattle.ir_core.specs.Acyclic.{Holds, HoldsItself}
use Rattle.ir_core.specs.Parts.{listed}
use Rattle.ir_core.specs.Proper.{IsProper}
use Rattle.ir_core.specs.Operands.{start}
use Rattle.ir_core.specs.ValidModule.{Introduced, named, name_bytes, data_end, HasTooMuchData, HasTooManyNames, BreaksMain, BreaksTotals, BreaksTarget}
use Rattle.ir_core.specs.ValidTypes.{BreaksTypeNames}
use Rattle.ir_core.specs.declared.rule.ModuleRule.{ModuleRule}
use Rattle.ir_core.specs.declared.rule.ModuleRule.TheVariants.{Main, SymbolTwice, TypeNames, Sizes, Initialisers, Totals, Alignments, Target}
use Rattle.ir_core.specs.FirstBroken.{module_rule, BreaksModule}
use Rattle.ir_core.proofs.Lists.{element}
use Rattle.module_rules.specs.First.{earlier, earliest, IsFound}
use Rattle.module_rules.specs.Faults.{place_if, with_numbers}
use Rattle.module_rules.specs.HasMain.{is_good_main}
use Rattle.module_rules.specs.Target.{has_good_target}
use Rattle.module_rules.specs.TotalFaults.{AreDataPast}
use Rattle.module_rules.specs.SymbolFaults.{symbols_of}
use Rattle.module_rules.specs.TypeFaults.{BreaksUses, uses_of, again_faults}
use Rattle.module_rules.specs.SizeFaults.{small_defs, size_faults}
use Rattle.module_rules.specs.InitFaults.{init_faults}
use Rattle.module_rules.specs.AlignFaults.{align_faults}
use Rattle.module_rules.proofs.Decided.{false_is_not_true}
use Rattle.module_rules.proofs.Earliest.{found_same, found_either}
use Rattle.module_rules.proofs.Faulty.{places}
use Rattle.module_rules.proofs.At.{found_at}
use Rattle.module_rules.proofs.Reaching.{held, HoldsWithin, IsClosedUpTo, AreReached, own_more, closed_more, reached_more, reached_first, own_first, few, none_at, closed_narrower, itself_decides, held_listed}
use Rattle.module_rules.proofs.TypeNameLaws.{BreaksSoFar, none_so_far, one_more, all_so_far}
use Rattle.module_rules.proofs.Listing.{contained}
use Rattle.module_rules.proofs.MainLaws.{main_good, main_broken}
use Rattle.module_rules.proofs.SymbolLaws.{symbols_found}
use Rattle.module_rules.proofs.UseLaws.{again_found}
use Rattle.module_rules.proofs.SizePlaces.{sizes_found}
use Rattle.module_rules.proofs.InitLaws.{inits_found}
use Rattle.module_rules.proofs.AlignLaws.{alignments_found}
use Rattle.module_rules.proofs.TotalLaws.{first_more}
use Rattle.module_rules.proofs.TargetLaws.{target_good, target_broken}

-- the first place at which a rule is broken, or that it is broken nowhere
abbrev pub Found : (Place → Type 0) → Type 0
Found Breaks = (first : Option Place) × IsFound Breaks first

-- ---- main

main_decided : (m : Module) → Found (BreaksMain m)
main_decided m = by_test (list_any (is_good_main m) m.funcs) refl
  where
    by_test : (t : Bool) → list_any (is_good_main m) m.funcs ≡ t → Found (BreaksMain m)
    by_test true e = (None, main_good m e)
    by_test false e = (Some start, main_broken m e)

-- ---- type names

module _ (defs : List TypeDef) (bound : ℕ) (bounded : (z w : TypeName) → Holds defs z w → w.0 < bound) where
  abbrev with_more : List ℕ → ℕ → List ℕ
  with_more ns y = with_numbers ns (held defs y)

  -- a set of names to which one leads, with all that these hold
  abbrev Closed : TypeName → Type 0
  Closed x = (ns : List ℕ) × AreReached defs bound x.0 ns × HoldsWithin defs ns x.0 × IsClosedUpTo defs ns (length ns)

  closing : (x : TypeName) (n at : ℕ) (ns : List ℕ) → at + n ≡ bound → AreReached defs bound x.0 ns → HoldsWithin defs ns x.0 → IsClosedUpTo defs ns at → Closed x
  closing x zero at ns sum reached own closed =
      let most = few defs bound x.0 ns reached in
      (ns, reached, own, closed_narrower defs ns at (length ns) (omega (arith, sum, most)) closed)
  closing x (suc n) at ns sum reached own closed = by_next (slice_get ns at) refl (λ ms r o c. closing x n (at + 1) ms (omega (arith, sum)) r o c)
    where
      by_next : (o : Option ℕ) → slice_get ns at ≡ o → ((ms : List ℕ) → AreReached defs bound x.0 ms → HoldsWithin defs ms x.0 → IsClosedUpTo defs ms (at + 1) → Closed x) → Closed x
      by_next None e go_on = let past = none_at ns at e in (ns, reached, own, closed_narrower defs ns at (length ns) past closed)
      by_next (Some y) e go_on =
          go_on (with_more ns y)
          (reached_more defs bound x.0 ns y reached (reached.lead y (contained ns at y e)) bounded)
          (own_more defs ns x.0 y own)
          (closed_more defs ns at y e closed)

  closure : (x : TypeName) → Closed x
  closure x =
      closing x bound 0 (with_more [] x.0) (omega arith) (reached_first defs bound x.0 bounded) (own_first defs x.0)
      (λ k y lt. absurd (omega (arith, lt)))

  decide_itself : (x : TypeName) → HoldsItself defs x ⊎ (HoldsItself defs x → ⊥)
  decide_itself x = let c = closure x in by_test (list_any (nat_eq x.0) c.0) (itself_decides defs x c.0 c.2 c.3 bound c.1)
    where
      by_test : (t : Bool) → Decides t (HoldsItself defs x) → HoldsItself defs x ⊎ (HoldsItself defs x → ⊥)
      by_test true d = inl (d.0 refl)
      by_test false d = inr (λ h. false_is_not_true (d.1 h))

module _ (m : Module) (proper : IsProper m) where
  uses_found : IsFound (BreaksUses m) (earliest (uses_of m).first (again_faults (uses_of m).used [] m.types.defs))
  uses_found = again_found m

  names_so_far : (n : ℕ) → n ≤ length m.types.defs → Found (BreaksSoFar m n)
  names_so_far zero le = (earliest (uses_of m).first (again_faults (uses_of m).used [] m.types.defs), none_so_far m _ uses_found)
  names_so_far (suc n) le =
      let d = element m.types.defs n (omega (arith, le)) in
      subst (λ (k : ℕ). Found (BreaksSoFar m k)) one_on (by_name d.0 d.1 (decide_itself m.types.defs (length m.types.names) (held_listed m proper) d.0.name) (names_so_far n (omega (arith, le))))
    where
      one_on : n + 1 ≡ suc n
      one_on = omega arith

      by_name : (d : TypeDef) → slice_get m.types.defs n ≡ Some d → HoldsItself m.types.defs d.name ⊎ (HoldsItself m.types.defs d.name → ⊥) → Found (BreaksSoFar m n) → Found (BreaksSoFar m (n + 1))
      by_name d e (inl h) f = (earlier f.0 d.place, one_more m n d e f.0 (earlier f.0 d.place) (inl (h, refl)) f.1)
      by_name d e (inr h) f = (f.0, one_more m n d e f.0 f.0 (inr (inl h, refl)) f.1)

  names_decided : Found (BreaksTypeNames m)
  names_decided = let f = names_so_far (length m.types.defs) (omega arith) in (f.0, all_so_far m (length m.types.defs) f.0 (omega arith) f.1)

-- ---- totals

module _ (defs : List TypeDef) (globals : List GlobalVar) where
  data_so_far : (n : ℕ) → n ≤ length globals → Found (AreDataPast defs (take n globals))
  data_so_far zero le = (None, λ p b. absurd (let at : slice_get [] b.0 ≡ Some b.1 = b.2 in cc))
  data_so_far (suc n) le = by_global (element globals n (omega (arith, le))) (data_so_far n (omega (arith, le)))
    where
      by_global : ((g : GlobalVar) × (slice_get globals n ≡ Some g)) → Found (AreDataPast defs (take n globals)) → Found (AreDataPast defs (take (suc n) globals))
      by_global (g, e) f =
          let next = min (data_end defs (take (n + 1) globals)) (MOST_DATA + 1) in
          let one_on : n + 1 ≡ suc n = omega arith in
          subst (λ (k : ℕ). Found (AreDataPast defs (take k globals))) one_on
          (earliest f.0 (place_if (nat_lt MOST_DATA next) g.place), first_more defs globals n g (slice_get_within globals n g e) (sym (get_or_from_slice_get globals n g g e)) next f.0 refl f.1)

  data_decided : Found (AreDataPast defs globals)
  data_decided = let f = data_so_far (length globals) (omega arith) in subst (λ (gs : List GlobalVar). Found (AreDataPast defs gs)) (take_all (length globals) globals (omega arith)) f

module _ (m : Module) where
  abbrev is_past : Introduced → Bool
  is_past a = nat_lt MOST_NAME_BYTES (name_bytes m a.place)

  names_past : Found (HasTooManyNames m)
  names_past = (
    earliest None (places is_past (λ (a : Introduced). a.place) (named m)),
    found_same (λ (p : Place). (a : Introduced) × Contains (named m) a × (a.place ≡ p) × (MOST_NAME_BYTES < name_bytes m a.place)) (HasTooManyNames m) (earliest None (places is_past (λ (a : Introduced). a.place) (named m)))
        (found_at is_past (λ (a : Introduced). a.place) (λ (a : Introduced). MOST_NAME_BYTES < name_bytes m a.place) (λ a e. past (name_bytes m a.place) e) (λ a lt. is_less (name_bytes m a.place) lt) (named m))
        (λ p b. (b.0, b.1, b.2, subst (λ (q : Place). MOST_NAME_BYTES < name_bytes m q) b.2 b.3))
        (λ p b. (b.0, b.1, b.2, subst (λ (q : Place). MOST_NAME_BYTES < name_bytes m q) (sym b.2) b.3)),
  )
    where
      past : (n : ℕ) → nat_lt MOST_NAME_BYTES n ≡ true → MOST_NAME_BYTES < n
      past n e = grind (arith, nat_tests)

      is_less : (n : ℕ) → MOST_NAME_BYTES < n → nat_lt MOST_NAME_BYTES n ≡ true
      is_less n lt = grind (arith, nat_tests)

  totals_decided : Found (BreaksTotals m)
  totals_decided =
      let d = data_decided m.types.defs m.globals in
      let n = names_past in
      (earliest d.0 (listed n.0), found_either (HasTooMuchData m) (HasTooManyNames m) d.0 n.0 d.1 n.1)

  -- ---- the target

  target_decided : Found (BreaksTarget m)
  target_decided = by_test (has_good_target m) refl
    where
      by_test : (t : Bool) → has_good_target m ≡ t → Found (BreaksTarget m)
      by_test true e = (None, target_good m e)
      by_test false e = (Some start, target_broken m e)

-- ---- all of them

pub decided : (m : Module) (r : ModuleRule) → IsProper m → ((s : ModuleRule) (p : Place) → module_rule s < module_rule r → BreaksModule m s p → ⊥) → Found (BreaksModule m r)
decided m Main proper lower = main_decided m
decided m SymbolTwice proper lower = ((symbols_of m).first, symbols_found m)
decided m TypeNames proper lower = names_decided m proper
decided m Sizes proper lower = (earliest None (size_faults m (small_defs m.types.defs)), sizes_found m (λ p b. lower TypeNames p (omega arith) b))
decided m Initialisers proper lower = (earliest None (init_faults m), inits_found m)
decided m Totals proper lower = totals_decided m
decided m Alignments proper lower = (earliest None (align_faults m), alignments_found m)
decided m Target proper lower = target_decided m
