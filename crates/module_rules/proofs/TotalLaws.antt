-- The places at which the rule of totals is broken.
use Rattle.std.proofs.Common.{◌≡◌, ◌⊎◌, inl, inr, refl, sym, ap, ◌∙◌, subst, ⊎_elim, Bool, true, false, nat_lt, ℕ, ◌+◌, ◌<◌, ◌≤◌, min, List, [], ◌∷◌, ◌++◌, length, take, slice_index_or, slice_get, Option, Some, arith}
use Rattle.std.specs.Int.{next_multiple_of}
use Rattle.std.proofs.lemmas.Bool.{cases_lt}
use Rattle.std.proofs.lemmas.Bool.Decides.{nat_tests}
use Rattle.std.proofs.lemmas.List.{take_more, take_all, take-append-le, length_push}
use Rattle.std.proofs.lemmas.List.Sums.{fold_push}
use Rattle.std.proofs.lemmas.Option.{slice_get_within}
use Rattle.ir_core.specs.declared.limits.TheConstants.{LARGEST, MOST_DATA}
use Rattle.oi_base.specs.declared.ids.Place.{Place}
use Rattle.ir_core.specs.declared.ty.TypeDef.{TypeDef}
use Rattle.ir_core.specs.declared.module.GlobalVar.{GlobalVar}
use Rattle.ir_core.specs.Operands.{is_up_to}
use Rattle.ir_core.specs.Sizes.{size}
use Rattle.ir_core.specs.ValidModule.{global_align, data_end}
use Rattle.module_rules.specs.First.{earliest, IsFound}
use Rattle.module_rules.specs.Faults.{place_if}
use Rattle.module_rules.specs.TotalFaults.{AreDataPast}
use Rattle.module_rules.proofs.Distinct.{at_in_first, at_last, last_at}
use Rattle.module_rules.proofs.Earliest.{up_to_itself, found_more, found_same}

-- an end that stands for one after the most gives one again
capped : (e a s : ℕ) → min (next_multiple_of (min e (MOST_DATA + 1)) a + min s (LARGEST + 1)) (MOST_DATA + 1) ≡ min (next_multiple_of e a + s) (MOST_DATA + 1)
capped e a s = ⊎_elim
    (λ (lt : e < (MOST_DATA + 1)). let same : min e (MOST_DATA + 1) ≡ e = omega (arith, lt) in rw same (omega arith))
    (λ (le : (MOST_DATA + 1) ≤ e). let most : min e (MOST_DATA + 1) ≡ (MOST_DATA + 1) = omega (arith, le) in rw most (omega (arith, le)))
    (cases_lt e (MOST_DATA + 1))

past_cap : (n : ℕ) → nat_lt MOST_DATA (min n (MOST_DATA + 1)) ≡ nat_lt MOST_DATA n
past_cap n = ⊎_elim
    (λ (lt : n < (MOST_DATA + 1)). let same : min n (MOST_DATA + 1) ≡ n = omega (arith, lt) in ap (nat_lt MOST_DATA) same)
    (λ (le : (MOST_DATA + 1) ≤ n). let most : min n (MOST_DATA + 1) ≡ (MOST_DATA + 1) = omega (arith, le) in rw most (grind (arith, nat_tests)))
    (cases_lt n (MOST_DATA + 1))

module _ (defs : List TypeDef) where
  -- one global more
  module _ (gs : List GlobalVar) (g : GlobalVar) where
    abbrev more : List GlobalVar
    more = gs ++ g ∷ []

    kept : (p : Place) → AreDataPast defs gs p → AreDataPast defs more p
    kept p (i, h, at, there, past) =
        let lt = slice_get_within gs i h at in
        (i, h, at_in_first gs (g ∷ []) i h at, there, subst (λ (hs : List GlobalVar). MOST_DATA < data_end defs hs) (sym (take-append-le (i + 1) gs (g ∷ []) (omega (arith, lt)))) past)

    whole : take (length gs + 1) more ≡ more
    whole = let long = length_push gs g in take_all (length gs + 1) more (omega (arith, long))

    split : (p : Place) → AreDataPast defs more p → AreDataPast defs gs p ⊎ ((g.place ≡ p) × (MOST_DATA < data_end defs more))
    split p (i, h, at, there, past) = by_index (at_last gs g h i at)
      where
        by_index : (slice_get gs i ≡ Some h) ⊎ ((i ≡ length gs) × (h ≡ g)) → AreDataPast defs gs p ⊎ ((g.place ≡ p) × (MOST_DATA < data_end defs more))
        by_index (inl e) =
            let lt = slice_get_within gs i h e in
            inl (i, h, e, there, subst (λ (hs : List GlobalVar). MOST_DATA < data_end defs hs) (take-append-le (i + 1) gs (g ∷ []) (omega (arith, lt))) past)
        by_index (inr e) =
            inr (subst (λ (k : GlobalVar). k.place ≡ p) e.1 there, subst (λ (hs : List GlobalVar). MOST_DATA < data_end defs hs) (ap (λ (n : ℕ). take (n + 1) more) e.0 ∙ whole) past)

    data_more : (first : Option Place) → IsFound (AreDataPast defs gs) first → IsFound (AreDataPast defs more) (earliest first (place_if (nat_lt MOST_DATA (data_end defs more)) g.place))
    data_more first f = by_test (nat_lt MOST_DATA (data_end defs more)) refl
      where
        by_test : (t : Bool) → nat_lt MOST_DATA (data_end defs more) ≡ t → IsFound (AreDataPast defs more) (earliest first (place_if t g.place))
        by_test true t =
            let past : MOST_DATA < data_end defs more = grind (arith, nat_tests) in
            found_more (AreDataPast defs gs) (AreDataPast defs more) first g.place f kept
            (length gs, g, last_at gs g, refl, subst (λ (hs : List GlobalVar). MOST_DATA < data_end defs hs) (sym whole) past) (λ p b. only p (split p b))
          where
            only : (p : Place) → AreDataPast defs gs p ⊎ ((g.place ≡ p) × (MOST_DATA < data_end defs more)) → AreDataPast defs gs p ⊎ (is_up_to g.place p ≡ true)
            only p (inl h) = inl h
            only p (inr e) = inr (subst (λ (q : Place). is_up_to g.place q ≡ true) e.0 (up_to_itself g.place))
        by_test false t = found_same (AreDataPast defs gs) (AreDataPast defs more) first f kept (λ p b. back p (split p b))
          where
            back : (p : Place) → AreDataPast defs gs p ⊎ ((g.place ≡ p) × (MOST_DATA < data_end defs more)) → AreDataPast defs gs p
            back p (inl h) = h
            back p (inr e) = absurd (let past = e.1 in grind (arith, nat_tests))

  -- a turn of the loop over the globals
  module _ (globals : List GlobalVar) (i : ℕ) (g : GlobalVar) (within : i < length globals) (is : g ≡ slice_index_or globals i g) where
    one_more : take (i + 1) globals ≡ take i globals ++ g ∷ []
    one_more = take_more globals i g within ∙ ap (λ (h : GlobalVar). take i globals ++ h ∷ []) (sym is)

    pub end_more : (end next : ℕ) → next ≡ min (next_multiple_of end (global_align defs g) + min (size defs g.ty) (LARGEST + 1)) (MOST_DATA + 1) → end ≡ min (data_end defs (take i globals)) (MOST_DATA + 1)
        → next ≡ min (data_end defs (take (i + 1) globals)) (MOST_DATA + 1)
    end_more end next e before =
        e ∙ ap (λ (n : ℕ). min (next_multiple_of n (global_align defs g) + min (size defs g.ty) (LARGEST + 1)) (MOST_DATA + 1)) before
        ∙ capped (data_end defs (take i globals)) (global_align defs g) (size defs g.ty)
        ∙ ap (λ (n : ℕ). min n (MOST_DATA + 1)) (sym (ap (data_end defs) one_more ∙ fold_push (λ (end' : ℕ) (h : GlobalVar). next_multiple_of end' (global_align defs h) + size defs h.ty) 0 (take i globals) g))

    pub first_more : (next : ℕ) (first : Option Place) → next ≡ min (data_end defs (take (i + 1) globals)) (MOST_DATA + 1) → IsFound (AreDataPast defs (take i globals)) first
        → IsFound (AreDataPast defs (take (i + 1) globals)) (earliest first (place_if (nat_lt MOST_DATA next) g.place))
    first_more next first e f =
        subst (λ (t : Bool). IsFound (AreDataPast defs (take (i + 1) globals)) (earliest first (place_if t g.place))) (sym (ap (nat_lt MOST_DATA) e ∙ past_cap (data_end defs (take (i + 1) globals))))
        (subst (λ (hs : List GlobalVar). IsFound (AreDataPast defs hs) (earliest first (place_if (nat_lt MOST_DATA (data_end defs hs)) g.place))) (sym one_more) (data_more (take i globals) g first f))
