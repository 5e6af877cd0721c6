-- What a table tells after one definition more.
use Rattle.std.proofs.Common.{◌≡◌, ◌≢◌, ◌⊎◌, inl, inr, ℕ, ◌+◌, ◌<◌, ◌≤◌, Bool, true, false, not, ◌&&◌, nat_eq, if◌then◌else◌, List, [], ◌∷◌, ◌++◌, Option, Some, None, Contains, refl, sym, ap, ◌∙◌, subst, arith}
use Rattle.std.specs.List.{filter_map, cons_option}
use Rattle.std.proofs.lemmas.Bool.Decides.{nat_tests}
use Rattle.oi_base.specs.declared.ids.RegId.{RegId}
use Rattle.ir_core.specs.declared.flat.FlatInstr.{FlatInstr}
use Rattle.ir_core.specs.Formed.{result_of, of_result, written_by}
use Rattle.ir_core.proofs.Lists.{contains, has_in, has_left, has_right}
use Rattle.local_passes.specs.declared.copy_table.Definition.{Definition}
use Rattle.local_passes.specs.declared.copy_table.CopyTable.{CopyTable}
use Rattle.local_passes.specs.LocalCopies.{Sources, no_copies, source_given, redefined, with_write, past}
use Rattle.local_passes.specs.CopyTables.{definition, is_between, source_if, source_by, source_in, sources_in, IsTimed, Extends}

-- ---- tests of times

now_in : (start t x : ℕ) → start ≤ t → (is_between start (t + 1) (t + 1) && not (is_between (t + 1) (t + 1) x)) ≡ true
now_in start t x h = grind (arith, nat_tests)

later_out : (start t u : ℕ) → u ≤ t → (is_between start (t + 1) u && not (is_between u (t + 1) (t + 1))) ≡ false
later_out start t u h = grind (arith, nat_tests)

same_in : (start t u x : ℕ) → u ≤ t → x ≤ t → (is_between start (t + 1) u && not (is_between u (t + 1) x)) ≡ (is_between start t u && not (is_between u t x))
same_in start t u x h g = grind (arith, nat_tests)

none_in : (t x : ℕ) (b : Bool) → (is_between t t x && b) ≡ false
none_in t x b = grind (arith, nat_tests)

before_out : (start end x : ℕ) (b : Bool) → end < x → (is_between start end x && b) ≡ false
before_out start end x b h = grind (arith, nat_tests)

never_out : (start end : ℕ) (b : Bool) → (is_between start end 0 && b) ≡ false
never_out start end b = grind (arith, nat_tests)

not_between : (u end x : ℕ) → end < x → is_between u end x ≡ false
not_between u end x h = grind (arith, nat_tests)

never_between : (u end : ℕ) → is_between u end 0 ≡ false
never_between u end = grind (arith, nat_tests)

-- ---- one definition more

module _ (old new : List (Option Definition)) (start t r c : ℕ) (timed : (q : ℕ) → (definition old q).time ≤ t) (started : start ≤ t)
    (same : definition new r ≡ record { time = t + 1; source = record { 0 = c } }) (others : (q : ℕ) → q ≢ r → definition new q ≡ definition old q) where
  own : source_by new start (t + 1) (record { time = t + 1; source = record { 0 = c } }) r ≡ c
  own = ap (λ b. source_if b c r) (now_in start t (definition new c).time started)

  other : (q : ℕ) → q ≢ r → (d : Definition) → d.time ≤ t → source_by new start (t + 1) d q ≡ (if nat_eq (source_by old start t d q) r then q else source_by old start t d q)
  other q ne d early = by_source (nat_eq d.source.0 r) refl
    where
      not_r : nat_eq q r ≡ false
      not_r = grind (arith, nat_tests)

      stays : (b : Bool) → d.source.0 ≢ r → source_if b d.source.0 q ≡ (if nat_eq (source_if b d.source.0 q) r then q else source_if b d.source.0 q)
      stays true h = let e : nat_eq d.source.0 r ≡ false = grind (arith, nat_tests) in ap (λ b. if b then q else d.source.0) (sym e)
      stays false h = ap (λ b. if b then q else q) (sym not_r)

      goes : (b : Bool) → nat_eq d.source.0 r ≡ true → q ≡ (if nat_eq (source_if b d.source.0 q) r then q else source_if b d.source.0 q)
      goes true h = ap (λ b. if b then q else d.source.0) (sym h)
      goes false h = ap (λ b. if b then q else q) (sym not_r)

      by_source : (b : Bool) → nat_eq d.source.0 r ≡ b → source_by new start (t + 1) d q ≡ (if nat_eq (source_by old start t d q) r then q else source_by old start t d q)
      by_source true e =
          let here : d.source.0 ≡ r = grind (arith, nat_tests) in
          let time : (definition new d.source.0).time ≡ t + 1 = ap (λ n. (definition new n).time) here ∙ ap (λ (x : Definition). x.time) same in
          ap (λ n. source_if (is_between start (t + 1) d.time && not (is_between d.time (t + 1) n)) d.source.0 q) time
          ∙ ap (λ b. source_if b d.source.0 q) (later_out start t d.time early)
          ∙ goes (is_between start t d.time && not (is_between d.time t (definition old d.source.0).time)) e
      by_source false e =
          let away : d.source.0 ≢ r = λ h. absurd (grind (arith, nat_tests)) in
          let time : (definition new d.source.0).time ≡ (definition old d.source.0).time = ap (λ (x : Definition). x.time) (others d.source.0 away) in
          ap (λ n. source_if (is_between start (t + 1) d.time && not (is_between d.time (t + 1) n)) d.source.0 q) time
          ∙ ap (λ b. source_if b d.source.0 q) (same_in start t d.time (definition old d.source.0).time early (timed d.source.0))
          ∙ stays (is_between start t d.time && not (is_between d.time t (definition old d.source.0).time)) away

  pub defined_sources : source_in new start (t + 1) ≡ redefined (source_in old start t) r c
  defined_sources = λ i q. at q (nat_eq q r) refl i
    where
      at : (q : ℕ) (b : Bool) → nat_eq q r ≡ b → source_in new start (t + 1) q ≡ (if b then c else (if nat_eq (source_in old start t q) r then q else source_in old start t q))
      at q true e =
          let here : q ≡ r = grind (arith, nat_tests) in
          ap (source_in new start (t + 1)) here ∙ ap (λ d. source_by new start (t + 1) d r) same ∙ own
      at q false e =
          let away : q ≢ r = λ h. absurd (grind (arith, nat_tests)) in
          ap (λ d. source_by new start (t + 1) d q) (others q away) ∙ other q away (definition old q) (timed q)

-- at the start of a span no register is a copy
pub fresh : (ds : List (Option Definition)) (t : ℕ) → source_in ds t t ≡ no_copies
fresh ds t = λ i q. at q i
  where
    at : (q : ℕ) → source_in ds t t q ≡ q
    at q = let d = definition ds q in ap (λ b. source_if b d.source.0 q) (none_in t d.time (not (is_between d.time t (definition ds d.source.0).time)))

-- a register's definition is the same, or its first one, after the end
abbrev pub FirstAfter : ℕ → Definition → Definition → Type 0
FirstAfter end d e = (e ≡ d) ⊎ ((d.time ≡ 0) × (end < e.time))

-- where registers are defined for the first time after a span, it tells the same
pub kept_sources : (old new : List (Option Definition)) (start end : ℕ) → ((q : ℕ) → FirstAfter end (definition old q) (definition new q)) → source_in new start end ≡ source_in old start end
kept_sources old new start end first = λ i q. at q (first q) i
  where
    test_of : (d : Definition) → FirstAfter end (definition old d.source.0) (definition new d.source.0) → is_between d.time end (definition new d.source.0).time ≡ is_between d.time end (definition old d.source.0).time
    test_of d (inl same) = ap (λ (x : Definition). is_between d.time end x.time) same
    test_of d (inr h) = not_between d.time end _ h.1 ∙ sym (never_between d.time end) ∙ ap (is_between d.time end) (sym h.0)

    at : (q : ℕ) → FirstAfter end (definition old q) (definition new q) → source_in new start end q ≡ source_in old start end q
    at q (inl same) =
        ap (λ d. source_by new start end d q) same
        ∙ ap (λ b. source_if (is_between start end (definition old q).time && not b) (definition old q).source.0 q) (test_of (definition old q) (first (definition old q).source.0))
    at q (inr h) =
        let e = definition new q in
        let d = definition old q in
        ap (λ b. source_if b e.source.0 q) (before_out start end e.time (not (is_between e.time end (definition new e.source.0).time)) h.1)
        ∙ sym (ap (λ n. source_if (is_between start end n && not (is_between n end (definition old d.source.0).time)) d.source.0 q) h.0
        ∙ ap (λ b. source_if b d.source.0 q) (never_out start end (not (is_between 0 end (definition old d.source.0).time))))

-- ---- tables

pub extends_more : (a b c : CopyTable) (xs ys : List FlatInstr) → Extends a b xs → Extends b c ys → Extends a c (xs ++ ys)
extends_more a b c xs ys e f = record {
  time = let p = e.time in let q = f.time in omega (arith, p, q);
  each = λ q. by_last q (f.each q) (e.each q);
}
  where
    joined : (ws : List FlatInstr) → filter_map written_by (ws ++ ys) ≡ filter_map written_by ws ++ filter_map written_by ys
    joined [] = refl
    joined (w ∷ ws) = ap (cons_option (written_by w)) (joined ws) ∙ by_write (written_by w)
      where
        by_write : (o : Option ℕ) → cons_option o (filter_map written_by ws ++ filter_map written_by ys) ≡ cons_option o (filter_map written_by ws) ++ filter_map written_by ys
        by_write None = refl
        by_write (Some r) = refl

    in_all : (q : ℕ) → Contains (filter_map written_by xs ++ filter_map written_by ys) q → Contains (filter_map written_by (xs ++ ys)) q
    in_all q h = subst (λ rs. Contains rs q) (sym (joined xs)) h

    by_last : (q : ℕ) → (definition c.definitions.items q ≡ definition b.definitions.items q) ⊎ ((b.time < (definition c.definitions.items q).time) × Contains (filter_map written_by ys) q)
        → (definition b.definitions.items q ≡ definition a.definitions.items q) ⊎ ((a.time < (definition b.definitions.items q).time) × Contains (filter_map written_by xs) q)
        → (definition c.definitions.items q ≡ definition a.definitions.items q) ⊎ ((a.time < (definition c.definitions.items q).time) × Contains (filter_map written_by (xs ++ ys)) q)
    by_last q (inl same) (inl was) = inl (same ∙ was)
    by_last q (inl same) (inr h) = inr (
      subst (λ (d : Definition). a.time < d.time) (sym same) h.0,
      in_all q (contains (filter_map written_by xs ++ filter_map written_by ys) q (has_left (filter_map written_by xs) (filter_map written_by ys) q (has_in (filter_map written_by xs) q h.1))),
    )
    by_last q (inr h) was = inr (
      let p = e.time in let lt = h.0 in omega (arith, p, lt),
      in_all q (contains (filter_map written_by xs ++ filter_map written_by ys) q (has_right (filter_map written_by xs) (filter_map written_by ys) q (has_in (filter_map written_by ys) q h.1))),
    )

pub extends_none : (a : CopyTable) → Extends a a []
extends_none a = record { time = omega arith; each = λ q. inl refl }

-- an instruction without a result
pub without_write : (s : Sources) (i : FlatInstr) → None ≡ result_of i → s ≡ past s (Some i)
without_write s i e = ap (λ o. with_write s i (of_result o)) e

pub with_one : (s : Sources) (i : FlatInstr) (d : RegId) → Some d ≡ result_of i → redefined s d.0 (source_given s d.0 i) ≡ past s (Some i)
with_one s i d e = ap (λ o. with_write s i (of_result o)) e

pub writes_one : (i : FlatInstr) (d : RegId) → Some d ≡ result_of i → Contains (filter_map written_by (i ∷ [])) d.0
writes_one i d e = subst (λ o. Contains (cons_option (of_result o) []) d.0) e (contains (d.0 ∷ []) d.0 (inl refl))

pub extends_one : (old new : CopyTable) (i : FlatInstr) (d : RegId) (c : ℕ) → Some d ≡ result_of i → new.time ≡ old.time + 1 → definition new.definitions.items d.0 ≡ record { time = old.time + 1; source = record { 0 = c } } → ((q : ℕ) → q ≢ d.0 → definition new.definitions.items q ≡ definition old.definitions.items q) → Extends old new (i ∷ [])
extends_one old new i d c is time same others = record {
  time = omega (arith, time);
  each = λ q. at q (nat_eq q d.0) refl;
}
  where
    at : (q : ℕ) (b : Bool) → nat_eq q d.0 ≡ b → (definition new.definitions.items q ≡ definition old.definitions.items q) ⊎ ((old.time < (definition new.definitions.items q).time) × Contains (filter_map written_by (i ∷ [])) q)
    at q true e =
        let here : q ≡ d.0 = grind (arith, nat_tests) in
        let now : (definition new.definitions.items q).time ≡ old.time + 1 = ap (λ n. (definition new.definitions.items n).time) here ∙ ap (λ (x : Definition). x.time) same in
        inr (omega (arith, now), subst (Contains (filter_map written_by (i ∷ []))) (sym here) (writes_one i d is))
    at q false e = inl (others q (λ here. absurd (grind (arith, nat_tests))))

pub timed_one : (old new : CopyTable) (d : RegId) (c : ℕ) → IsTimed old → new.time ≡ old.time + 1 → definition new.definitions.items d.0 ≡ record { time = old.time + 1; source = record { 0 = c } } → ((q : ℕ) → q ≢ d.0 → definition new.definitions.items q ≡ definition old.definitions.items q) → IsTimed new
timed_one old new d c timed time same others = record { each = λ q. at q (nat_eq q d.0) refl }
  where
    at : (q : ℕ) (b : Bool) → nat_eq q d.0 ≡ b → (definition new.definitions.items q).time ≤ new.time
    at q true e =
        let here : q ≡ d.0 = grind (arith, nat_tests) in
        let now : (definition new.definitions.items q).time ≡ old.time + 1 = ap (λ n. (definition new.definitions.items n).time) here ∙ ap (λ (x : Definition). x.time) same in
        omega (arith, now, time)
    at q false e =
        let was = ap (λ (x : Definition). x.time) (others q (λ here. absurd (grind (arith, nat_tests)))) in
        let le = timed.each q in
        omega (arith, was, le, time)

pub noted_sources : (old new : CopyTable) (start : ℕ) (i : FlatInstr) (d : RegId) (c : ℕ) → IsTimed old → start ≤ old.time → Some d ≡ result_of i → c ≡ source_given (sources_in old start) d.0 i → new.time ≡ old.time + 1 → definition new.definitions.items d.0 ≡ record { time = old.time + 1; source = record { 0 = c } } → ((q : ℕ) → q ≢ d.0 → definition new.definitions.items q ≡ definition old.definitions.items q) → sources_in new start ≡ past (sources_in old start) (Some i)
noted_sources old new start i d c timed started is given time same others =
    ap (source_in new.definitions.items start) time
    ∙ defined_sources old.definitions.items new.definitions.items start old.time d.0 c timed.each started same others
    ∙ ap (redefined (sources_in old start) d.0) given
    ∙ with_one (sources_in old start) i d is
