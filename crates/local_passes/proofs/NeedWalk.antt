-- A walk along the uses of definitions marks the registers that are needed.
use Rattle.std.proofs.Common.{◌≡◌, ◌⊎◌, inl, inr, ⊎_elim, ℕ, zero, suc, ◌<◌, Bool, true, false, [], ◌∷◌, ◌++◌, length, replicate, Contains, refl, sym, ap, ◌∙◌, subst}
use Rattle.oi_base.specs.declared.ids.RegId.{RegId}
use Rattle.ir_core.specs.declared.flat.FlatBody.{FlatBody}
use Rattle.ir_core.specs.WellFormed.{IsWellFormed}
use Rattle.ir_core.proofs.Lists.{Has, contains, has_in, has_left, has_right}
use Rattle.ir_safety.proofs.Elements.{split}
use Rattle.flow_fold.specs.Walks.{marked_in}
use Rattle.flow_fold.proofs.Ways.{least}
use Rattle.local_passes.specs.declared.needs.Needs.{Needs}
use Rattle.local_passes.specs.DropDead.{all_acts, used_for, is_used_for, is_needed}
use Rattle.local_passes.specs.NeedTables.{is_open, Names, Marks}
use Rattle.local_passes.proofs.Needing.{names_of, by_act, needed_from, by_use, uses_within, acts_within}

-- what holds during the walk: marked registers are needed, and where one is not to be looked at, what its definition uses is marked
pub record IsNeeding (body : FlatBody) (w : Needs) : Type 0 where
  pub long : length w.marks ≡ body.regs
  pub within : (r : ℕ) → is_open w r → r < body.regs
  pub opened : (r : ℕ) → is_open w r → is_needed body r ≡ true
  pub acts : (r : ℕ) → Names (all_acts body) r → marked_in w.marks r ≡ true
  pub sound : (r : ℕ) → marked_in w.marks r ≡ true → is_needed body r ≡ true
  pub closed : (d r : ℕ) → marked_in w.marks d ≡ true → Names (used_for body d) r → is_open w d ⊎ (marked_in w.marks r ≡ true)

none_marked : (n b : ℕ) → marked_in (replicate n false) b ≡ false
none_marked zero zero = refl
none_marked zero (suc b) = refl
none_marked (suc n) zero = refl
none_marked (suc n) (suc b) = none_marked n b

long_none : (n : ℕ) → length (replicate n false) ≡ n
long_none zero = refl
long_none (suc n) = ap suc (long_none n)

-- the last of the registers that are to be looked at
pub open_last : (w v : Needs) (r : RegId) → w.todo ≡ v.todo ++ r ∷ [] → is_open w r.0
open_last w v r todo = subst (λ xs. Contains xs r) (sym todo) (contains (v.todo ++ r ∷ []) r (has_right v.todo (r ∷ []) r (inl refl)))

module _ (body : FlatBody) (h : IsWellFormed body) where
  -- the walk begins with what is used in any case
  pub begun : (empty w : Needs) → empty.marks ≡ replicate body.regs false → empty.todo ≡ [] → Marks empty w (all_acts body) → IsNeeding body w
  begun empty w marks todo m = record {
    long = m.long ∙ long;
    within = λ r o. ⊎_elim (λ old. absurd (none_open r old)) (λ new. acts_within body h r new) (m.open_only r o);
    opened = λ r o. ⊎_elim (λ old. absurd (none_open r old)) (λ new. by_act body r new) (m.open_only r o);
    acts = λ r names. m.done r (subst (λ n. r < n) (sym long) (acts_within body h r names)) names;
    sound = λ r e. ⊎_elim (λ old. absurd (none r old)) (λ new. by_act body r new) (m.only r e);
    closed = λ d r e names. ⊎_elim (λ old. absurd (none d old)) (λ now. inl now) (m.open_new d e);
  }
    where
      long : length empty.marks ≡ body.regs
      long = ap length marks ∙ long_none body.regs

      none_open : (r : ℕ) → is_open empty r → ⊥
      none_open r o = has_in [] (record { 0 = r }) (subst (λ xs. Contains xs (record { 0 = r })) todo o)

      none : (r : ℕ) → marked_in empty.marks r ≡ true → ⊥
      none r e = let both : false ≡ true = sym (ap (λ ms. marked_in ms r) marks ∙ none_marked body.regs r) ∙ e in cc

  -- a definition is looked at: w is before, v without it, u with what it uses marked
  pub walked : (w v u : Needs) (d : RegId) → IsNeeding body w → v.marks ≡ w.marks → w.todo ≡ v.todo ++ d ∷ [] → Marks v u (used_for body d.0) → IsNeeding body u
  walked w v u d is marks todo m = record {
    long = m.long ∙ long;
    within = λ r o. ⊎_elim (λ old. is.within r (open_before r old)) (λ new. uses_within body h d.0 r new) (m.open_only r o);
    opened = λ r o. ⊎_elim (λ old. is.opened r (open_before r old)) (λ new. on r new) (m.open_only r o);
    acts = λ r names. m.kept r (now r (is.acts r names));
    sound = λ r e. ⊎_elim (λ old. is.sound r (was r old)) (λ new. on r new) (m.only r e);
    closed = λ c r e names. ⊎_elim
        (λ old. by_before c r (is.closed c r (was c old) names) (λ same. inr (m.done r (subst (λ n. r < n) (sym long) (uses_within body h c r names)) (subst (λ n. Names (used_for body n) r) same names))))
        (λ open'. inl open')
        (m.open_new c e);
  }
    where
      long : length v.marks ≡ body.regs
      long = ap length marks ∙ is.long

      was : (r : ℕ) → marked_in v.marks r ≡ true → marked_in w.marks r ≡ true
      was r e = ap (λ ms. marked_in ms r) (sym marks) ∙ e

      now : (r : ℕ) → marked_in w.marks r ≡ true → marked_in v.marks r ≡ true
      now r e = ap (λ ms. marked_in ms r) marks ∙ e

      open_before : (r : ℕ) → is_open v r → is_open w r
      open_before r o = subst (λ xs. Contains xs (record { 0 = r })) (sym todo) (contains (v.todo ++ d ∷ []) (record { 0 = r }) (has_left v.todo (d ∷ []) (record { 0 = r }) (has_in v.todo (record { 0 = r }) o)))

      on : (r : ℕ) → Names (used_for body d.0) r → is_needed body r ≡ true
      on r names = by_use body d.0 r (is.within d.0 (open_last w v d todo)) (is.opened d.0 (open_last w v d todo)) names

      by_before : (c r : ℕ) → is_open w c ⊎ (marked_in w.marks r ≡ true) → (c ≡ d.0 → is_open u c ⊎ (marked_in u.marks r ≡ true)) → is_open u c ⊎ (marked_in u.marks r ≡ true)
      by_before c r (inr e) here = inr (m.kept r (now r e))
      by_before c r (inl o) here = ⊎_elim
          (λ g. inl (m.open_old c (contains v.todo (record { 0 = c }) g)))
          (λ g. ⊎_elim (λ same. here (sym (ap (λ (n : RegId). n.0) same))) (λ none. absurd none) g)
          (split v.todo (d ∷ []) (record { 0 = c }) (subst (λ xs. Has xs (record { 0 = c })) todo (has_in w.todo (record { 0 = c }) o)))

  -- nothing is left to be looked at
  pub ended : (w : Needs) → IsNeeding body w → w.todo ≡ [] → marked_in w.marks ≡ is_needed body
  ended w is todo = λ i r. by_tests r (marked_in w.marks r) (is_needed body r) refl refl i
    where
      closed : (x y : ℕ) → marked_in w.marks x ≡ true → is_used_for body x y ≡ true → marked_in w.marks y ≡ true
      closed x y e f = ⊎_elim (λ o. absurd (has_in [] (record { 0 = x }) (subst (λ xs. Contains xs (record { 0 = x })) todo o))) (λ g. g) (is.closed x y e (names_of body x y f))

      complete : (r : ℕ) → is_needed body r ≡ true → marked_in w.marks r ≡ true
      complete r e = let q = needed_from body r e in least (is_used_for body) (λ x. marked_in w.marks x ≡ true) closed body.regs q.0 r (is.acts q.0 q.1) q.2

      by_tests : (r : ℕ) (s t : Bool) → marked_in w.marks r ≡ s → is_needed body r ≡ t → marked_in w.marks r ≡ is_needed body r
      by_tests r true true em en = em ∙ sym en
      by_tests r false false em en = em ∙ sym en
      by_tests r true false em en = absurd (let both : true ≡ false = sym (is.sound r em) ∙ en in cc)
      by_tests r false true em en = absurd (let both : false ≡ true = sym em ∙ complete r en in cc)
