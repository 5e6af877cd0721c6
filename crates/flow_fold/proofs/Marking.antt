-- Marks of blocks, one after another.
use Rattle.std.proofs.Common.{◌≡◌, ◌≢◌, ◌⊎◌, inl, inr, ⊎_elim, ℕ, zero, suc, ◌+◌, ◌<◌, Bool, true, false, nat_eq, List, [], ◌∷◌, ◌++◌, length, length-set, length-append, slice_index_or, slice_set, Contains, refl, sym, ap, ◌∙◌, subst, arith}
use Rattle.std.proofs.lemmas.Bool.Decides.{nat_tests}
use Rattle.std.proofs.lemmas.List.{get_or-set_same, get_or-set_other}
use Rattle.ir_core.proofs.Lists.{Has, contains, has_in, has_left, has_right}
use Rattle.ir_safety.proofs.Elements.{split}
use Rattle.oi_base.specs.declared.ids.BlockId.{BlockId}
use Rattle.flow_fold.specs.declared.walk.Walk.{Walk}
use Rattle.flow_fold.specs.Walks.{is_marked, is_open, missing, Marks}

-- what is so after two steps was so before them or came with one of them
pub in_turn : {Old Mid New X Y Z : Type 0} → (New → Mid ⊎ Y) → (Mid → Old ⊎ X) → (X → Z) → (Y → Z) → New → Old ⊎ Z
in_turn last first left right now = ⊎_elim (λ m. ⊎_elim (λ o. inl o) (λ x. inr (left x)) (first m)) (λ y. inr (right y)) (last now)

-- a mark more leaves one less to set
pub fewer : (ms : List Bool) (b : ℕ) → b < length ms → slice_index_or ms b false ≡ false → missing (slice_set ms b true) + 1 ≡ missing ms
fewer [] b lt e = absurd (omega (arith, lt))
fewer (true ∷ ms) zero lt e = absurd cc
fewer (false ∷ ms) zero lt e = refl
fewer (true ∷ ms) (suc b) lt e = fewer ms b (omega (arith, lt)) e
fewer (false ∷ ms) (suc b) lt e = ap (λ n. n + 1) (fewer ms b (omega (arith, lt)) e)

pub marks_one : (old new : Walk) (b : ℕ) → b < length old.marks → slice_index_or old.marks b false ≡ false → new.marks ≡ slice_set old.marks b true → new.todo ≡ old.todo ++ (record { 0 = b }) ∷ [] → Marks old new (b ∷ [])
marks_one old new b lt e marks todo = record {
  long = ap length marks ∙ length-set old.marks b true;
  kept = λ q m. at q (nat_eq q b) refl (λ same. own q same) (λ ne. other q ne ∙ m);
  done = λ q h. ⊎_elim (λ same. own q (sym same)) (λ none. absurd none) (has_in (b ∷ []) q h);
  only = λ q m. by q (nat_eq q b) refl m;
  open_new = λ q m. by_open q (nat_eq q b) refl m;
  open_old = λ q h. subst (λ xs. Contains xs (record { 0 = q })) (sym todo) (contains (old.todo ++ (record { 0 = b }) ∷ []) (record { 0 = q }) (has_left old.todo ((record { 0 = b }) ∷ []) (record { 0 = q }) (has_in old.todo (record { 0 = q }) h)));
  open_only = λ q h. by_new q (has_in new.todo (record { 0 = q }) h);
  less =
      let count = fewer old.marks b lt e in
      let now = ap missing marks in
      let long = ap length todo ∙ length-append old.todo ((record { 0 = b }) ∷ []) in
      omega (arith, count, now, long);
}
  where
    own : (q : ℕ) → q ≡ b → is_marked new q ≡ true
    own q same = ap (λ xs. slice_index_or xs q false) marks ∙ ap (λ n. slice_index_or (slice_set old.marks b true) n false) same ∙ get_or-set_same old.marks b true false lt

    other : (q : ℕ) → q ≢ b → is_marked new q ≡ is_marked old q
    other q ne = ap (λ xs. slice_index_or xs q false) marks ∙ get_or-set_other old.marks b q true false ne

    at : (q : ℕ) (t : Bool) → nat_eq q b ≡ t → (q ≡ b → is_marked new q ≡ true) → (q ≢ b → is_marked new q ≡ true) → is_marked new q ≡ true
    at q true e here away = here (grind (arith, nat_tests))
    at q false e here away = away (λ same. absurd (grind (arith, nat_tests)))

    by : (q : ℕ) (t : Bool) → nat_eq q b ≡ t → is_marked new q ≡ true → (is_marked old q ≡ true) ⊎ Contains (b ∷ []) q
    by q true e m = let same : b ≡ q = grind (arith, nat_tests) in inr (contains (b ∷ []) q (inl same))
    by q false e m = inl (sym (other q (λ same. absurd (grind (arith, nat_tests)))) ∙ m)

    by_open : (q : ℕ) (t : Bool) → nat_eq q b ≡ t → is_marked new q ≡ true → (is_marked old q ≡ true) ⊎ is_open new q
    by_open q true e m =
        let same : b ≡ q = grind (arith, nat_tests) in
        let in_it : Contains (old.todo ++ (record { 0 = b }) ∷ []) (record { 0 = b }) = contains (old.todo ++ (record { 0 = b }) ∷ []) (record { 0 = b }) (has_right old.todo ((record { 0 = b }) ∷ []) (record { 0 = b }) (inl refl)) in
        inr (subst (λ xs. Contains xs (record { 0 = q })) (sym todo) (subst (λ n. Contains (old.todo ++ (record { 0 = b }) ∷ []) (record { 0 = n })) same in_it))
    by_open q false e m = inl (sym (other q (λ same. absurd (grind (arith, nat_tests)))) ∙ m)

    by_new : (q : ℕ) → Has new.todo (record { 0 = q }) → is_open old q ⊎ Contains (b ∷ []) q
    by_new q h = ⊎_elim
        (λ g. inl (contains old.todo (record { 0 = q }) g))
        (λ g. ⊎_elim (λ same. inr (contains (b ∷ []) q (inl (ap (λ (n : BlockId). n.0) same)))) (λ none. absurd none) g)
        (split old.todo ((record { 0 = b }) ∷ []) (record { 0 = q }) (subst (λ xs. Has xs (record { 0 = q })) todo h))

-- and then one block more
pub marks_more : (old mid new : Walk) (xs : List ℕ) (y : ℕ) → Marks old mid xs → Marks mid new (y ∷ []) → Marks old new (xs ++ y ∷ [])
marks_more old mid new xs y m n = record {
  long = n.long ∙ m.long;
  kept = λ q e. n.kept q (m.kept q e);
  done = λ q h. ⊎_elim
      (λ g. n.kept q (m.done q (contains xs q g)))
      (λ g. n.done q (contains (y ∷ []) q g))
      (split xs (y ∷ []) q (has_in (xs ++ y ∷ []) q h));
  only = λ q. in_turn (n.only q) (m.only q) (left q) (right q);
  open_new = λ q. in_turn (n.open_new q) (m.open_new q) (n.open_old q) (λ g. g);
  open_old = λ q h. n.open_old q (m.open_old q h);
  open_only = λ q. in_turn (n.open_only q) (m.open_only q) (left q) (right q);
  less = let a = m.less in let b = n.less in omega (arith, a, b);
}
  where
    left : (q : ℕ) → Contains xs q → Contains (xs ++ y ∷ []) q
    left q g = contains (xs ++ y ∷ []) q (has_left xs (y ∷ []) q (has_in xs q g))

    right : (q : ℕ) → Contains (y ∷ []) q → Contains (xs ++ y ∷ []) q
    right q g = contains (xs ++ y ∷ []) q (has_right xs (y ∷ []) q (has_in (y ∷ []) q g))
