-- Marks of registers, one after another.
use Rattle.std.proofs.Common.{◌≡◌, ◌≢◌, ◌⊎◌, inl, inr, ⊎_elim, ℕ, zero, suc, ◌+◌, ◌<◌, ◌≤◌, Bool, true, false, nat_eq, List, [], ◌∷◌, ◌++◌, length, length-set, length-append, Some, slice_get, slice_index_or, slice_set, take, Contains, refl, sym, ap, ◌∙◌, subst, arith}
use Rattle.std.proofs.lemmas.Bool.Decides.{nat_tests}
use Rattle.std.specs.List.{flat_map}
use Rattle.std.proofs.lemmas.List.{append-nil, get_or-set_same, get_or-set_other}
use Rattle.std.proofs.lemmas.Grind.{flat_map-append}
use Rattle.std.proofs.lemmas.Option.{slice_get-get_or}
use Rattle.ir_core.proofs.Lists.{Has, contains, has_in, has_left, has_right}
use Rattle.ir_core.proofs.ByPosition.{take_next}
use Rattle.ir_safety.proofs.Elements.{split}
use Rattle.oi_base.specs.declared.ids.RegId.{RegId}
use Rattle.ir_core.specs.declared.flat.FlatOp.{FlatOp}
use Rattle.ir_core.specs.declared.flat.FlatOp.TheVariants.{Reg}
use Rattle.flow_fold.specs.Walks.{marked_in, missing}
use Rattle.flow_fold.proofs.Marking.{fewer, in_turn}
use Rattle.local_passes.specs.declared.needs.Needs.{Needs}
use Rattle.local_passes.specs.NeedTables.{is_open, Names, Marks}

abbrev register : FlatOp → ℕ
register (Reg r) = r.0
register _ = 0

one_name : (r q : ℕ) → Names (Reg (record { 0 = r }) ∷ []) q → r ≡ q
one_name r q h = ⊎_elim (λ same. same_register same) (λ none. absurd none) (has_in (Reg (record { 0 = r }) ∷ []) (Reg (record { 0 = q })) h)
  where
    same_register : Reg (record { 0 = r }) ≡ Reg (record { 0 = q }) → r ≡ q
    same_register e = ap register e

named : (r : ℕ) → Names (Reg (record { 0 = r }) ∷ []) r
named r = contains (Reg (record { 0 = r }) ∷ []) (Reg (record { 0 = r })) (inl refl)

-- nothing is marked where an operand names no register of the table that isn't marked
pub marks_same : (w : Needs) (os : List FlatOp) → ((q : ℕ) → q < length w.marks → Names os q → marked_in w.marks q ≡ true) → Marks w w os
marks_same w os done = record {
  long = refl;
  kept = λ q m. m;
  done = done;
  only = λ q m. inl m;
  open_new = λ q m. inl m;
  open_old = λ q h. h;
  open_only = λ q h. inl h;
  less = omega arith;
}

pub marks_none : (w : Needs) → Marks w w []
marks_none w = marks_same w [] (λ q lt h. absurd (has_in [] (Reg (record { 0 = q })) h))

-- an operand that is no register
pub marks_other : (w : Needs) (o : FlatOp) → ((r : RegId) → o ≡ Reg r → ⊥) → Marks w w (o ∷ [])
marks_other w o not_reg = marks_same w (o ∷ []) (λ q lt h. ⊎_elim (λ same. absurd (not_reg (record { 0 = q }) same)) (λ none. absurd none) (has_in (o ∷ []) (Reg (record { 0 = q })) h))

-- a register that is marked
pub marks_there : (w : Needs) (r : RegId) → marked_in w.marks r.0 ≡ true → Marks w w (Reg r ∷ [])
marks_there w r m = marks_same w (Reg r ∷ []) (λ q lt h. ap (marked_in w.marks) (sym (one_name r.0 q h)) ∙ m)

-- a register beyond the table
pub marks_beyond : (w : Needs) (r : RegId) → length w.marks ≤ r.0 → Marks w w (Reg r ∷ [])
marks_beyond w r le = marks_same w (Reg r ∷ []) (λ q lt h. let same = one_name r.0 q h in absurd (omega (arith, same, lt, le)))

pub marks_one : (old new : Needs) (r : RegId) → r.0 < length old.marks → slice_index_or old.marks r.0 false ≡ false → new.marks ≡ slice_set old.marks r.0 true → new.todo ≡ old.todo ++ r ∷ [] → Marks old new (Reg r ∷ [])
marks_one old new r lt e marks todo = record {
  long = ap length marks ∙ length-set old.marks r.0 true;
  kept = λ q m. at q (nat_eq q r.0) refl (λ same. own q same) (λ ne. other q ne ∙ m);
  done = λ q within h. own q (sym (one_name r.0 q h));
  only = λ q m. by q (nat_eq q r.0) refl m;
  open_new = λ q m. by_open q (nat_eq q r.0) refl m;
  open_old = λ q h. subst (λ xs. Contains xs (record { 0 = q })) (sym todo) (contains (old.todo ++ r ∷ []) (record { 0 = q }) (has_left old.todo (r ∷ []) (record { 0 = q }) (has_in old.todo (record { 0 = q }) h)));
  open_only = λ q h. by_new q (has_in new.todo (record { 0 = q }) h);
  less =
      let count = fewer old.marks r.0 lt e in
      let now = ap missing marks in
      let long = ap length todo ∙ length-append old.todo (r ∷ []) in
      omega (arith, count, now, long);
}
  where
    own : (q : ℕ) → q ≡ r.0 → marked_in new.marks q ≡ true
    own q same = ap (λ xs. slice_index_or xs q false) marks ∙ ap (λ n. slice_index_or (slice_set old.marks r.0 true) n false) same ∙ get_or-set_same old.marks r.0 true false lt

    other : (q : ℕ) → q ≢ r.0 → marked_in new.marks q ≡ marked_in old.marks q
    other q ne = ap (λ xs. slice_index_or xs q false) marks ∙ get_or-set_other old.marks r.0 q true false ne

    at : (q : ℕ) (t : Bool) → nat_eq q r.0 ≡ t → (q ≡ r.0 → marked_in new.marks q ≡ true) → (q ≢ r.0 → marked_in new.marks q ≡ true) → marked_in new.marks q ≡ true
    at q true e here away = here (grind (arith, nat_tests))
    at q false e here away = away (λ same. absurd (grind (arith, nat_tests)))

    by : (q : ℕ) (t : Bool) → nat_eq q r.0 ≡ t → marked_in new.marks q ≡ true → (marked_in old.marks q ≡ true) ⊎ Names (Reg r ∷ []) q
    by q true e m = let same : r.0 ≡ q = grind (arith, nat_tests) in inr (subst (Names (Reg r ∷ [])) same (named r.0))
    by q false e m = inl (sym (other q (λ same. absurd (grind (arith, nat_tests)))) ∙ m)

    by_open : (q : ℕ) (t : Bool) → nat_eq q r.0 ≡ t → marked_in new.marks q ≡ true → (marked_in old.marks q ≡ true) ⊎ is_open new q
    by_open q true e m =
        let same : r.0 ≡ q = grind (arith, nat_tests) in
        let in_it : Contains (old.todo ++ r ∷ []) r = contains (old.todo ++ r ∷ []) r (has_right old.todo (r ∷ []) r (inl refl)) in
        inr (subst (λ xs. Contains xs (record { 0 = q })) (sym todo) (subst (λ n. Contains (old.todo ++ r ∷ []) (record { 0 = n })) same in_it))
    by_open q false e m = inl (sym (other q (λ same. absurd (grind (arith, nat_tests)))) ∙ m)

    by_new : (q : ℕ) → Has new.todo (record { 0 = q }) → is_open old q ⊎ Names (Reg r ∷ []) q
    by_new q h = ⊎_elim
        (λ g. inl (contains old.todo (record { 0 = q }) g))
        (λ g. ⊎_elim (λ same. inr (subst (Names (Reg r ∷ [])) (ap (λ (n : RegId). n.0) same) (named r.0))) (λ none. absurd none) g)
        (split old.todo (r ∷ []) (record { 0 = q }) (subst (λ xs. Has xs (record { 0 = q })) todo h))

-- and then more
pub marks_more : (old mid new : Needs) (xs ys : List FlatOp) → Marks old mid xs → Marks mid new ys → Marks old new (xs ++ ys)
marks_more old mid new xs ys m n = record {
  long = n.long ∙ m.long;
  kept = λ q e. n.kept q (m.kept q e);
  done = λ q lt h. ⊎_elim
      (λ g. n.kept q (m.done q lt (contains xs (Reg (record { 0 = q })) g)))
      (λ g. n.done q (subst (λ k. q < k) (sym m.long) lt) (contains ys (Reg (record { 0 = q })) g))
      (split xs ys (Reg (record { 0 = q })) (has_in (xs ++ ys) (Reg (record { 0 = q })) h));
  only = λ q. in_turn (n.only q) (m.only q) (left q) (right q);
  open_new = λ q. in_turn (n.open_new q) (m.open_new q) (n.open_old q) (λ g. g);
  open_old = λ q h. n.open_old q (m.open_old q h);
  open_only = λ q. in_turn (n.open_only q) (m.open_only q) (left q) (right q);
  less = let a = m.less in let b = n.less in omega (arith, a, b);
}
  where
    left : (q : ℕ) → Names xs q → Names (xs ++ ys) q
    left q g = contains (xs ++ ys) (Reg (record { 0 = q })) (has_left xs ys (Reg (record { 0 = q })) (has_in xs (Reg (record { 0 = q })) g))

    right : (q : ℕ) → Names ys q → Names (xs ++ ys) q
    right q g = contains (xs ++ ys) (Reg (record { 0 = q })) (has_right xs ys (Reg (record { 0 = q })) (has_in ys (Reg (record { 0 = q })) g))

-- the next operand of a list
pub marks_next : (old mid new : Needs) (os : List FlatOp) (k : ℕ) (o : FlatOp) → slice_get os k ≡ Some o → Marks old mid (take k os) → Marks mid new (o ∷ []) → Marks old new (take (k + 1) os)
marks_next old mid new os k o here m n = subst (Marks old new) (sym (take_next os k (k + 1) o refl here)) (marks_more old mid new (take k os) (o ∷ []) m n)

-- an element of a list that a loop goes over
pub item_at : {A : Type 0} (xs : List A) (k : ℕ) (x : A) → k < length xs → x ≡ slice_index_or xs k x → slice_get xs k ≡ Some x
item_at xs k x lt is = slice_get-get_or xs k x lt ∙ ap Some (sym is)

-- the next part of a list
pub marks_part : {A : Type 0} (old mid new : Needs) (part : A → List FlatOp) (xs : List A) (k : ℕ) (x : A) → slice_get xs k ≡ Some x → Marks old mid (flat_map part (take k xs)) → Marks mid new (part x) → Marks old new (flat_map part (take (k + 1) xs))
marks_part old mid new part xs k x here m n =
    subst (Marks old new)
    (sym (ap (flat_map part) (take_next xs k (k + 1) x refl here) ∙ flat_map-append part (take k xs) (x ∷ []) ∙ ap (λ os. flat_map part (take k xs) ++ os) (append-nil (part x))))
    (marks_more old mid new (flat_map part (take k xs)) (part x) m n)
