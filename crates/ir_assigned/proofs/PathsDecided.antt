-- Whether a path leads to a block around another one: where one does, so does one that comes to no block twice, and these are
-- no longer than there are blocks.
use Rattle.std.proofs.Common.{◌≡◌, ◌⊎◌, inl, inr, ⊎_elim, ℕ, zero, suc, ◌<◌, ◌≤◌, nat_eq, Bool, true, false, ◌||◌, List, [], ◌∷◌, length, Option, Some, None, slice_get, refl, sym, ap, ◌∙◌, subst, arith}
use Rattle.std.specs.List.{list_any, IsDistinct, AllByRecursion}
use Rattle.std.proofs.lemmas.Bool.{cases_lt, cases_eq}
use Rattle.std.proofs.lemmas.Bool.Decides.{nat_tests}
use Rattle.std.proofs.lemmas.Map.Steps.{length-le_from_distinct_below}
use Rattle.std.proofs.lemmas.Option.{slice_get_within}
use Rattle.ir_core.specs.declared.op.LocalId.{LocalId}
use Rattle.ir_core.specs.declared.func.Block.{Block}
use Rattle.ir_core.specs.declared.func.Func.{Func}
use Rattle.ir_core.specs.Parts.{targets}
use Rattle.ir_core.specs.ValidPaths.{IsBlockOf, IsSuccessor}
use Rattle.ir_core.proofs.Lists.{Has, contains}
use Rattle.ir_assigned.specs.BlockPaths.{IsRoute}
use Rattle.ir_assigned.proofs.Paths.{has_contained}
use Rattle.ir_assigned.proofs.Tables.{same_local, one_at}

-- ---- what holds of one, or else of all

pub one_below : {P N : ℕ → Type 0} → ((k : ℕ) → P k ⊎ N k) → (n : ℕ) → ((k : ℕ) × (k < n) × P k) ⊎ ((k : ℕ) → k < n → N k)
one_below test zero = inr (λ k lt. absurd (omega (arith, lt)))
one_below {P} {N} test (suc n) = joined (test n) (one_below test n)
  where
    joined : P n ⊎ N n → ((k : ℕ) × (k < n) × P k) ⊎ ((k : ℕ) → k < n → N k) → ((k : ℕ) × (k < suc n) × P k) ⊎ ((k : ℕ) → k < suc n → N k)
    joined p (inl h) = let lt = h.1 in inl (h.0, omega (arith, lt), h.2)
    joined (inl p) (inr each) = inl (n, omega arith, p)
    joined (inr last) (inr each) = inr (λ k lt. ⊎_elim (each k) (λ ge. let same : n ≡ k = omega (arith, lt, ge) in subst N same last) (cases_lt k n))

pub one_has : {A : Type 0} {P N : A → Type 0} → ((x : A) → P x ⊎ N x) → (xs : List A) → ((x : A) × Has xs x × P x) ⊎ ((x : A) → Has xs x → N x)
one_has test [] = inr (λ x h. absurd h)
one_has {A} {P} {N} test (y ∷ ys) = joined (test y) (one_has test ys)
  where
    joined : P y ⊎ N y → ((x : A) × Has ys x × P x) ⊎ ((x : A) → Has ys x → N x) → ((x : A) × Has (y ∷ ys) x × P x) ⊎ ((x : A) → Has (y ∷ ys) x → N x)
    joined (inl p) rest = inl (y, inl refl, p)
    joined (inr here) (inl h) = inl (h.0, inr h.1, h.2)
    joined (inr here) (inr each) = inr all
      where
        all : (x : A) → Has (y ∷ ys) x → N x
        all x (inl e) = subst N e here
        all x (inr h) = each x h

-- ---- successors

pub same_or_not : (x y : LocalId) → (x ≡ y) ⊎ (x ≡ y → ⊥)
same_or_not x y = ⊎_elim (λ e. inl (same_local x y e)) (λ other. inr (λ e. other (ap (λ (z : LocalId). z.0) e))) (cases_eq x.0 y.0)

successor_or_not : (f : Func) (a b : ℕ) → IsSuccessor f a b ⊎ (IsSuccessor f a b → ⊥)
successor_or_not f a b = by_blocks (slice_get f.blocks a) (slice_get f.blocks b) refl refl
  where
    missing : (c : ℕ) (k : Block) → slice_get f.blocks c ≡ None → IsBlockOf f c k → ⊥
    missing c k none at = let clash : None ≡ Some k = sym none ∙ at in cc

    by_label : (k l : Block) → IsBlockOf f a k → IsBlockOf f b l → ((x : LocalId) × Has (targets k.end) x × (x ≡ l.label)) ⊎ ((x : LocalId) → Has (targets k.end) x → x ≡ l.label → ⊥) → IsSuccessor f a b ⊎ (IsSuccessor f a b → ⊥)
    by_label k l at to (inl h) = inl (k, l, at, to, contains (targets k.end) l.label (subst (Has (targets k.end)) h.2 h.1))
    by_label k l at to (inr none) = inr (λ s.
        let from : s.0 ≡ k = one_at f.blocks a s.0 k s.2 at in
        let next : s.1 ≡ l = one_at f.blocks b s.1 l s.3 to in
        none s.1.label (subst (λ (z : Block). Has (targets z.end) s.1.label) from (has_contained (targets s.0.end) s.1.label s.4)) (ap Block.label next))

    by_blocks : (o r : Option Block) → slice_get f.blocks a ≡ o → slice_get f.blocks b ≡ r → IsSuccessor f a b ⊎ (IsSuccessor f a b → ⊥)
    by_blocks None r e g = inr (λ s. missing a s.0 e s.2)
    by_blocks (Some k) None e g = inr (λ s. missing b s.1 g s.3)
    by_blocks (Some k) (Some l) e g = by_label k l e g (one_has (λ (x : LocalId). same_or_not x l.label) (targets k.end))

-- ---- paths that come to no block twice

told : (q : ℕ) (xs : List ℕ) → list_any (nat_eq q) xs ≡ true → Has xs q
told q [] e = absurd (let clash : false ≡ true = e in cc)
told q (x ∷ xs) e = by_test (nat_eq q x) refl e (told q xs)
  where
    by_test : (t : Bool) → nat_eq q x ≡ t → (t || list_any (nat_eq q) xs) ≡ true → (list_any (nat_eq q) xs ≡ true → Has xs q) → Has (x ∷ xs) q
    by_test true t g rest = inl (grind (arith, nat_tests))
    by_test false t g rest = inr (rest g)

differs : (q : ℕ) (xs : List ℕ) → list_any (nat_eq q) xs ≡ false → AllByRecursion (λ y. nat_eq q y ≡ false) xs
differs q [] e = tt
differs q (x ∷ xs) e = by_test (nat_eq q x) refl e (differs q xs)
  where
    by_test : (t : Bool) → nat_eq q x ≡ t → (t || list_any (nat_eq q) xs) ≡ false → (list_any (nat_eq q) xs ≡ false → AllByRecursion (λ y. nat_eq q y ≡ false) xs) → AllByRecursion (λ y. nat_eq q y ≡ false) (x ∷ xs)
    by_test true t g rest = absurd (let clash : true ≡ false = g in cc)
    by_test false t g rest = (t, rest g)

distinct_none : IsDistinct nat_eq []
unfolding IsDistinct
distinct_none = tt

distinct_one : (x : ℕ) (xs : List ℕ) → list_any (nat_eq x) xs ≡ false → IsDistinct nat_eq xs → IsDistinct nat_eq (x ∷ xs)
unfolding IsDistinct
distinct_one x xs e d = (differs x xs e, d)

distinct_rest : (x : ℕ) (xs : List ℕ) → IsDistinct nat_eq (x ∷ xs) → IsDistinct nat_eq xs
unfolding IsDistinct
distinct_rest x xs d = d.1

module _ (f : Func) (around : Option ℕ) (b : ℕ) where
  abbrev Leads : ℕ → Type 0
  Leads v = (before : List ℕ) × IsRoute f around b v before

  -- a path that comes to no block twice
  abbrev Straight : ℕ → Type 0
  Straight v = (before : List ℕ) × IsRoute f around b v before × IsDistinct nat_eq before

  -- from a block to which it comes
  from_there : (before : List ℕ) (v u : ℕ) → IsRoute f around b v before → IsDistinct nat_eq before → Has before u → Straight u
  from_there [] v u route d h = absurd h
  from_there (w ∷ rest) v u route d (inl e) = (w ∷ rest, subst (λ (z : ℕ). IsRoute f around b z (w ∷ rest)) (sym route.0 ∙ e) route, d)
  from_there (w ∷ rest) v u route d (inr h) = from_there rest route.2.0 u route.2.2 (distinct_rest w rest d) h

  straight : (before : List ℕ) (v : ℕ) → IsRoute f around b v before → Straight v
  straight [] v route = ([], route, distinct_none)
  straight (u ∷ rest) v route = one_more (straight rest route.2.0 route.2.2)
    where
      one_more : Straight route.2.0 → Straight v
      one_more r = by_test (list_any (nat_eq v) r.0) refl
        where
          by_test : (t : Bool) → list_any (nat_eq v) r.0 ≡ t → Straight v
          by_test true e = from_there r.0 route.2.0 v r.1 r.2 (told v r.0 e)
          by_test false e = (v ∷ r.0, (refl, route.1, (route.2.0, route.2.1, r.1)), distinct_one v r.0 e r.2)

  within : (before : List ℕ) (v q : ℕ) → IsRoute f around b v before → Has before q → q < length f.blocks
  within [] v q route h = absurd h
  within (u ∷ rest) v q route (inl e) = let s = route.2.1 in subst (λ (z : ℕ). z < length f.blocks) (sym route.0 ∙ e) (slice_get_within f.blocks v s.0 s.2)
  within (u ∷ rest) v q route (inr h) = within rest route.2.0 q route.2.2 h

  few : (v : ℕ) (s : Straight v) → length s.0 ≤ length f.blocks
  few v s = length-le_from_distinct_below s.0 (length f.blocks) s.2 (λ q e. within s.0 v q s.1 (told q s.0 e))

  -- ---- paths of fewer blocks than a number

  abbrev NoneBelow : ℕ → ℕ → Type 0
  NoneBelow n v = (before : List ℕ) → length before < n → IsRoute f around b v before → ⊥

  is_around : (v : ℕ) → (around ≡ Some v) ⊎ (around ≡ Some v → ⊥)
  is_around v = by_block around
    where
      by_block : (o : Option ℕ) → (o ≡ Some v) ⊎ (o ≡ Some v → ⊥)
      by_block None = inr (λ e. cc)
      by_block (Some a) = ⊎_elim (λ e. inl (ap Some e)) (λ other. inr (λ e. other cc)) (cases_eq a v)

  -- a step to the next block
  abbrev Goes : ℕ → ℕ → Type 0
  Goes v w = IsSuccessor f v w × Leads w

  abbrev GoesNot : ℕ → ℕ → ℕ → Type 0
  GoesNot n v w = IsSuccessor f v w → NoneBelow n w

  step : (n v w : ℕ) → IsSuccessor f v w ⊎ (IsSuccessor f v w → ⊥) → Leads w ⊎ NoneBelow n w → Goes v w ⊎ GoesNot n v w
  step n v w (inr none) on = inr (λ s. absurd (none s))
  step n v w (inl s) (inl l) = inl (s, l)
  step n v w (inl s) (inr none) = inr (λ t. none)

  from_steps : (n v : ℕ) → (v ≡ b) ⊎ (v ≡ b → ⊥) → (around ≡ Some v) ⊎ (around ≡ Some v → ⊥) → ((w : ℕ) × (w < length f.blocks) × Goes v w) ⊎ ((w : ℕ) → w < length f.blocks → GoesNot n v w) → Leads v ⊎ NoneBelow (suc n) v
  from_steps n v (inl e) free steps = inl ([], e)
  from_steps n v (inr other) (inl closed) steps = inr none
    where
      none : (before : List ℕ) → length before < suc n → IsRoute f around b v before → ⊥
      none [] lt route = other route
      none (u ∷ rest) lt route = route.1 closed
  from_steps n v (inr other) (inr free) (inl s) = inl (v ∷ s.2.1.0, (refl, free, (s.0, s.2.0, s.2.1.1)))
  from_steps n v (inr other) (inr free) (inr each) = inr none
    where
      none : (before : List ℕ) → length before < suc n → IsRoute f around b v before → ⊥
      none [] lt route = other route
      none (u ∷ rest) lt route = let s = route.2.1 in each route.2.0 (slice_get_within f.blocks route.2.0 s.1 s.3) s rest (omega (arith, lt)) route.2.2

  shorter : (n v : ℕ) → Leads v ⊎ NoneBelow n v
  shorter zero v = inr (λ before lt route. absurd (omega (arith, lt)))
  shorter (suc n) v = from_steps n v (cases_eq v b) (is_around v) (one_below (λ (w : ℕ). step n v w (successor_or_not f v w) (shorter n w)) (length f.blocks))

  pub leads_or_not : (v : ℕ) → Leads v ⊎ ((before : List ℕ) → IsRoute f around b v before → ⊥)
  leads_or_not v = all (shorter (suc (length f.blocks)) v)
    where
      all : Leads v ⊎ NoneBelow (suc (length f.blocks)) v → Leads v ⊎ ((before : List ℕ) → IsRoute f around b v before → ⊥)
      all (inl l) = inl l
      all (inr none) = inr (λ before route. let s = straight before v route in let le = few v s in none s.0 (omega (arith, le)) s.1)
