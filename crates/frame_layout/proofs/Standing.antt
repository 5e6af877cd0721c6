-- Parts that stand among others.
use Rattle.std.proofs.Common.{◌≡◌, ◌≢◌, ◌⊎◌, inl, inr, ⊎_elim, ℕ, ◌+◌, ◌%◌, ◌≤◌, Bool, true, false, nat_eq, List, [], ◌∷◌, ◌++◌, refl, sym, ap, ◌∙◌, subst, arith}
use Rattle.std.specs.List.{AllByRecursion as Each}
use Rattle.std.proofs.lemmas.Bool.Decides.{nat_tests}
use Rattle.std.specs.Int.{next_multiple_of}
use Rattle.frame_layout.specs.declared.parts.Need.{Need}
use Rattle.frame_layout.specs.declared.parts.Need.TheVariants.{Slot, SlotAndShadow, Memory}
use Rattle.frame_layout.specs.declared.parts.Part.{Part}
use Rattle.frame_layout.specs.declared.homes.Home.{Home}
use Rattle.frame_layout.specs.declared.homes.Home.TheVariants.{NoHome}
use Rattle.frame_layout.specs.Parts.{begin_of, end_of, end_of_all, size_of, IsNeed}
use Rattle.frame_layout.specs.Homes.{home_at, home_among}
use Rattle.frame_layout.specs.Laws.{AreApart}
use Rattle.frame_layout.proofs.Counts.{one, times}
use Rattle.frame_layout.proofs.Ends.{begins_after, ends_after}
use Rattle.frame_layout.proofs.Reach.{align_cases}
use Rattle.frame_layout.proofs.Table.{choose}

-- a register's part, where it begins and what it needs, among parts that begin after an offset
abbrev pub StandsAt : ℕ → List Part → ℕ → ℕ → Need → Type 0
StandsAt at [] r o n = ⊥
StandsAt at (p ∷ ps) r o n = ((p.reg.0 ≡ r) × (begin_of at p.need ≡ o) × (p.need ≡ n)) ⊎ StandsAt (end_of at p.need) ps r o n

-- a home is that of a part
pub record Found (at : ℕ) (ps : List Part) (r : ℕ) : Type 0 where
  pub begin : ℕ
  pub need : Need
  pub stands : StandsAt at ps r begin need
  pub is_home : home_among at ps r ≡ home_at begin need

pub found : (at : ℕ) (ps : List Part) (r : ℕ) → (home_among at ps r ≡ NoHome) ⊎ Found at ps r
found at [] r = inl refl
found at (p ∷ ps) r = cases (nat_eq p.reg.0 r) refl (found (end_of at p.need) ps r)
  where
    x : Home
    x = home_at (begin_of at p.need) p.need

    cases : (t : Bool) → nat_eq p.reg.0 r ≡ t → (home_among (end_of at p.need) ps r ≡ NoHome) ⊎ Found (end_of at p.need) ps r → (home_among at (p ∷ ps) r ≡ NoHome) ⊎ Found at (p ∷ ps) r
    cases true e rest = inr (record { begin = begin_of at p.need; need = p.need; stands = inl (grind (arith, nat_tests, e), refl, refl); is_home = choose true (nat_eq p.reg.0 r) (home_at (begin_of at p.need) p.need) (home_among (end_of at p.need) ps r) e })
    cases false e (inl none) = inl (choose false (nat_eq p.reg.0 r) (home_at (begin_of at p.need) p.need) (home_among (end_of at p.need) ps r) e ∙ none)
    cases false e (inr f) = inr (record { begin = f.begin; need = f.need; stands = inr f.stands; is_home = choose false (nat_eq p.reg.0 r) (home_at (begin_of at p.need) p.need) (home_among (end_of at p.need) ps r) e ∙ f.is_home })

-- it lies between the offset and the end of the last
pub stands-low : (at : ℕ) (ps : List Part) (r o : ℕ) (n : Need) → StandsAt at ps r o n → at ≤ o
stands-low at (p ∷ ps) r o n (inl h) = let b = begins_after at p.need in let e = h.1 in omega arith
stands-low at (p ∷ ps) r o n (inr h) = let b = begins_after at p.need in let k = stands-low (end_of at p.need) ps r o n h in omega arith
stands-low at [] r o n h = absurd h

pub stands-high : (at : ℕ) (ps : List Part) (r o : ℕ) (n : Need) → StandsAt at ps r o n → o + size_of n ≤ end_of_all at ps
stands-high at [] r o n h = absurd h
stands-high at (p ∷ ps) r o n (inl h) =
    let far = ends_after (end_of at p.need) ps in
    let begin = h.1 in
    let size : size_of p.need ≡ size_of n = ap size_of h.2 in
    omega arith
stands-high at (p ∷ ps) r o n (inr h) = stands-high (end_of at p.need) ps r o n h

-- one before the other
before : (at o p : ℕ) (n m k : Need) → begin_of at k ≡ o → k ≡ n → end_of at k ≤ p → o + size_of n ≤ p
before at o p n m k b e le = let size : size_of k ≡ size_of n = ap size_of e in omega arith

-- parts of two registers have nothing in common
pub stands-apart : (at : ℕ) (ps : List Part) (r q o p : ℕ) (n m : Need) → StandsAt at ps r o n → StandsAt at ps q p m → r ≢ q → AreApart o (size_of n) p (size_of m)
stands-apart at [] r q o p n m h k apart = absurd h
stands-apart at (x ∷ ps) r q o p n m (inl h) (inl k) apart = absurd (apart (sym h.0 ∙ k.0))
stands-apart at (x ∷ ps) r q o p n m (inl h) (inr k) apart = inl (before at o p n m x.need h.1 h.2 (stands-low (end_of at x.need) ps q p m k))
stands-apart at (x ∷ ps) r q o p n m (inr h) (inl k) apart = inr (before at p o m n x.need k.1 k.2 (stands-low (end_of at x.need) ps r o n h))
stands-apart at (x ∷ ps) r q o p n m (inr h) (inr k) apart = stands-apart (end_of at x.need) ps r q o p n m h k apart

pub stands-split : (at : ℕ) (ps qs : List Part) (r o : ℕ) (n : Need) → StandsAt at (ps ++ qs) r o n → StandsAt at ps r o n ⊎ StandsAt (end_of_all at ps) qs r o n
stands-split at [] qs r o n h = inr h
stands-split at (p ∷ ps) qs r o n (inl h) = inl (inl h)
stands-split at (p ∷ ps) qs r o n (inr h) = ⊎_elim (λ x. inl (inr x)) (λ x. inr x) (stands-split (end_of at p.need) ps qs r o n h)

-- what holds of each part
pub stands-each : (Q : ℕ → Need → Type 0) (at : ℕ) (ps : List Part) (r o : ℕ) (n : Need) → Each (λ p. Q p.reg.0 p.need) ps → StandsAt at ps r o n → Q r n
stands-each Q at [] r o n e h = absurd h
stands-each Q at (p ∷ ps) r o n e (inl h) = subst (λ (x : ℕ). Q x n) h.0 (subst (λ (x : Need). Q p.reg.0 x) h.2 e.0)
stands-each Q at (p ∷ ps) r o n e (inr h) = stands-each Q (end_of at p.need) ps r o n e.1 h

stands-times : (at : ℕ) (ps : List Part) (r o : ℕ) (n : Need) → StandsAt at ps r o n → 1 ≤ times r ps
stands-times at [] r o n h = absurd h
stands-times at (p ∷ ps) r o n (inl h) =
    let e : nat_eq p.reg.0 r ≡ true = let s = h.0 in grind (arith, nat_tests, s) in
    let here : one (nat_eq p.reg.0 r) ≡ 1 = ap one e in
    omega arith
stands-times at (p ∷ ps) r o n (inr h) = let k = stands-times (end_of at p.need) ps r o n h in omega arith

-- where no register has two parts, its home is that of its part
pub stands-home : (at : ℕ) (ps : List Part) (r o : ℕ) (n : Need) → times r ps ≤ 1 → StandsAt at ps r o n → home_among at ps r ≡ home_at o n
stands-home at [] r o n once h = absurd h
stands-home at (p ∷ ps) r o n once (inl h) =
    let e : nat_eq p.reg.0 r ≡ true = let s = h.0 in grind (arith, nat_tests, s) in
    choose true (nat_eq p.reg.0 r) (home_at (begin_of at p.need) p.need) (home_among (end_of at p.need) ps r) e ∙ ap (λ (b : ℕ). home_at b p.need) h.1 ∙ ap (home_at o) h.2
stands-home at (p ∷ ps) r o n once (inr h) =
    let k = stands-times (end_of at p.need) ps r o n h in
    let e : nat_eq p.reg.0 r ≡ false = not_here (nat_eq p.reg.0 r) refl (omega arith) in
    choose false (nat_eq p.reg.0 r) (home_at (begin_of at p.need) p.need) (home_among (end_of at p.need) ps r) e ∙ stands-home (end_of at p.need) ps r o n (omega arith) h
  where
    not_here : (t : Bool) → nat_eq p.reg.0 r ≡ t → one (nat_eq p.reg.0 r) ≡ 0 → t ≡ false
    not_here true e z = let here : one (nat_eq p.reg.0 r) ≡ 1 = ap one e in absurd (omega arith)
    not_here false e z = refl

-- a part of the list stands among them
abbrev pub Has : List Part → Part → Type 0
Has [] p = ⊥
Has (q ∷ ps) p = (q ≡ p) ⊎ Has ps p

pub stands : (at : ℕ) (ps : List Part) (p : Part) → Has ps p → (o : ℕ) × StandsAt at ps p.reg.0 o p.need
stands at [] p h = absurd h
stands at (q ∷ ps) p (inl e) = (begin_of at q.need, inl (ap (λ (x : Part). x.reg.0) e, refl, ap (λ (x : Part). x.need) e))
stands at (q ∷ ps) p (inr h) = let rest = stands (end_of at q.need) ps p h in (rest.0, inr rest.1)

-- ---- alignment

abbrev pub IsSlotNeed : Need → Type 0
IsSlotNeed Slot = Unit {0}
IsSlotNeed SlotAndShadow = Unit {0}
IsSlotNeed (Memory size align) = ⊥

abbrev pub IsMemoryNeed : Need → Type 0
IsMemoryNeed Slot = ⊥
IsMemoryNeed SlotAndShadow = ⊥
IsMemoryNeed (Memory size align) = Unit {0}

slot-begins : (at : ℕ) (n : Need) → IsSlotNeed n → begin_of at n ≡ at
slot-begins at Slot h = refl
slot-begins at SlotAndShadow h = refl
slot-begins at (Memory size align) h = absurd h

slot-ends : (at : ℕ) (n : Need) → IsSlotNeed n → at % 4 ≡ 0 → end_of at n % 4 ≡ 0
slot-ends at Slot h e = omega arith
slot-ends at SlotAndShadow h e = omega arith
slot-ends at (Memory size align) h e = absurd h

pub slots-aligned : (at : ℕ) (ps : List Part) (r o : ℕ) (n : Need) → Each (λ p. IsSlotNeed p.need) ps → at % 4 ≡ 0 → StandsAt at ps r o n → o % 4 ≡ 0
slots-aligned at [] r o n e z h = absurd h
slots-aligned at (p ∷ ps) r o n e z (inl h) = let b = slot-begins at p.need e.0 in let s = h.1 in let same : at ≡ o = sym b ∙ s in subst (λ (x : ℕ). x % 4 ≡ 0) same z
slots-aligned at (p ∷ ps) r o n e z (inr h) = slots-aligned (end_of at p.need) ps r o n e.1 (slot-ends at p.need e.0 z) h

abbrev pub IsMultiple : ℕ → Need → Type 0
IsMultiple o (Memory size align) = o % align ≡ 0
IsMultiple o n = Unit {0}

begins-aligned : (at : ℕ) (n : Need) → IsNeed n → IsMultiple (begin_of at n) n
begins-aligned at Slot h = tt
begins-aligned at SlotAndShadow h = tt
begins-aligned at (Memory size align) h = align_cases align (λ (a : ℕ). next_multiple_of at a % a ≡ 0) (omega arith) (omega arith) (omega arith) (omega arith) (omega arith) h.0

pub stands-aligned : (at : ℕ) (ps : List Part) (r o : ℕ) (n : Need) → Each (λ p. IsNeed p.need) ps → StandsAt at ps r o n → IsMultiple o n
stands-aligned at [] r o n e h = absurd h
stands-aligned at (p ∷ ps) r o n e (inl h) = subst (λ (x : Need). IsMultiple o x) h.2 (subst (λ (b : ℕ). IsMultiple b p.need) h.1 (begins-aligned at p.need e.0))
stands-aligned at (p ∷ ps) r o n e (inr h) = stands-aligned (end_of at p.need) ps r o n e.1 h
