-- What is led to is led on.
use Rattle.std.proofs.Common.{◌≡◌, ◌⊎◌, inl, inr, ⊎_elim, ℕ, zero, suc, ◌<◌, Bool, true, false, ◌&&◌, ◌||◌, nat_eq, refl, sym, ◌∙◌, subst, arith}
use Rattle.std.proofs.lemmas.Bool.Decides.{nat_tests}
use Rattle.std.proofs.lemmas.Bool.{cases_lt}
use Rattle.flow_fold.specs.Ways.{leads}

or_left : (a b : Bool) → a ≡ true → (a || b) ≡ true
or_left a b e = grind (arith, nat_tests)

or_right : (a b : Bool) → b ≡ true → (a || b) ≡ true
or_right a b e = grind (arith, nat_tests)

and_both : (a b : Bool) → a ≡ true → b ≡ true → (a && b) ≡ true
and_both a b e f = grind (arith, nat_tests)

module _ (edge : ℕ → ℕ → Bool) where
  abbrev Leads : ℕ → ℕ → ℕ → Type 0
  Leads k a b = leads edge k a b ≡ true

  -- through more nodes
  one_more : (k a b : ℕ) → Leads k a b → Leads (suc k) a b
  one_more k a b e = or_left (leads edge k a b) _ e

  pub by_edge : (k a b : ℕ) → edge a b ≡ true → Leads k a b
  by_edge zero a b e = or_right (nat_eq a b) (edge a b) e
  by_edge (suc k) a b e = one_more k a b (by_edge k a b e)

  pub to_itself : (k a : ℕ) → Leads k a a
  to_itself zero a = or_left (nat_eq a a) (edge a a) (grind (arith, nat_tests))
  to_itself (suc k) a = one_more k a a (to_itself k a)

  -- the two cases of a way through one node more
  abbrev Cases : ℕ → ℕ → ℕ → Type 0
  Cases k a b = Leads k a b ⊎ (Leads k a k × Leads k k b)

  cases : (k a b : ℕ) → Leads (suc k) a b → Cases k a b
  cases k a b e = by_test (leads edge k a b) (leads edge k a k) (leads edge k k b) refl refl refl e
    where
      by_test : (x y z : Bool) → leads edge k a b ≡ x → leads edge k a k ≡ y → leads edge k k b ≡ z → (x || (y && z)) ≡ true → Cases k a b
      by_test true y z ex ey ez e = inl ex
      by_test false true true ex ey ez e = inr (ey, ez)
      by_test false true false ex ey ez e = absurd (let none : false ≡ true = e in cc)
      by_test false false z ex ey ez e = absurd (let none : false ≡ true = e in cc)

  through : (k a b : ℕ) → Leads k a k → Leads k k b → Leads (suc k) a b
  through k a b e f = or_right (leads edge k a b) _ (and_both (leads edge k a k) (leads edge k k b) e f)

  -- ways that meet at a node below k are one way
  pub joins : (k a c b : ℕ) → c < k → Leads k a c → Leads k c b → Leads k a b
  joins zero a c b less e f = absurd (omega (arith, less))
  joins (suc k) a c b less e f = ⊎_elim (λ below. under (λ x y. joins k x c y below) (cases k a c e) (cases k c b f)) (λ le. let same : c ≡ k = omega (arith, less, le) in here same (cases k a c e) (cases k c b f)) (cases_lt c k)
    where
      under : ((x y : ℕ) → Leads k x c → Leads k c y → Leads k x y) → Cases k a c → Cases k c b → Leads (suc k) a b
      under join (inl x) (inl y) = one_more k a b (join a b x y)
      under join (inl x) (inr y) = through k a b (join a k x y.0) y.1
      under join (inr x) (inl y) = through k a b x.0 (join k b x.1 y)
      under join (inr x) (inr y) = through k a b x.0 y.1

      to_k : c ≡ k → Cases k a c → Leads k a k
      to_k same (inl x) = subst (λ n. Leads k a n) same x
      to_k same (inr x) = x.0

      from_k : c ≡ k → Cases k c b → Leads k k b
      from_k same (inl y) = subst (λ n. Leads k n b) same y
      from_k same (inr y) = y.1

      here : c ≡ k → Cases k a c → Cases k c b → Leads (suc k) a b
      here same x y = through k a b (to_k same x) (from_k same y)

  -- what is led to stands in each set that holds the start and whatever its elements have edges to
  pub least : (In : ℕ → Type 0) → ((a b : ℕ) → In a → edge a b ≡ true → In b) → (k a b : ℕ) → In a → Leads k a b → In b
  least In closed zero a b has e = at (nat_eq a b) (edge a b) refl refl e
    where
      at : (x y : Bool) → nat_eq a b ≡ x → edge a b ≡ y → (x || y) ≡ true → In b
      at true y ex ey e = let same : a ≡ b = grind (arith, nat_tests) in subst In same has
      at false true ex ey e = closed a b has ey
      at false false ex ey e = absurd (let none : false ≡ true = e in cc)
  least In closed (suc k) a b has e = ⊎_elim (λ x. least In closed k a b has x) (λ x. least In closed k k b (least In closed k a k has x.0) x.1) (cases k a b e)

-- a set that holds the start, whatever its elements have edges to, and nothing but what is led to, is what is led to
pub marked_is_led : (edge : ℕ → ℕ → Bool) (k a : ℕ) (marked : ℕ → Bool) → marked a ≡ true → ((x y : ℕ) → marked x ≡ true → edge x y ≡ true → marked y ≡ true) → ((x : ℕ) → marked x ≡ true → leads edge k a x ≡ true) → (b : ℕ) → marked b ≡ leads edge k a b
marked_is_led edge k a marked start closed sound b = by_tests (marked b) (leads edge k a b) refl refl
  where
    by_tests : (s t : Bool) → marked b ≡ s → leads edge k a b ≡ t → s ≡ t
    by_tests true true em el = refl
    by_tests false false em el = refl
    by_tests true false em el = absurd (let both : true ≡ false = sym (sound b em) ∙ el in cc)
    by_tests false true em el = absurd (let both : false ≡ true = sym em ∙ least edge (λ x. marked x ≡ true) closed k a b start el in cc)
