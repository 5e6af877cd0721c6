-- Tests that tell whether something is so.
use Rattle.std.proofs.Common.{◌≡◌, ◌⊎◌, inl, inr, refl, sym, subst, Bool, true, false, ◌&&◌, List, [], ◌∷◌, All, slice_index_or}
use Rattle.std.specs.Bool.{Decides}
use Rattle.std.specs.List.{list_all}
use Rattle.std.proofs.lemmas.List.Sums.{AllPass-from_list_all, list_all-from_AllPass}
use Rattle.ir_core.proofs.Lists.{Has}

pub false_is_not_true : false ≡ true → ⊥
false_is_not_true e = cc

pub always : Decides true (Unit {0})
always = (λ e. tt, λ u. refl)

pub never : {P : Type 0} → (P → ⊥) → Decides false P
never not_so = (λ e. absurd (false_is_not_true e), λ p. absurd (not_so p))

pub each : {A : Type 0} (test : A → Bool) (P : A → Type 0) → ((x : A) → Decides (test x) (P x)) → (xs : List A) → Decides (list_all test xs) (All P xs)
each test P d xs = (of_test, to_test)
  where
    of_test : list_all test xs ≡ true → All P xs
    of_test e k x lt = (d (slice_index_or xs k x)).0 (AllPass-from_list_all test xs e k x lt)

    to_test : All P xs → list_all test xs ≡ true
    to_test all = list_all-from_AllPass test xs (λ k x lt. (d (slice_index_or xs k x)).1 (all k x lt))

-- a test that fails at some element
pub some_fails : {A : Type 0} (test : A → Bool) (xs : List A) → list_all test xs ≡ false → (x : A) × Has xs x × (test x ≡ false)
some_fails test [] e = absurd (false_is_not_true (sym e))
some_fails {A} test (x ∷ xs) e = by_test (test x) refl e (some_fails test xs)
  where
    by_test : (t : Bool) → test x ≡ t → (t && list_all test xs) ≡ false → (list_all test xs ≡ false → (y : A) × Has xs y × (test y ≡ false)) → (y : A) × Has (x ∷ xs) y × (test y ≡ false)
    by_test false t g rest = (x, inl refl, t)
    by_test true t g rest = let r = rest g in (r.0, inr r.1, r.2)

pub passes : {A : Type 0} (test : A → Bool) (xs : List A) (x : A) → list_all test xs ≡ true → Has xs x → test x ≡ true
passes test [] x e h = absurd h
passes {A} test (y ∷ ys) x e h = by_test (test y) refl e (λ g k. passes test ys x g k) h
  where
    by_test : (t : Bool) → test y ≡ t → (t && list_all test ys) ≡ true → (list_all test ys ≡ true → Has ys x → test x ≡ true) → (y ≡ x) ⊎ Has ys x → test x ≡ true
    by_test true t g rest (inl same) = subst (λ z. test z ≡ true) same t
    by_test true t g rest (inr k) = rest g k
    by_test false t g rest k = absurd (false_is_not_true g)
