-- Lists that are joined or made of parts, places of keys that stand once, and values that may be there.
use Rattle.std.proofs.Common.{◌≡◌, ◌≢◌, ◌⊎◌, inl, inr, ℕ, zero, suc, ◌<◌, List, [], ◌∷◌, ◌++◌, map, length, Option, Some, None, slice_get, refl, sym, ap, ◌∙◌}
use Rattle.std.specs.List.{flat_map, AllByRecursion as Each}
use Rattle.ir_core.proofs.Lists.{Has, Apart, each_of, has_at, has_mapped, element, place, place_within, place_has}

-- ---- values that may be there

pub none_is_none : {A : Type 0} (x : A) → None ≡ Some x → ⊥
none_is_none x e = cc

pub same_some : {A : Type 0} (x y : A) → Some x ≡ Some y → x ≡ y
same_some x y e = cc

pub one_at : {A : Type 0} (o : Option A) (x y : A) → o ≡ Some x → o ≡ Some y → x ≡ y
one_at o x y e f = same_some x y (sym e ∙ f)

-- ---- lists

-- what stands at a place also stands there where more follows
pub left_at : {A : Type 0} (xs ys : List A) (k : ℕ) (x : A) → slice_get xs k ≡ Some x → slice_get (xs ++ ys) k ≡ Some x
left_at [] ys k x e = cc
left_at (y ∷ xs) ys zero x e = e
left_at (y ∷ xs) ys (suc k) x e = left_at xs ys k x e

pub each_joined : {A : Type 0} (P : A → Type 0) (xs ys : List A) → Each P xs → Each P ys → Each P (xs ++ ys)
each_joined P [] ys p q = q
each_joined P (x ∷ xs) ys p q = (p.0, each_joined P xs ys p.1 q)

-- an element of a joined list
pub split : {A : Type 0} (xs ys : List A) (x : A) → Has (xs ++ ys) x → Has xs x ⊎ Has ys x
split [] ys x h = inr h
split (z ∷ zs) ys x (inl e) = inl (inl e)
split (z ∷ zs) ys x (inr h) = later (split zs ys x h)
  where
    later : Has zs x ⊎ Has ys x → Has (z ∷ zs) x ⊎ Has ys x
    later (inl g) = inl (inr g)
    later (inr g) = inr g

-- an element of one of the parts
pub in_part : {A B : Type 0} (f : A → List B) (xs : List A) (y : B) → Has (flat_map f xs) y → (x : A) × Has xs x × Has (f x) y
in_part f [] y h = absurd h
in_part f (z ∷ zs) y h = by_part (split (f z) (flat_map f zs) y h) (λ g. in_part f zs y g)
  where
    by_part : Has (f z) y ⊎ Has (flat_map f zs) y → (Has (flat_map f zs) y → (x : _) × Has zs x × Has (f x) y)
        → (x : _) × Has (z ∷ zs) x × Has (f x) y
    by_part (inl g) rest = (z, inl refl, g)
    by_part (inr g) rest = let r = rest g in (r.0, inr r.1, r.2)

pub mapped_twice : {A B C : Type 0} (g : B → C) (f : A → B) (xs : List A) → map g (map f xs) ≡ map (λ x. g (f x)) xs
mapped_twice g f [] = refl
mapped_twice g f (x ∷ xs) = ap (λ ys. g (f x) ∷ ys) (mapped_twice g f xs)

-- ---- places of keys that stand once

module _ {A : Type 0} (key : A → ℕ) where
  one_place : (xs : List A) (i j : ℕ) (a b : A) → Apart (map key xs)
      → slice_get xs i ≡ Some a → slice_get xs j ≡ Some b → key a ≡ key b → i ≡ j
  one_place [] i j a b once p q same = cc
  one_place (x ∷ xs) zero zero a b once p q same = refl
  one_place (x ∷ xs) (suc i) (suc j) a b once p q same = ap suc (one_place xs i j a b once.1 p q same)
  one_place (x ∷ xs) zero (suc j) a b once p q same =
      let first : x ≡ a = cc in
      absurd (each_of (λ (y : ℕ). key x ≢ y) (map key xs) (key b) once.0 (has_mapped key xs b (has_at xs j b q)) (ap key first ∙ same))
  one_place (x ∷ xs) (suc i) zero a b once p q same =
      let first : x ≡ b = cc in
      absurd (each_of (λ (y : ℕ). key x ≢ y) (map key xs) (key a) once.0 (has_mapped key xs a (has_at xs i a p)) (ap key first ∙ sym same))

  pub own_place : (xs : List A) (i : ℕ) (a : A) → Apart (map key xs) → slice_get xs i ≡ Some a → place key xs (key a) ≡ i
  own_place xs i a once e =
      let first = element xs (place key xs (key a)) (place_within key xs a (has_at xs i a e)) in
      one_place xs (place key xs (key a)) i first.0 a once first.1 e (place_has key xs (key a) first.0 first.1)

  -- a key that stands in the list has a place of its own
  pub one_key : (xs : List A) (x y : ℕ) → place key xs x < length xs → place key xs x ≡ place key xs y → x ≡ y
  one_key xs x y lt same =
      let at = element xs (place key xs x) lt in
      sym (place_has key xs x at.0 at.1) ∙ place_has key xs y at.0 (ap (slice_get xs) (sym same) ∙ at.1)
