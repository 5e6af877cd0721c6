-- Elements of lists, lists without an element twice, and the first place at which something stands.
use Rattle.std.proofs.Common.{◌≡◌, ◌≢◌, ◌⊎◌, inl, inr, ℕ, ◌+◌, ◌<◌, zero, suc, ◌==◌, Bool, true, false, not, cond, List, [], ◌∷◌, ◌++◌, map, length, Option, Some, None, slice_get, All, Contains, refl, sym, ap, ◌∙◌, subst, arith}
use Rattle.std.specs.List.{flat_map, filter_map, cons_option, position_or_len, AllByRecursion as Each}
use Rattle.std.specs.Option.{option_map}
use Rattle.std.proofs.lemmas.Bool.Decides.{nat_tests}
use Rattle.std.proofs.lemmas.List.{map-append}
use Rattle.std.proofs.lemmas.Option.{slice_get_within, slice_get-get_or, get_or_from_slice_get}

-- x stands in the list
abbrev pub Has : {A : Type 0} → List A → A → Type 0
Has [] x = ⊥
Has (y ∷ ys) x = (y ≡ x) ⊎ Has ys x

-- no number stands twice in the list
abbrev pub Apart : List ℕ → Type 0
Apart [] = Unit {0}
Apart (x ∷ xs) = Each (λ y. x ≢ y) xs × Apart xs

-- one or none, before a list
abbrev pub before : {A : Type 0} → Option A → List A → List A
before None xs = xs
before (Some x) xs = x ∷ xs

pub each_of : {A : Type 0} (P : A → Type 0) (xs : List A) (x : A) → Each P xs → Has xs x → P x
each_of P [] x e h = absurd h
each_of P (y ∷ ys) x e (inl same) = subst P same e.0
each_of P (y ∷ ys) x e (inr h) = each_of P ys x e.1 h

pub each_map : {A : Type 0} (P Q : A → Type 0) (xs : List A) → ((x : A) → P x → Q x) → Each P xs → Each Q xs
each_map P Q [] f e = tt
each_map P Q (x ∷ xs) f e = (f x e.0, each_map P Q xs f e.1)

pub each_from : {A : Type 0} (P : A → Type 0) (xs : List A) → ((x : A) → Has xs x → P x) → Each P xs
each_from P [] h = tt
each_from P (x ∷ xs) h = (h x (inl refl), each_from P xs (λ y g. h y (inr g)))

pub each_mapped : {A B : Type 0} (f : A → B) (P : B → Type 0) (xs : List A) → ((k : ℕ) (x : A) → slice_get xs k ≡ Some x → P (f x)) → Each P (map f xs)
each_mapped f P [] h = tt
each_mapped f P (x ∷ xs) h = (h 0 x refl, each_mapped f P xs (λ k y e. h (suc k) y e))

pub each_left : {A : Type 0} (P : A → Type 0) (xs ys : List A) → Each P (xs ++ ys) → Each P xs
each_left P [] ys e = tt
each_left P (x ∷ xs) ys e = (e.0, each_left P xs ys e.1)

pub each_right : {A : Type 0} (P : A → Type 0) (xs ys : List A) → Each P (xs ++ ys) → Each P ys
each_right P [] ys e = e
each_right P (x ∷ xs) ys e = each_right P xs ys e.1

pub each_part : {A B : Type 0} (P : B → Type 0) (f : A → List B) (xs : List A) (x : A) → Each P (flat_map f xs) → Has xs x → Each P (f x)
each_part P f [] x e h = absurd h
each_part P f (y ∷ ys) x e (inl same) = subst (λ z. Each P (f z)) same (each_left P (f y) (flat_map f ys) e)
each_part P f (y ∷ ys) x e (inr h) = each_part P f ys x (each_right P (f y) (flat_map f ys) e) h

pub apart_mapped : {A : Type 0} (f : A → ℕ) (xs : List A) → ((i j : ℕ) (a b : A) → i < j → slice_get xs i ≡ Some a → slice_get xs j ≡ Some b → f a ≢ f b) → Apart (map f xs)
apart_mapped f [] h = tt
apart_mapped f (x ∷ xs) h = (
  each_mapped f (λ y. f x ≢ y) xs (λ j b e. h 0 (suc j) x b (omega arith) refl e),
  apart_mapped f xs (λ i j a b lt ei ej. h (suc i) (suc j) a b (omega (arith, lt)) ei ej),
)

pub apart_left : (xs ys : List ℕ) → Apart (xs ++ ys) → Apart xs
apart_left [] ys a = tt
apart_left (x ∷ xs) ys a = (each_left (λ y. x ≢ y) xs ys a.0, apart_left xs ys a.1)

pub apart_right : (xs ys : List ℕ) → Apart (xs ++ ys) → Apart ys
apart_right [] ys a = a
apart_right (x ∷ xs) ys a = apart_right xs ys a.1

pub apart_part : {A : Type 0} (f : A → List ℕ) (xs : List A) (x : A) → Apart (flat_map f xs) → Has xs x → Apart (f x)
apart_part f [] x a h = absurd h
apart_part f (y ∷ ys) x a (inl same) = subst (λ z. Apart (f z)) same (apart_left (f y) (flat_map f ys) a)
apart_part f (y ∷ ys) x a (inr h) = apart_part f ys x (apart_right (f y) (flat_map f ys) a) h

-- what stands in the first list stands not in the second
pub apart_across : (xs ys : List ℕ) → Apart (xs ++ ys) → Each (λ x. Each (λ y. x ≢ y) ys) xs
apart_across [] ys a = tt
apart_across (x ∷ xs) ys a = (each_right (λ y. x ≢ y) xs ys a.0, apart_across xs ys a.1)

pub has_right : {A : Type 0} (xs ys : List A) (y : A) → Has ys y → Has (xs ++ ys) y
has_right [] ys y h = h
has_right (x ∷ xs) ys y h = inr (has_right xs ys y h)

pub has_left : {A : Type 0} (xs ys : List A) (x : A) → Has xs x → Has (xs ++ ys) x
has_left [] ys x h = absurd h
has_left (y ∷ xs) ys x (inl e) = inl e
has_left (y ∷ xs) ys x (inr h) = inr (has_left xs ys x h)

pub has_part : {A B : Type 0} (f : A → List B) (xs : List A) (x : A) (y : B) → Has xs x → Has (f x) y → Has (flat_map f xs) y
has_part f [] x y h g = absurd h
has_part f (z ∷ zs) x y (inl e) g = has_left (f z) (flat_map f zs) y (subst (λ w. Has (f w) y) (sym e) g)
has_part f (z ∷ zs) x y (inr h) g = has_right (f z) (flat_map f zs) y (has_part f zs x y h g)

pub has_at : {A : Type 0} (xs : List A) (k : ℕ) (x : A) → slice_get xs k ≡ Some x → Has xs x
has_at [] k x e = cc
has_at (y ∷ ys) zero x e = inl cc
has_at (y ∷ ys) (suc k) x e = inr (has_at ys k x e)

pub at_has : {A : Type 0} (xs : List A) (x : A) → Has xs x → (k : ℕ) × (slice_get xs k ≡ Some x)
at_has [] x h = absurd h
at_has (y ∷ ys) x (inl e) = (0, ap Some e)
at_has (y ∷ ys) x (inr h) = let r = at_has ys x h in (suc r.0, r.1)

pub has_mapped : {A B : Type 0} (f : A → B) (xs : List A) (x : A) → Has xs x → Has (map f xs) (f x)
has_mapped f [] x h = absurd h
has_mapped f (y ∷ ys) x (inl e) = inl (ap f e)
has_mapped f (y ∷ ys) x (inr h) = inr (has_mapped f ys x h)

-- an element from which map made another
pub map_source : {A B : Type 0} (f : A → B) (xs : List A) (y : B) → Has (map f xs) y → (x : A) × Has xs x × (f x ≡ y)
map_source f [] y h = absurd h
map_source f (x ∷ xs) y (inl e) = (x, inl refl, e)
map_source f (x ∷ xs) y (inr h) = let r = map_source f xs y h in (r.0, inr r.1, r.2)

pub has_made : {A B : Type 0} (f : A → Option B) (xs : List A) (x : A) (y : B) → Has xs x → f x ≡ Some y → Has (filter_map f xs) y
has_made f [] x y h e = absurd h
has_made f (z ∷ zs) x y (inl same) e = subst (λ o. Has (cons_option o (filter_map f zs)) y) (sym (ap f same ∙ e)) (inl refl)
has_made f (z ∷ zs) x y (inr h) e = past (f z) (has_made f zs x y h e)
  where
    past : (o : Option _) → Has (filter_map f zs) y → Has (cons_option o (filter_map f zs)) y
    past None g = g
    past (Some w) g = inr g

-- the same as std's word, which goes by index
pub contains : {A : Type 0} (xs : List A) (x : A) → Has xs x → Contains xs x
contains [] x h = absurd h
contains (y ∷ ys) x (inl e) = (0, omega arith, e)
contains (y ∷ ys) x (inr h) = let r = contains ys x h in let lt = r.1 in (suc r.0, omega (arith, lt), r.2)

pub has_in : {A : Type 0} (xs : List A) (x : A) → Contains xs x → Has xs x
has_in xs x h = has_at xs h.0 x (slice_get-get_or xs h.0 x h.1 ∙ ap Some h.2)

pub all_at : {A : Type 0} (P : A → Type 0) (xs : List A) (k : ℕ) (x : A) → All P xs → slice_get xs k ≡ Some x → P x
all_at P xs k x all e = subst P (get_or_from_slice_get xs k x x e) (all k x (slice_get_within xs k x e))

-- an element from which filter_map made another
pub has_source : {A B : Type 0} (f : A → Option B) (xs : List A) (y : B) → Has (filter_map f xs) y → (x : A) × Has xs x × (f x ≡ Some y)
has_source {A} {B} f [] y h = absurd h
has_source {A} {B} f (x ∷ xs) y h = by_first (f x) refl (λ g. has_source f xs y g) h
  where
    later : ((z : A) × Has xs z × (f z ≡ Some y)) → (z : A) × Has (x ∷ xs) z × (f z ≡ Some y)
    later r = (r.0, inr r.1, r.2)

    by_first : (o : Option B) → f x ≡ o → (Has (filter_map f xs) y → (z : A) × Has xs z × (f z ≡ Some y)) → Has (filter_map f (x ∷ xs)) y → (z : A) × Has (x ∷ xs) z × (f z ≡ Some y)
    by_first None e rest g = later (rest (subst (λ o. Has (cons_option o (filter_map f xs)) y) e g))
    by_first (Some z) e rest g = here (subst (λ o. Has (cons_option o (filter_map f xs)) y) e g)
      where
        here : (z ≡ y) ⊎ Has (filter_map f xs) y → (w : A) × Has (x ∷ xs) w × (f w ≡ Some y)
        here (inl same) = (x, inl refl, e ∙ ap Some same)
        here (inr h') = later (rest h')

-- an element at each position
pub element : {A : Type 0} (xs : List A) (k : ℕ) → k < length xs → (e : A) × (slice_get xs k ≡ Some e)
element [] k h = absurd (omega arith)
element (y ∷ ys) zero h = (y, refl)
element (y ∷ ys) (suc k) h = element ys k (omega arith)

-- an element from which option_map made another
pub mapped : {A B : Type 0} (f : A → B) (o : Option A) (y : B) → option_map f o ≡ Some y → (x : A) × (o ≡ Some x) × (f x ≡ y)
mapped f None y e = cc
mapped f (Some x) y e = (x, refl, cc)

-- a function over the parts that make a list
pub mapped_parts : {A B C : Type 0} (g : B → C) (f : A → List B) (h : A → List C) → ((x : A) → map g (f x) ≡ h x) → (xs : List A) → map g (flat_map f xs) ≡ flat_map h xs
mapped_parts g f h e [] = refl
mapped_parts g f h e (x ∷ xs) = map-append g (f x) (flat_map f xs) ∙ ap (λ ys. ys ++ map g (flat_map f xs)) (e x) ∙ ap (λ ys. h x ++ ys) (mapped_parts g f h e xs)

-- ---- places

module _ {A : Type 0} (key : A → ℕ) where
  -- where the first element with a key stands, or the length
  abbrev pub place : List A → ℕ → ℕ
  place xs x = position_or_len (λ e. key e == x) xs

  pub place_within : (xs : List A) (e : A) → Has xs e → place xs (key e) < length xs
  place_within [] e h = absurd h
  place_within (y ∷ ys) e h = by_test (key y == key e) refl (λ g. place_within ys e g) h
    where
      by_test : (t : Bool) → (key y == key e) ≡ t → (Has ys e → place ys (key e) < length ys) → (y ≡ e) ⊎ Has ys e → place (y ∷ ys) (key e) < suc (length ys)
      by_test true t rest g = rw t (omega arith)
      by_test false t rest (inl same) = absurd (let k : key y ≡ key e = ap key same in grind (arith, nat_tests))
      by_test false t rest (inr g) = rw t (let lt = rest g in omega arith)

  -- what stands at the place has the key
  pub place_has : (xs : List A) (x : ℕ) (e : A) → slice_get xs (place xs x) ≡ Some e → key e ≡ x
  place_has [] x e h = cc
  place_has (y ∷ ys) x e h = by_test (key y == x) refl (λ g. place_has ys x e g) h
    where
      by_test : (t : Bool) → (key y == x) ≡ t → (slice_get ys (place ys x) ≡ Some e → key e ≡ x) → slice_get (y ∷ ys) (place (y ∷ ys) x) ≡ Some e → key e ≡ x
      by_test true t rest g =
          let first : slice_get (y ∷ ys) (cond (not true) (1 + place ys x) 0) ≡ Some e = subst (λ b. slice_get (y ∷ ys) (cond (not b) (1 + place ys x) 0) ≡ Some e) t g in
          let same : y ≡ e = cc in
          let k : key y ≡ x = grind (arith, nat_tests) in
          ap key (sym same) ∙ k
      by_test false t rest g =
          let next : slice_get (y ∷ ys) (1 + place ys x) ≡ Some e = subst (λ b. slice_get (y ∷ ys) (cond (not b) (1 + place ys x) 0) ≡ Some e) t g in
          let n : 1 + place ys x ≡ suc (place ys x) = omega arith in
          rest (subst (λ k. slice_get (y ∷ ys) k ≡ Some e) n next)

  -- a key that stands in the list has a place of its own
  pub place_own : (xs : List A) (x d : ℕ) → place xs d < length xs → (place xs x == place xs d) ≡ (x == d)
  place_own xs x d h = by_test (place xs x == place xs d) (x == d) refl refl
    where
      at_d : (e : A) × (slice_get xs (place xs d) ≡ Some e)
      at_d = element xs (place xs d) h

      by_test : (s t : Bool) → (place xs x == place xs d) ≡ s → (x == d) ≡ t → s ≡ t
      by_test true true p q = refl
      by_test false false p q = refl
      by_test true false p q =
          let same : place xs x ≡ place xs d = grind (arith, nat_tests) in
          let here : slice_get xs (place xs x) ≡ Some at_d.0 = ap (slice_get xs) same ∙ at_d.1 in
          let both : x ≡ d = sym (place_has xs x at_d.0 here) ∙ place_has xs d at_d.0 at_d.1 in
          absurd (grind (arith, nat_tests))
      by_test false true p q =
          let same : x ≡ d = grind (arith, nat_tests) in
          let both : place xs x ≡ place xs d = ap (place xs) same in
          absurd (grind (arith, nat_tests))
