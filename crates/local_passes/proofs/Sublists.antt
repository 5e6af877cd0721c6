-- Lists of which some elements are left.
use Rattle.std.proofs.Common.{◌≡◌, ◌≢◌, ◌⊎◌, inl, inr, ⊎_elim, ℕ, zero, suc, ◌+◌, ◌<◌, ◌≤◌, Bool, true, false, cond, List, [], ◌∷◌, ◌++◌, map, length, take, Option, Some, None, slice_get, All, refl, sym, ap, ◌∙◌, subst, arith}
use Rattle.std.specs.List.{filter, filter_map, cons_option, flat_map}
use Rattle.std.proofs.lemmas.List.Elements.{All-contains_itself}
use Rattle.ir_core.proofs.Lists.{Has, Apart, each_of, each_from, has_in}

-- what holds of each element, by index
pub each_all : {A : Type 0} (P : A → Type 0) (xs : List A) → ((x : A) → Has xs x → P x) → All P xs
each_all P xs h = λ k d lt. h _ (has_in xs _ (All-contains_itself xs k d lt))

-- ---- numbers that are left, in their order

abbrev pub Sub : List ℕ → List ℕ → Type 0
Sub xs [] = xs ≡ []
Sub xs (y ∷ ys) = Sub xs ys ⊎ ((rest : List ℕ) × (xs ≡ y ∷ rest) × Sub rest ys)

pub sub_has : (xs ys : List ℕ) (r : ℕ) → Sub xs ys → Has xs r → Has ys r
sub_has xs [] r s h = subst (λ zs. Has zs r) s h
sub_has xs (y ∷ ys) r (inl s) h = inr (sub_has xs ys r s h)
sub_has xs (y ∷ ys) r (inr s) h = ⊎_elim (λ same. inl same) (λ g. inr (sub_has s.0 ys r s.2 g)) (let first : (y ≡ r) ⊎ Has s.0 r = subst (λ zs. Has zs r) s.1 h in first)

pub sub_apart : (xs ys : List ℕ) → Sub xs ys → Apart ys → Apart xs
sub_apart xs [] s a = subst Apart (sym s) tt
sub_apart xs (y ∷ ys) (inl s) a = sub_apart xs ys s a.1
sub_apart xs (y ∷ ys) (inr s) a = subst Apart (sym s.1) (each_from (λ (z : ℕ). y ≢ z) s.0 (λ z h. each_of (λ (w : ℕ). y ≢ w) ys z a.0 (sub_has s.0 ys z s.2 h)), sub_apart s.0 ys s.2 a.1)

pub sub_joined : (xs ys us vs : List ℕ) → Sub xs ys → Sub us vs → Sub (xs ++ us) (ys ++ vs)
sub_joined xs [] us vs s t = subst (λ zs. Sub (zs ++ us) vs) (sym s) t
sub_joined xs (y ∷ ys) us vs (inl s) t = inl (sub_joined xs ys us vs s t)
sub_joined xs (y ∷ ys) us vs (inr s) t = inr (s.0 ++ us, ap (λ zs. zs ++ us) s.1, sub_joined s.0 ys us vs s.2 t)

pub sub_filter : {A : Type 0} (f : A → ℕ) (keep : A → Bool) (xs : List A) → Sub (map f (filter keep xs)) (map f xs)
sub_filter f keep [] = refl
sub_filter f keep (x ∷ xs) = by_test (keep x) (sub_filter f keep xs)
  where
    by_test : (t : Bool) → Sub (map f (filter keep xs)) (map f xs) → Sub (map f (cond t (x ∷ filter keep xs) (filter keep xs))) (f x ∷ map f xs)
    by_test true s = inr (map f (filter keep xs), refl, s)
    by_test false s = inl s

-- elements that are made of others, where what is made gives nothing or the same number
pub sub_made : {A : Type 0} (g : A → Option A) (w : A → Option ℕ) → ((x y : A) → g x ≡ Some y → (w y ≡ None) ⊎ (w y ≡ w x)) → (xs : List A) → Sub (filter_map w (filter_map g xs)) (filter_map w xs)
sub_made g w same [] = refl
sub_made g w same (x ∷ xs) = by_made (g x) refl (sub_made g w same xs)
  where
    skipped : (o : Option ℕ) (us vs : List ℕ) → Sub us vs → Sub us (cons_option o vs)
    skipped None us vs s = s
    skipped (Some r) us vs s = inl s

    kept : (o : Option ℕ) (us vs : List ℕ) → Sub us vs → Sub (cons_option o us) (cons_option o vs)
    kept None us vs s = s
    kept (Some r) us vs s = inr (us, refl, s)

    by_made : (o : Option _) → g x ≡ o → Sub (filter_map w (filter_map g xs)) (filter_map w xs) → Sub (filter_map w (cons_option o (filter_map g xs))) (cons_option (w x) (filter_map w xs))
    by_made None e s = skipped (w x) (filter_map w (filter_map g xs)) (filter_map w xs) s
    by_made (Some y) e s = ⊎_elim
        (λ none. subst (λ o. Sub (cons_option o (filter_map w (filter_map g xs))) (cons_option (w x) (filter_map w xs))) (sym none) (skipped (w x) (filter_map w (filter_map g xs)) (filter_map w xs) s))
        (λ one. subst (λ o. Sub (cons_option o (filter_map w (filter_map g xs))) (cons_option (w x) (filter_map w xs))) (sym one) (kept (w x) (filter_map w (filter_map g xs)) (filter_map w xs) s))
        (same x y e)

pub sub_parts : {A : Type 0} (f : A → List ℕ) (g : A → A) → ((x : A) → Sub (f (g x)) (f x)) → (xs : List A) → Sub (flat_map f (map g xs)) (flat_map f xs)
sub_parts f g part [] = refl
sub_parts f g part (x ∷ xs) = sub_joined (f (g x)) (f x) (flat_map f (map g xs)) (flat_map f xs) (part x) (sub_parts f g part xs)

-- ---- elements that pass a test

pub filter_has : {A : Type 0} (keep : A → Bool) (xs : List A) (x : A) → Has xs x → keep x ≡ true → Has (filter keep xs) x
filter_has keep [] x h e = absurd h
filter_has keep (y ∷ ys) x (inl same) e = subst (λ t. Has (cond t (y ∷ filter keep ys) (filter keep ys)) x) (sym (ap keep same ∙ e)) (inl same)
filter_has keep (y ∷ ys) x (inr h) e = by_test (keep y) (filter_has keep ys x h e)
  where
    by_test : (t : Bool) → Has (filter keep ys) x → Has (cond t (y ∷ filter keep ys) (filter keep ys)) x
    by_test true g = inr g
    by_test false g = g

pub filter_from : {A : Type 0} (keep : A → Bool) (xs : List A) (x : A) → Has (filter keep xs) x → Has xs x × (keep x ≡ true)
filter_from keep [] x h = absurd h
filter_from {A} keep (y ∷ ys) x h = by_test (keep y) refl h (λ g. filter_from keep ys x g)
  where
    later : Has ys x × (keep x ≡ true) → Has (y ∷ ys) x × (keep x ≡ true)
    later r = (inr r.0, r.1)

    by_test : (t : Bool) → keep y ≡ t → Has (cond t (y ∷ filter keep ys) (filter keep ys)) x → (Has (filter keep ys) x → Has ys x × (keep x ≡ true)) → Has (y ∷ ys) x × (keep x ≡ true)
    by_test true e (inl same) rest = (inl same, sym (ap keep same) ∙ e)
    by_test true e (inr g) rest = later (rest g)
    by_test false e g rest = later (rest g)

-- ---- places of elements that are made of others

module _ {A B : Type 0} (g : A → Option B) where
  -- how many are made of the first m
  abbrev pub count : List A → ℕ → ℕ
  count xs m = length (filter_map g (take m xs))

  longer : (o : Option B) (ys : List B) → length ys ≤ length (cons_option o ys)
  longer None ys = omega arith
  longer (Some y) ys = omega arith

  pub made_from : (xs : List A) (n : ℕ) (y : B) → slice_get (filter_map g xs) n ≡ Some y → (m : ℕ) × (x : A) × (slice_get xs m ≡ Some x) × (g x ≡ Some y) × (count xs m ≡ n)
  made_from [] n y e = absurd cc
  made_from (x ∷ xs) n y e = by_made (g x) refl n e (λ k f. made_from xs k y f)
    where
      later : (k n : ℕ) → length (cons_option (g x) []) + k ≡ n → ((m : ℕ) × (z : A) × (slice_get xs m ≡ Some z) × (g z ≡ Some y) × (count xs m ≡ k)) → (m : ℕ) × (z : A) × (slice_get (x ∷ xs) m ≡ Some z) × (g z ≡ Some y) × (count (x ∷ xs) m ≡ n)
      later k n e r = (suc r.0, r.1, r.2, r.3, by_first (g x) e)
        where
          by_first : (o : Option B) → length (cons_option o []) + k ≡ n → length (cons_option o (filter_map g (take r.0 xs))) ≡ n
          by_first None f = let c = r.4 in omega (arith, f, c)
          by_first (Some z) f = let c = r.4 in omega (arith, f, c)

      by_made : (o : Option B) → g x ≡ o → (n : ℕ) → slice_get (cons_option o (filter_map g xs)) n ≡ Some y → ((k : ℕ) → slice_get (filter_map g xs) k ≡ Some y → (m : ℕ) × (z : A) × (slice_get xs m ≡ Some z) × (g z ≡ Some y) × (count xs m ≡ k))
          → (m : ℕ) × (z : A) × (slice_get (x ∷ xs) m ≡ Some z) × (g z ≡ Some y) × (count (x ∷ xs) m ≡ n)
      by_made None is n e rest = later n n (let none : length (cons_option (g x) []) ≡ 0 = ap (λ o. length (cons_option o [])) is in omega (arith, none)) (rest n e)
      by_made (Some z) is zero e rest = (0, x, refl, is ∙ e, refl)
      by_made (Some z) is (suc n) e rest = later n (suc n) (let one : length (cons_option (g x) []) ≡ 1 = ap (λ o. length (cons_option o [])) is in omega (arith, one)) (rest n e)

  pub made_at : (xs : List A) (m : ℕ) (x : A) (y : B) → slice_get xs m ≡ Some x → g x ≡ Some y → slice_get (filter_map g xs) (count xs m) ≡ Some y
  made_at [] m x y e f = absurd cc
  made_at (z ∷ zs) zero x y e f = let same : z ≡ x = cc in ap (λ o. slice_get (cons_option o (filter_map g zs)) 0) (ap g same ∙ f)
  made_at (z ∷ zs) (suc m) x y e f = by_first (g z) (made_at zs m x y e f)
    where
      by_first : (o : Option B) → slice_get (filter_map g zs) (count zs m) ≡ Some y → slice_get (cons_option o (filter_map g zs)) (length (cons_option o (filter_map g (take m zs)))) ≡ Some y
      by_first None h = h
      by_first (Some w) h = h

  pub made_before : (xs : List A) (m n : ℕ) (x : A) (y : B) → slice_get xs m ≡ Some x → g x ≡ Some y → m < n → count xs m < count xs n
  made_before [] m n x y e f lt = absurd cc
  made_before (z ∷ zs) m zero x y e f lt = absurd (omega (arith, lt))
  made_before (z ∷ zs) zero (suc n) x y e f lt =
      let same : z ≡ x = cc in
      subst (λ o. 0 < length (cons_option o (filter_map g (take n zs)))) (sym (ap g same ∙ f)) (omega arith)
  made_before (z ∷ zs) (suc m) (suc n) x y e f lt = by_first (g z) (made_before zs m n x y e f (omega (arith, lt)))
    where
      by_first : (o : Option B) → count zs m < count zs n → length (cons_option o (filter_map g (take m zs))) < length (cons_option o (filter_map g (take n zs)))
      by_first None h = h
      by_first (Some w) h = omega (arith, h)

  pub count_all : (xs : List A) → count xs (length xs) ≡ length (filter_map g xs)
  count_all [] = refl
  count_all (x ∷ xs) = by_first (g x) (count_all xs)
    where
      by_first : (o : Option B) → count xs (length xs) ≡ length (filter_map g xs) → length (cons_option o (filter_map g (take (length xs) xs))) ≡ length (cons_option o (filter_map g xs))
      by_first None h = h
      by_first (Some w) h = ap suc h
