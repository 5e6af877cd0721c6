-- Sums of names up to a place, and in the order of places.
use Rattle.std.proofs.Common.{◌≡◌, inl, inr, ⊎_elim, refl, sym, ap, ◌∙◌, subst, Bool, true, false, not, cond, ◌&&◌, ◌||◌, ◌==◌, nat_eq, nat_lt, nat_le, ℕ, zero, suc, ◌+◌, ◌-◌, ◌<◌, ◌≤◌, List, [], ◌∷◌, ◌++◌, All, map, filter, take, drop, length, slice_index_or, sum_by, Option, arith}
use Rattle.std.specs.List.Sorted.{IsPermutation, IsSorted}
use Rattle.std.specs.Ordering.{is_lt, nat_cmp, ordering_then}
use Rattle.std.proofs.lemmas.Bool.{cases_lt, false_from_ne_true}
use Rattle.std.proofs.lemmas.Bool.Decides.{nat_tests}
use Rattle.std.proofs.lemmas.List.{map-append, take-append-drop, get_or-take, get_or-drop, get_or_read, get_or_default, length-take, length-drop}
use Rattle.std.proofs.lemmas.List.Elements.{All-head, All-tail, filter-append}
use Rattle.std.proofs.lemmas.List.Filters.{sum_by-filter_both}
use Rattle.std.proofs.lemmas.List.Sorted.{Contains-permutation, IsPermutation-sym, sum_by-IsPermutation}
use Rattle.std.proofs.lemmas.List.Sums.{sum_by-cons, sum_by-append, sum_by_more}
use Rattle.oi_base.specs.declared.ids.Place.{Place}
use Rattle.ir_core.specs.declared.func.Func.{Func}
use Rattle.ir_core.specs.declared.module.GlobalVar.{GlobalVar}
use Rattle.ir_core.specs.declared.module.Module.{Module}
use Rattle.ir_core.specs.Operands.{is_up_to}
use Rattle.ir_core.specs.FirstBroken.{IsFirstPlace}
use Rattle.ir_core.specs.ValidModule.{Introduced, introduced_globals, introduced_funcs, named}
use Rattle.ir_core.proofs.Lists.{Has, contains}
use Rattle.module_rules.specs.declared.totals.Name.{Name}
use Rattle.module_rules.specs.First.{IsFound}
use Rattle.module_rules.specs.TotalFaults.{HasNamesPast, sized, sized_names, bytes_up_to, AreNamesPast, AreInOrder}
use Rattle.module_rules.proofs.Decided.{false_is_not_true}
use Rattle.module_rules.proofs.Earliest.{up_to_itself, up_to_trans, found_same}
use Rattle.module_rules.proofs.Faulty.{has}

-- ---- sums over what passes a test

module _ {A : Type 0} (test : A → Bool) (f : A → ℕ) where
  all_pass : (xs : List A) → All (λ (x : A). test x ≡ true) xs → filter test xs ≡ xs
  all_pass [] all = refl
  all_pass (x ∷ xs) all = rw (All-head (λ (y : A). test y ≡ true) x xs all) (ap (λ ys. x ∷ ys) (all_pass xs (All-tail (λ (y : A). test y ≡ true) x xs all)))

  none_pass : (xs : List A) → All (λ (x : A). test x ≡ false) xs → filter test xs ≡ []
  none_pass [] all = refl
  none_pass (x ∷ xs) all = rw (All-head (λ (y : A). test y ≡ false) x xs all) (none_pass xs (All-tail (λ (y : A). test y ≡ false) x xs all))

  part_of : (xs : List A) → sum_by f (filter test xs) ≤ sum_by f xs
  part_of xs = omega (arith, sum_by-filter_both test (λ x. not (test x)) (λ _. refl) f xs)

  -- a list in two parts
  in_parts : (i : ℕ) (xs : List A) → sum_by f (filter test xs) ≡ sum_by f (filter test (take i xs)) + sum_by f (filter test (drop i xs))
  in_parts i xs =
      ap (λ ys. sum_by f (filter test ys)) (sym (take-append-drop i xs)) ∙ ap (sum_by f) (filter-append test (take i xs) (drop i xs))
      ∙ sum_by-append f (filter test (take i xs)) (filter test (drop i xs))

  -- what passes, as a sum over all
  weighed : (xs : List A) → sum_by f (filter test xs) ≡ sum_by (λ (x : A). cond (test x) (f x) 0) xs
  weighed [] = refl
  weighed (x ∷ xs) = by_test (test x) (weighed xs) ∙ sym (sum_by-cons (λ (y : A). cond (test y) (f y) 0) x xs)
    where
      by_test : (t : Bool) → sum_by f (filter test xs) ≡ sum_by (λ (y : A). cond (test y) (f y) 0) xs → sum_by f (cond t (x ∷ filter test xs) (filter test xs)) ≡ cond t (f x) 0 + sum_by (λ (y : A). cond (test y) (f y) 0) xs
      by_test true rest = sum_by-cons f x (filter test xs) ∙ ap (λ (n : ℕ). f x + n) rest
      by_test false rest = omega (arith, rest)

  reordered : (xs ys : List A) → IsPermutation xs ys → sum_by f (filter test ys) ≡ sum_by f (filter test xs)
  reordered xs ys p = weighed ys ∙ sum_by-IsPermutation (λ (x : A). cond (test x) (f x) 0) xs ys p ∙ sym (weighed xs)

-- ---- names in the order of their places

-- a place that is not less stands after
not_less : (l c b l' c' b' : ℕ) → is_lt (ordering_then (ordering_then (nat_cmp l' l) (nat_cmp c' c)) (nat_cmp b' b)) ≡ false → (nat_lt l l' || (nat_eq l l' && nat_le c c')) ≡ true
not_less l c b l' c' b' h = ⊎_elim
    (λ (lt : l' < l). let test : nat_lt l' l ≡ true = grind (arith, nat_tests) in absurd (let less : is_lt (ordering_then (ordering_then (nat_cmp l' l) (nat_cmp c' c)) (nat_cmp b' b)) ≡ true = rw test refl in false_is_not_true (sym h ∙ less)))
    (λ (le : l ≤ l'). ⊎_elim (λ (lt : l < l'). grind (arith, nat_tests)) (λ (ge : l' ≤ l). same_line ge le) (cases_lt l l'))
    (cases_lt l' l)
  where
    same_line : l' ≤ l → l ≤ l' → (nat_lt l l' || (nat_eq l l' && nat_le c c')) ≡ true
    same_line ge le = ⊎_elim
        (λ (lt : c' < c).
        let test : nat_lt c' c ≡ true = grind (arith, nat_tests) in
        let lines : nat_lt l' l ≡ false = grind (arith, nat_tests) in
        let same : (l' == l) ≡ true = grind (arith, nat_tests) in
        absurd (let less : is_lt (ordering_then (ordering_then (nat_cmp l' l) (nat_cmp c' c)) (nat_cmp b' b)) ≡ true = rw lines (rw same (rw test refl)) in false_is_not_true (sym h ∙ less)))
        (λ (c_le : c ≤ c'). grind (arith, nat_tests))
        (cases_lt c' c)

module _ (names : List Name) (sorted : IsSorted (λ (x y : Name). ordering_then (ordering_then (nat_cmp x.place.line y.place.line) (nat_cmp x.place.column y.place.column)) (nat_cmp x.bytes y.bytes)) names) where
  ascend : (n i : ℕ) (d : Name) → i + n < length names → is_up_to (slice_index_or names i d).place (slice_index_or names (i + n) d).place ≡ true
  ascend zero i d lt = let here : i ≡ i + 0 = omega arith in subst (λ (k : ℕ). is_up_to (slice_index_or names i d).place (slice_index_or names k d).place ≡ true) here (up_to_itself (slice_index_or names i d).place)
  ascend (suc n) i d lt =
      let next : i + n + 1 ≡ i + suc n = omega arith in
      up_to_trans (slice_index_or names i d).place (slice_index_or names (i + n) d).place (slice_index_or names (i + suc n) d).place (ascend n i d (omega (arith, lt)))
      (subst (λ (k : ℕ). is_up_to (slice_index_or names (i + n) d).place (slice_index_or names k d).place ≡ true) next
      (not_less (slice_index_or names (i + n) d).place.line (slice_index_or names (i + n) d).place.column (slice_index_or names (i + n) d).bytes (slice_index_or names (i + n + 1) d).place.line (slice_index_or names (i + n + 1) d).place.column (slice_index_or names (i + n + 1) d).bytes
      (sorted (i + n) d (omega arith) (omega (arith, lt)))))

  pub in_order : AreInOrder names
  in_order i j d le lt =
      let there : i + (j - i) ≡ j = omega (arith, le) in
      subst (λ (k : ℕ). is_up_to (slice_index_or names i d).place (slice_index_or names k d).place ≡ true) there (ascend (j - i) i d (omega (arith, lt, le)))

abbrev bytes : Name → ℕ
bytes n = n.bytes

module _ (names : List Name) (order : AreInOrder names) (i : ℕ) (x : Name) (within : i < length names) (is : x ≡ slice_index_or names i x) where
  in_front : All (λ (n : Name). is_up_to n.place x.place ≡ true) (take (i + 1) names)
  in_front k d lt =
      let long = length-take (i + 1) names in
      subst (λ (n : Name). is_up_to n.place x.place ≡ true) (sym (get_or-take (i + 1) names k d (omega (arith, lt, long))))
      (subst (λ (n : Name). is_up_to (slice_index_or names k d).place n.place ≡ true) (sym (get_or_read names i x within is d)) (order k i d (omega (arith, lt, long)) within))

  -- with the name at i the sum is at least that of the names up to i
  up_to_it : sum_by bytes (take (i + 1) names) ≤ bytes_up_to names x.place
  up_to_it =
      let parts = in_parts (λ (n : Name). is_up_to n.place x.place) bytes (i + 1) names in
      let front = ap (sum_by bytes) (all_pass (λ (n : Name). is_up_to n.place x.place) bytes (take (i + 1) names) in_front) in
      omega (arith, parts, front)

  after : (q : Place) → is_up_to x.place q ≡ false → All (λ (n : Name). is_up_to n.place q ≡ false) (drop i names)
  after q before k d lt =
      let long = length-drop i names in
      subst (λ (n : Name). is_up_to n.place q ≡ false) (sym (get_or-drop i names k d))
      (false_from_ne_true (is_up_to (slice_index_or names (i + k) d).place q)
      (λ h. false_is_not_true (sym before ∙ up_to_trans x.place (slice_index_or names (i + k) d).place q
      (subst (λ (n : Name). is_up_to n.place (slice_index_or names (i + k) d).place ≡ true) (sym (get_or_read names i x within is d)) (order i (i + k) d (omega arith) (omega (arith, lt, long, within)))) h)))

  -- before its place the sum is at most that of the names before i
  before_it : (q : Place) → is_up_to x.place q ≡ false → bytes_up_to names q ≤ sum_by bytes (take i names)
  before_it q before =
      let parts = in_parts (λ (n : Name). is_up_to n.place q) bytes i names in
      let back = ap (sum_by bytes) (none_pass (λ (n : Name). is_up_to n.place q) bytes (drop i names) (after q before)) in
      let front = part_of (λ (n : Name). is_up_to n.place q) bytes (take i names) in
      omega (arith, parts, back, front)

  -- the name with which the sum comes to be greater than the most
  pub first_past_it : (most : ℕ) → sum_by bytes (take i names) ≤ most → most < sum_by bytes (take (i + 1) names) → IsFirstPlace (AreNamesPast most names) x.place
  first_past_it most below above = record {
    broken = (x, (i, within, sym is), refl, (let up = up_to_it in omega (arith, up, above)));
    first = λ q b. by_test q b (is_up_to x.place q) refl;
  }
    where
      by_test : (q : Place) → AreNamesPast most names q → (t : Bool) → is_up_to x.place q ≡ t → is_up_to x.place q ≡ true
      by_test q b true t = t
      by_test q b false t = absurd (let few = before_it q t in let many = b.3 in omega (arith, few, many, below))

-- the same, where it is known how much is left before it
pub stops_at : (names : List Name) → AreInOrder names → (i : ℕ) (d : Name) → i < length names → (left most : ℕ) → left + sum_by bytes (take i names) ≡ most → left < (slice_index_or names i d).bytes → IsFirstPlace (AreNamesPast most names) (slice_index_or names i d).place
stops_at names order i d within left most sum more =
    let next = sum_by_more bytes names i d within in
    first_past_it names order i (slice_index_or names i d) within (get_or_default names i d (slice_index_or names i d) within) most (omega (arith, sum)) (omega (arith, sum, next, more))

-- names that are not too long as a whole
pub none_past : (most : ℕ) (names : List Name) → sum_by bytes names ≤ most → (p : Place) → AreNamesPast most names p → ⊥
none_past most names few p b =
    let part = part_of (λ (n : Name). is_up_to n.place p) bytes names in
    let many = b.3 in
    omega (arith, part, many, few)

-- ---- the names of a module

module _ {A B : Type 0} (h : A → B) where
  has_map : (xs : List A) (x : A) → Has xs x → Has (map h xs) (h x)
  has_map [] x g = absurd g
  has_map (y ∷ ys) x (inl e) = inl (ap h e)
  has_map (y ∷ ys) x (inr g) = inr (has_map ys x g)

  map_has : (xs : List A) (y : B) → Has (map h xs) y → (x : A) × Has xs x × (h x ≡ y)
  map_has [] y g = absurd g
  map_has (x ∷ xs) y (inl e) = (x, inl refl, e)
  map_has (x ∷ xs) y (inr g) = let r = map_has xs y g in (r.0, inr r.1, r.2)

  sum_mapped : (test : B → Bool) (f : B → ℕ) (xs : List A) → sum_by f (filter test (map h xs)) ≡ sum_by (λ (x : A). f (h x)) (filter (λ (x : A). test (h x)) xs)
  sum_mapped test f [] = refl
  sum_mapped test f (x ∷ xs) = by_test (test (h x)) (sum_mapped test f xs)
    where
      by_test : (t : Bool) → sum_by f (filter test (map h xs)) ≡ sum_by (λ (y : A). f (h y)) (filter (λ (y : A). test (h y)) xs) → sum_by f (cond t (h x ∷ filter test (map h xs)) (filter test (map h xs))) ≡ sum_by (λ (y : A). f (h y)) (cond t (x ∷ filter (λ (y : A). test (h y)) xs) (filter (λ (y : A). test (h y)) xs))
      by_test true rest = sum_by-cons f (h x) (filter test (map h xs)) ∙ ap (λ (n : ℕ). f (h x) + n) rest ∙ sym (sum_by-cons (λ (y : A). f (h y)) x (filter (λ (y : A). test (h y)) xs))
      by_test false rest = rest

-- the names of globals and definitions, as they are put into one list
pub names_listed : (m : Module) → sized_names m ≡ map (λ (g : GlobalVar). sized m (record { name = g.name; place = g.place })) m.globals ++ map (λ (f : Func). sized m (record { name = f.name; place = f.place })) m.funcs
names_listed m =
    map-append (sized m) (introduced_globals m) (introduced_funcs m)
    ∙ ap (λ (ns : List Name). ns ++ map (sized m) (introduced_funcs m)) (map_twice (sized m) (λ (g : GlobalVar). record { name = g.name; place = g.place }) m.globals)
    ∙ ap (λ (ns : List Name). map (λ (g : GlobalVar). sized m (record { name = g.name; place = g.place })) m.globals ++ ns) (map_twice (sized m) (λ (f : Func). record { name = f.name; place = f.place }) m.funcs)
  where
    map_twice : {A B C : Type 0} (f : B → C) (g : A → B) (xs : List A) → map f (map g xs) ≡ map (λ (x : A). f (g x)) xs
    map_twice f g [] = refl
    map_twice f g (x ∷ xs) = ap (λ ys. f (g x) ∷ ys) (map_twice f g xs)

-- the names of a module, in whatever order, are too long where its names are
module _ (most : ℕ) (m : Module) (names : List Name) (same : IsPermutation (sized_names m) names) where
  sums : (p : Place) → bytes_up_to names p ≡ sum_by (λ (a : Introduced). (sized m a).bytes) (filter (λ (a : Introduced). is_up_to a.place p) (named m))
  sums p = reordered (λ (n : Name). is_up_to n.place p) bytes (sized_names m) names same ∙ sum_mapped (sized m) (λ (n : Name). is_up_to n.place p) bytes (named m)

  to_module : (p : Place) → AreNamesPast most names p → HasNamesPast most m p
  to_module p (n, c, at, past) =
      let r = map_has (sized m) (named m) n (has (sized_names m) n (Contains-permutation names (sized_names m) n (IsPermutation-sym (sized_names m) names same) c)) in
      (r.0, contains (named m) r.0 r.1, ap (λ (k : Name). k.place) r.2 ∙ at, subst (λ (k : ℕ). most < k) (sums p) past)

  of_module : (p : Place) → HasNamesPast most m p → AreNamesPast most names p
  of_module p (a, c, at, past) =
      (sized m a, Contains-permutation (sized_names m) names (sized m a) same (contains (sized_names m) (sized m a) (has_map (sized m) (named m) a (has (named m) a c))), at, subst (λ (k : ℕ). most < k) (sym (sums p)) past)

  pub names_found : (o : Option Place) → IsFound (AreNamesPast most names) o → IsFound (HasNamesPast most m) o
  names_found o f = found_same (AreNamesPast most names) (HasNamesPast most m) o f to_module of_module
