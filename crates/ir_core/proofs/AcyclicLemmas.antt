-- Types of an acyclic set of names have layouts, and what has a layout leads to no cycle.
use Rattle.std.proofs.Common.{◌≡◌, ◌⊎◌, inl, inr, ℕ, ◌<◌, ◌≤◌, zero, suc, Bool, true, false, not, cond, List, [], ◌∷◌, ◌++◌, length, Option, Some, None, refl, sym, ap, ◌∙◌, subst, ⊎_elim, slice_index_or, arith}
use Rattle.std.specs.Prelude.{IsSome, IsTrue, Contains, ◌==◌}
use Rattle.std.specs.List.{slice_get}
use Rattle.std.specs.Option.{option_map, option_and_then}
use Rattle.std.proofs.lemmas.Bool.{cases_lt}
use Rattle.std.proofs.lemmas.Bool.Decides.{nat_tests}
use Rattle.std.proofs.lemmas.List.Elements.{Contains-append_left, Contains-append_right, Contains-append_cases}
use Rattle.ir_core.specs.declared.layout.Layout.{Layout}
use Rattle.ir_core.specs.declared.ty.TypeName.{TypeName}
use Rattle.ir_core.specs.declared.ty.TypeDef.{TypeDef}
use Rattle.ir_core.specs.declared.ty.IrType.{IrType, Void, Int, Ptr, Array', Struct', Named, Row_of-IrType, end_of-IrType, more_of-IrType}
use Rattle.ir_core.specs.Sizes.{array_of, empty, after, rounded, placed, layout_by, field_layouts, definition, name_layout, layout, IsLaid}
use Rattle.ir_core.specs.Parts.{names_in_type, names_in_types}
use Rattle.ir_core.specs.Acyclic.{HasNoVoid, HaveNoVoid, Holds, Leads, HoldsItself, IsAcyclic}
use Rattle.ir_core.proofs.Counts.{count, count_same, count_wider, count_all}
use Rattle.ir_core.proofs.Names.{defined, some_value}
use Rattle.ir_core.proofs.Fields.{named_layout}

mapped : (k : Layout → Layout) (o : Option Layout) → IsSome o → IsSome (option_map k o)
mapped k None e = cc
mapped k (Some l) e = refl

placed_some : (b : Layout) (o : Option Layout) (os : List (Option Layout)) → IsSome o → ((c : Layout) → IsSome (placed c os)) → IsSome (placed b (o ∷ os))
placed_some b None os e h = cc
placed_some b (Some l) os e h = h (after b l)

-- where each name in a type has a layout, so has the type
mutual
  type_laid : (f : TypeName → Option Layout) (t : IrType) → HasNoVoid t → ((x : TypeName) → Contains (names_in_type t) x → IsSome (f x)) → IsSome (layout_by f t)
  type_laid f Void v h = absurd v
  type_laid f (Int w) v h = refl
  type_laid f Ptr v h = refl
  type_laid f (Array' n _ (more_of-IrType item end_of-IrType)) v h = mapped (array_of n) (layout_by f item) (type_laid f item v.0 (λ x c. h x (Contains-append_left (names_in_type item) [] x c)))
  type_laid f (Struct' _ fields) v h = mapped rounded (placed empty (field_layouts f fields)) (fields_laid f fields empty v h)
  type_laid f (Named x) v h = h x (0, omega arith, refl)

  fields_laid : (f : TypeName → Option Layout) {m : _} (fields : Row_of-IrType m) (b : Layout) → HaveNoVoid fields → ((x : TypeName) → Contains (names_in_types fields) x → IsSome (f x)) → IsSome (placed b (field_layouts f fields))
  fields_laid f end_of-IrType b v h = refl
  fields_laid f (more_of-IrType t ts) b v h = placed_some b (layout_by f t) (field_layouts f ts)
      (type_laid f t v.0 (λ x c. h x (Contains-append_left (names_in_type t) (names_in_types ts) x c)))
      (λ c. fields_laid f ts c v.1 (λ x d. h x (Contains-append_right (names_in_type t) (names_in_types ts) x d)))

abbrev is_among : List TypeName → TypeName → Bool
is_among [] x = false
is_among (y ∷ ys) x = cond (y.0 == x.0) true (is_among ys x)

abbrev is_open : List TypeName → TypeDef → Bool
is_open path d = not (is_among path d.name)

same_name : (x y : TypeName) → (x.0 == y.0) ≡ true → x ≡ y
same_name x y e = let number : x.0 ≡ y.0 = grind (arith, nat_tests) in λ i. record { 0 = number i }

same_test : (x y : TypeName) → x ≡ y → (x.0 == y.0) ≡ true
same_test x y e = let number : x.0 ≡ y.0 = ap TypeName.0 e in grind (arith, nat_tests)

leads_on : (defs : List TypeDef) (z x y : TypeName) (between : List TypeName) → Leads defs z between x → Holds defs x y → Leads defs z (between ++ x ∷ []) y
leads_on defs z x y [] l h = (l, h)
leads_on defs z x y (w ∷ ws) l h = (l.0, leads_on defs w x y ws l.1 h)

module _ (defs : List TypeDef) (among : TypeName → Bool) (acyclic : IsAcyclic defs among) where
  not_on_path : (path : List TypeName) (x : TypeName) → ((z : TypeName) → is_among path z ≡ true → (between : List TypeName) × Leads defs z between x) → IsTrue (among x) → (b : Bool) → is_among path x ≡ b → b ≡ false
  not_on_path path x leads is true s = absurd (acyclic.no_cycle x is (leads x s))
  not_on_path path x leads is false s = refl

  later : (path : List TypeName) (x y z : TypeName) → ((z : TypeName) → is_among path z ≡ true → (between : List TypeName) × Leads defs z between x) → Holds defs x y → (b : Bool) → (x.0 == z.0) ≡ b → cond b true (is_among path z) ≡ true → (between : List TypeName) × Leads defs z between y
  later path x y z leads h true s e = ([], subst (λ (w : TypeName). Holds defs w y) (same_name x z s) h)
  later path x y z leads h false s e = let l = leads z e in (l.0 ++ x ∷ [], leads_on defs z x y l.0 l.1 h)

  opened : (path : List TypeName) (x : TypeName) (d : TypeDef) → d.name ≡ x → is_among path x ≡ false → is_open path d ≡ true
  opened path x d e s = ap (λ (w : TypeName). not (is_among path w)) e ∙ ap not s

  closed : (path : List TypeName) (x : TypeName) (d : TypeDef) → d.name ≡ x → is_open (x ∷ path) d ≡ false
  closed path x d e = ap (λ (b : Bool). not (cond b true (is_among path d.name))) (same_test x d.name (sym e))

  wider_path : (path : List TypeName) (x : TypeName) (d : TypeDef) → is_open (x ∷ path) d ≡ true → is_open path d ≡ true
  wider_path path x d e = by_test (x.0 == d.name.0) e
    where
      by_test : (b : Bool) → not (cond b true (is_among path d.name)) ≡ true → not (is_among path d.name) ≡ true
      by_test true f = cc
      by_test false f = f

  -- along a path of different names, as many levels suffice as there are definitions beside it
  laid_along : (n : ℕ) (path : List TypeName) (x : TypeName) → count (is_open path) defs ≤ n → ((z : TypeName) → is_among path z ≡ true → (between : List TypeName) × Leads defs z between x) → IsTrue (among x) → IsSome (name_layout n defs x)
  laid_along zero path x le leads is =
      let d = acyclic.defined x is in
      let r = defined defs x d.0 d.1 in
      let o = opened path x d.0 r.2 (not_on_path path x leads is (is_among path x) refl) in
      let never : false ≡ true = count_same (λ _. false) (is_open path) (λ _ e. cc) defs r.0 d.0 (omega arith) r.1 o in
      cc
  laid_along (suc n) path x le leads is =
      let d = acyclic.defined x is in
      let r = defined defs x d.0 d.1 in
      let o = opened path x d.0 r.2 (not_on_path path x leads is (is_among path x) refl) in
      let fewer = smaller d.0 r.0 r.1 r.2 o (cases_lt (count (is_open (x ∷ path)) defs) (count (is_open path) defs)) in
      let all = type_laid (name_layout n defs) d.0.ty d.2 (λ y c. laid_along n (x ∷ path) y fewer (λ z e. later path x y z leads (d.0, d.1, c) (x.0 == z.0) refl e) (d.3 y c)) in
      subst (λ (p : Option TypeDef). IsSome (option_and_then (λ (b : TypeDef). layout_by (name_layout n defs) b.ty) p)) (sym d.1) all
    where
      smaller : (d : TypeDef) (j : ℕ) → slice_get defs j ≡ Some d → d.name ≡ x → is_open path d ≡ true → (count (is_open (x ∷ path)) defs < count (is_open path) defs) ⊎ (count (is_open path) defs ≤ count (is_open (x ∷ path)) defs) → count (is_open (x ∷ path)) defs ≤ n
      smaller d j at e o (inl lt) = omega arith
      smaller d j at e o (inr ge) =
          let still = count_same (is_open (x ∷ path)) (is_open path) (wider_path path x) defs j d ge at o in
          let never : false ≡ true = sym (closed path x d e) ∙ still in
          cc

  pub acyclic_laid : (t : IrType) → HasNoVoid t → ((x : TypeName) → Contains (names_in_type t) x → IsTrue (among x)) → IsLaid defs t
  unfolding layout
  acyclic_laid t v h =
      let some : count (is_open []) defs ≤ length defs = let a = count_wider (is_open []) (λ _. true) (λ _ _. refl) defs in let b = count_all defs in omega arith in
      type_laid (name_layout (length defs) defs) t v (λ x c. laid_along (length defs) [] x some (λ z e. cc) (h x c))

unmapped : (k : Layout → Layout) (o : Option Layout) → IsSome (option_map k o) → IsSome o
unmapped k None e = e
unmapped k (Some l) e = refl

none_in : {P : Type 0} → (x : TypeName) → Contains [] x → P
none_in x c = let lt = c.1 in absurd (omega arith)

in_one : (x y : TypeName) → Contains (x ∷ []) y → x ≡ y
in_one x y c = by_place c.0 c.1 c.2
  where
    by_place : (k : ℕ) → k < 1 → slice_index_or (x ∷ []) k y ≡ y → x ≡ y
    by_place zero lt e = e
    by_place (suc k) lt e = absurd (omega arith)

first_placed : (b : Layout) (o : Option Layout) (os : List (Option Layout)) → IsSome (placed b (o ∷ os)) → IsSome o × ((c : Layout) × IsSome (placed c os))
first_placed b None os e = cc
first_placed b (Some l) os e = (refl, (after b l, e))

-- where a type has a layout, no `void` stands in it, and each name in it has one
mutual
  names_laid : (f : TypeName → Option Layout) (t : IrType) → IsSome (layout_by f t) → HasNoVoid t × ((x : TypeName) → Contains (names_in_type t) x → IsSome (f x))
  names_laid f Void e = cc
  names_laid f (Int w) e = (tt, λ x c. none_in x c)
  names_laid f Ptr e = (tt, λ x c. none_in x c)
  names_laid f (Array' n _ (more_of-IrType item end_of-IrType)) e =
      let r = names_laid f item (unmapped (array_of n) (layout_by f item) e) in
      ((r.0, tt), λ x c. ⊎_elim (r.1 x) (λ d. none_in x d) (Contains-append_cases (names_in_type item) [] x c))
  names_laid f (Struct' _ fields) e = all_names_laid f fields empty (unmapped rounded (placed empty (field_layouts f fields)) e)
  names_laid f (Named x) e = (tt, λ y c. subst (λ (z : TypeName). IsSome (f z)) (in_one x y c) e)

  all_names_laid : (f : TypeName → Option Layout) {m : _} (fields : Row_of-IrType m) (b : Layout) → IsSome (placed b (field_layouts f fields)) → HaveNoVoid fields × ((x : TypeName) → Contains (names_in_types fields) x → IsSome (f x))
  all_names_laid f end_of-IrType b e = (tt, λ x c. none_in x c)
  all_names_laid f (more_of-IrType t ts) b e =
      let p = first_placed b (layout_by f t) (field_layouts f ts) e in
      let r = names_laid f t p.0 in
      let s = all_names_laid f ts p.1.0 p.1.1 in
      ((r.0, s.0), λ x c. ⊎_elim (r.1 x) (s.1 x) (Contains-append_cases (names_in_type t) (names_in_types ts) x c))

module _ (defs : List TypeDef) where
  opens : (n : ℕ) (x : TypeName) → IsSome (name_layout (suc n) defs x) → (d : TypeDef) × (definition defs x ≡ Some d) × IsSome (layout_by (name_layout n defs) d.ty)
  opens n x e = by_definition (definition defs x) refl e
    where
      by_definition : (o : Option TypeDef) → definition defs x ≡ o → IsSome (option_and_then (λ (b : TypeDef). layout_by (name_layout n defs) b.ty) o) → (d : TypeDef) × (definition defs x ≡ Some d) × IsSome (layout_by (name_layout n defs) d.ty)
      by_definition None s f = cc
      by_definition (Some d) s f = (d, s, f)

  goes_down : (n : ℕ) (x y : TypeName) → IsSome (name_layout n defs x) → Holds defs x y → (m : ℕ) × (m < n) × IsSome (name_layout m defs y)
  goes_down zero x y e h = cc
  goes_down (suc n) x y e h =
      let o = opens n x e in
      let same : Some o.0 ≡ Some h.0 = sym o.1 ∙ h.1 in
      let is : o.0 ≡ h.0 = cc in
      (n, omega arith, (names_laid (name_layout n defs) o.0.ty o.2).1 y (subst (λ (d : TypeDef). Contains (names_in_type d.ty) y) (sym is) h.2))

  leads_down : (n : ℕ) (x : TypeName) (between : List TypeName) (z : TypeName) → IsSome (name_layout n defs x) → Leads defs x between z → (m : ℕ) × (m < n) × IsSome (name_layout m defs z)
  leads_down n x [] z e l = goes_down n x z e l
  leads_down n x (y ∷ ys) z e l =
      let d = goes_down n x y e l.0 in
      let r = leads_down d.0 y ys z d.2 l.1 in
      let lt = d.1 in
      let less = r.1 in
      (r.0, omega arith, r.2)

  no_cycle_below : (bound n : ℕ) (x : TypeName) → n < bound → IsSome (name_layout n defs x) → HoldsItself defs x → ⊥
  no_cycle_below zero n x lt e c = absurd (omega arith)
  no_cycle_below (suc bound) n x lt e c =
      let d = leads_down n x c.0 x e c.1 in
      let less = d.1 in
      no_cycle_below bound d.0 x (omega arith) d.2 c

  pub laid_no_void : (t : IrType) → IsLaid defs t → HasNoVoid t
  unfolding layout
  laid_no_void t e = (names_laid (name_layout (length defs) defs) t e).0

  pub laid_no_cycle : (t : IrType) → IsLaid defs t → (x : TypeName) → Contains (names_in_type t) x → HoldsItself defs x → ⊥
  unfolding layout
  laid_no_cycle t e x c = no_cycle_below (suc (length defs)) (length defs) x (omega arith) ((names_laid (name_layout (length defs) defs) t e).1 x c)

  has_definition : (n : ℕ) (x : TypeName) → IsSome (name_layout n defs x) → (d : TypeDef) × (definition defs x ≡ Some d)
  has_definition zero x e = cc
  has_definition (suc n) x e = let o = opens n x e in (o.0, o.1)

  pub laid_defined : (t : IrType) → IsLaid defs t → (x : TypeName) → Contains (names_in_type t) x → (d : TypeDef) × (definition defs x ≡ Some d) × IsLaid defs d.ty
  unfolding layout
  laid_defined t e x c =
      let some = (names_laid (name_layout (length defs) defs) t e).1 x c in
      let v = some_value (name_layout (length defs) defs x) some in
      let d = has_definition (length defs) x some in
      let laid = named_layout defs x d.0 v.0 d.1 v.1 in
      (d.0, d.1, subst (λ (o : Option Layout). IsSome o) (sym laid) refl)
