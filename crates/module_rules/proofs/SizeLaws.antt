-- The test for types that are too large tells whether one is, where types have layouts.
use Rattle.std.proofs.Common.{◌≡◌, inl, inr, refl, sym, ap, ◌∙◌, subst, ⊎_elim, Bool, true, false, not, ◌||◌, if◌then◌else◌, ℕ, zero, suc, List, [], ◌∷◌, map, length, Option, Some, None, is_some, Contains, arith}
use Rattle.std.specs.Prelude.{IsSome}
use Rattle.std.specs.List.{flat_map, list_all}
use Rattle.std.specs.Bool.{Decides}
use Rattle.std.specs.Option.{option_map, option_and_then}
use Rattle.std.proofs.lemmas.Bool.Decides.{nat_tests}
use Rattle.std.proofs.lemmas.List.{length-map}
use Rattle.ir_core.specs.declared.layout.Layout.{Layout}
use Rattle.ir_core.specs.declared.ty.TypeName.{TypeName}
use Rattle.ir_core.specs.declared.ty.TypeDef.{TypeDef}
use Rattle.ir_core.specs.declared.ty.IrType.{IrType, Void, Int, Ptr, Array', Struct', Named, Row_of-IrType, end_of-IrType, more_of-IrType, items-the_row-IrType, items_shown-the_row-IrType-1, out-IrType}
use Rattle.ir_core.specs.declared.ty.IrType.TheOpen.{IrType-F}
use Rattle.ir_core.specs.declared.ty.IrType.TheVariants as types
use Rattle.ir_core.specs.declared.ty.IrType.TheVariants.{outs-Void, outs-Int, outs-Ptr, outs-Array, outs-Struct', outs-Named}
use Rattle.ir_core.specs.Parts.{listed, names_in_type, names_in_types}
use Rattle.ir_core.specs.Sizes.{array_of, empty, after, rounded, placed, layout_by, field_layouts, definition, name_layout, layout, IsLaid}
use Rattle.ir_core.specs.ValidTypes.{directly_in, LeadsInto, StandsIn, IsTooLarge}
use Rattle.ir_core.proofs.Layouts.{at_struct}
use Rattle.ir_core.proofs.Lists.{Has, has_left, has_right, contains}
use Rattle.ir_core.proofs.Names.{deeper, some_value}
use Rattle.module_rules.specs.TypeFaults.{is_laid_name}
use Rattle.module_rules.specs.SizeFaults.{is_above, has_above, have_above, small_type, small_def, small_defs, is_too_large}
use Rattle.module_rules.proofs.Decided.{false_is_not_true, some_fails, passes}
use Rattle.module_rules.proofs.Faulty.{has, has_in}
use Rattle.module_rules.proofs.SizeLevels.{above_itself}
use Rattle.module_rules.proofs.StructNames.{definition_by}
use Rattle.module_rules.proofs.TypeLevels.{struct_names}
use Rattle.module_rules.proofs.UseLaws.{both_false, both_true, one_true}

-- ---- names in a type that has a layout have layouts

unmapped : (k : Layout → Layout) (o : Option Layout) → IsSome (option_map k o) → IsSome o
unmapped k None e = e
unmapped k (Some l) e = refl

first_placed : (b : Layout) (o : Option Layout) (os : List (Option Layout)) → IsSome (placed b (o ∷ os)) → IsSome o × ((c : Layout) × IsSome (placed c os))
first_placed b None os e = cc
first_placed b (Some l) os e = (refl, (after b l, e))

mutual
  named : (f : TypeName → Option Layout) (t : IrType) → IsSome (layout_by f t) → (x : TypeName) → Has (names_in_type t) x → IsSome (f x)
  named f Void e x h = absurd h
  named f (Int w) e x h = absurd h
  named f Ptr e x h = absurd h
  named f (Array' n _ (more_of-IrType item end_of-IrType)) e x h = ⊎_elim (named f item (unmapped (array_of n) (layout_by f item) e) x) (λ g. absurd g) (has_in (names_in_type item) [] x h)
  named f (Struct' _ fields) e x h = named_in f fields empty (unmapped rounded (placed empty (field_layouts f fields)) e) x h
  named f (Named y) e x (inl same) = subst (λ (z : TypeName). IsSome (f z)) same e
  named f (Named y) e x (inr h) = absurd h

  named_in : (f : TypeName → Option Layout) {m : _} (row : Row_of-IrType m) (b : Layout) → IsSome (placed b (field_layouts f row)) → (x : TypeName) → Has (names_in_types row) x → IsSome (f x)
  named_in f end_of-IrType b e x h = absurd h
  named_in f (more_of-IrType t ts) b e x h =
      let p = first_placed b (layout_by f t) (field_layouts f ts) e in
      ⊎_elim (named f t p.0 x) (named_in f ts p.1.0 p.1.1 x) (has_in (names_in_type t) (names_in_types ts) x h)

-- a struct of names that have layouts
all_placed : (b : Layout) (f : TypeName → Option Layout) (ns : List TypeName) → list_all (λ (x : TypeName). is_some (f x)) ns ≡ true → IsSome (placed b (map (layout_by f) (map (λ (x : TypeName). Named x) ns)))
all_placed b f [] e = refl
all_placed b f (x ∷ xs) e =
    let both = both_true (is_some (f x)) (list_all (λ (y : TypeName). is_some (f y)) xs) e in
    by_layout (f x) both.0 (λ c. all_placed c f xs both.1)
  where
    by_layout : (o : Option Layout) → is_some o ≡ true → ((c : Layout) → IsSome (placed c (map (layout_by f) (map (λ (y : TypeName). Named y) xs)))) → IsSome (placed b (o ∷ map (layout_by f) (map (λ (y : TypeName). Named y) xs)))
    by_layout None some rest = absurd (false_is_not_true some)
    by_layout (Some l) some rest = rest (after b l)

names_struct_laid : (f : TypeName → Option Layout) (ns : List TypeName) → list_all (λ (x : TypeName). is_some (f x)) ns ≡ true → IsSome (layout_by f (types.Struct (map (λ (x : TypeName). Named x) ns)))
names_struct_laid f ns e = subst (λ (o : Option Layout). IsSome o) (sym (at_struct f (map (λ (x : TypeName). Named x) ns))) (mapped rounded (placed empty (map (layout_by f) (map (λ (x : TypeName). Named x) ns))) (all_placed empty f ns e))
  where
    mapped : (k : Layout → Layout) (o : Option Layout) → IsSome o → IsSome (option_map k o)
    mapped k None some = some
    mapped k (Some l) some = refl

named_struct_laid : (f : TypeName → Option Layout) (ns : List TypeName) → IsSome (layout_by f (types.Struct (map (λ (x : TypeName). Named x) ns))) → (x : TypeName) → Has ns x → IsSome (f x)
named_struct_laid f ns e x h =
    named f (types.Struct (map (λ (y : TypeName). Named y) ns)) e x
    (subst (λ (ys : List TypeName). Has ys x) (sym (struct_names (map (λ (y : TypeName). Named y) ns))) (listed_in ns h))
  where
    listed_in : (ys : List TypeName) → Has ys x → Has (flat_map names_in_type (map (λ (y : TypeName). Named y) ys)) x
    listed_in [] g = absurd g
    listed_in (y ∷ ys) (inl same) = inl same
    listed_in (y ∷ ys) (inr g) = inr (listed_in ys g)

-- ---- levels of types

abbrev level : List TypeDef → IrType-F IrType → List IrType
level defs IrType-F.Void = []
level defs (IrType-F.Int w) = []
level defs IrType-F.Ptr = []
level defs (IrType-F.Array n item) = item ∷ []
level defs (IrType-F.Struct fields) = fields
level defs (IrType-F.Named x) = map (λ (d : TypeDef). d.ty) (listed (definition defs x))

inside_is : (defs : List TypeDef) (t : IrType) (l : IrType-F IrType) → out-IrType t ≡ l → (v : IrType) → Has (directly_in defs t) v → Has (level defs l) v
inside_is defs t l e v h = subst (λ (k : IrType-F IrType). Has (level defs k) v) e h

is_inside : (defs : List TypeDef) (t : IrType) (l : IrType-F IrType) → out-IrType t ≡ l → (v : IrType) → Has (level defs l) v → Contains (directly_in defs t) v
is_inside defs t l e v h = contains (directly_in defs t) v (subst (λ (k : IrType-F IrType). Has (level defs k) v) (sym e) h)

array_out : (n : ℕ) (m : _) (item : IrType) → out-IrType (Array' n m (more_of-IrType item end_of-IrType)) ≡ IrType-F.Array n item
unfolding Rattle.ir_core.specs.declared.ty.IrType.TheBlock.hidden-the_row-IrType-0 denote.Hole.Carrier.hidden
array_out n m item = outs-Array n item

struct_out : (m : _) (fields : _) → out-IrType (Struct' m fields) ≡ IrType-F.Struct (items-the_row-IrType _ fields)
struct_out m fields = outs-Struct' m fields ∙ ap IrType-F.Struct (items_shown-the_row-IrType-1 m fields)

module _ (defs : List TypeDef) where
  -- what stands in a type that stands in another
  step_in : (t v : IrType) → Contains (directly_in defs t) v → IsTooLarge defs v → IsTooLarge defs t
  step_in t v c (u, inl same, large) = (u, inr ([], subst (λ (w : IrType). Contains (directly_in defs t) w) same c), large)
  step_in t v c (u, inr (between, l), large) = (u, inr (v ∷ between, (c, l)), large)

  itself : (t : IrType) → is_above defs t ≡ true → IsTooLarge defs t
  itself t e = (t, inl refl, grind (arith, nat_tests))

  or_nothing : (a : Bool) → (a || false) ≡ true → a ≡ true
  or_nothing true e = refl
  or_nothing false e = absurd (false_is_not_true e)

  -- where the test finds one, it is too large or stands in the type
  mutual
    above_in : (t : IrType) → has_above defs t ≡ true → IsTooLarge defs t
    above_in Void e = itself Void (or_nothing (is_above defs Void) e)
    above_in (Int w) e = itself (Int w) (or_nothing (is_above defs (Int w)) e)
    above_in Ptr e = itself Ptr (or_nothing (is_above defs Ptr) e)
    above_in (Named x) e = itself (Named x) (or_nothing (is_above defs (Named x)) e)
    above_in (Array' n m (more_of-IrType item end_of-IrType)) e =
        ⊎_elim (itself (Array' n m (more_of-IrType item end_of-IrType)))
        (λ b. step_in (Array' n m (more_of-IrType item end_of-IrType)) item (is_inside defs (Array' n m (more_of-IrType item end_of-IrType)) (IrType-F.Array n item) (array_out n m item) item (inl refl)) (above_in item (or_nothing (has_above defs item) b)))
        (one_true (is_above defs (Array' n m (more_of-IrType item end_of-IrType))) (have_above defs (more_of-IrType item end_of-IrType)) e)
    above_in (Struct' m fields) e =
        ⊎_elim (itself (Struct' m fields))
        (λ b. let r = above_in_row fields b in step_in (Struct' m fields) r.0 (is_inside defs (Struct' m fields) (IrType-F.Struct (items-the_row-IrType _ fields)) (struct_out m fields) r.0 r.1) r.2)
        (one_true (is_above defs (Struct' m fields)) (have_above defs fields) e)

    above_in_row : {m : _} (row : Row_of-IrType m) → have_above defs row ≡ true → (v : IrType) × Has (items-the_row-IrType m row) v × IsTooLarge defs v
    above_in_row end_of-IrType e = absurd (false_is_not_true e)
    above_in_row (more_of-IrType t ts) e =
        ⊎_elim (λ a. (t, inl refl, above_in t a)) (λ b. let r = above_in_row ts b in (r.0, inr r.1, r.2)) (one_true (has_above defs t) (have_above defs ts) e)

  -- a name in a type that stands for what is too large
  mutual
    through : (t : IrType) (x : TypeName) → Has (names_in_type t) x → IsTooLarge defs (Named x) → IsTooLarge defs t
    through Void x h large = absurd h
    through (Int w) x h large = absurd h
    through Ptr x h large = absurd h
    through (Named y) x (inl same) large = subst (λ (z : TypeName). IsTooLarge defs (Named z)) (sym same) large
    through (Named y) x (inr h) large = absurd h
    through (Array' n m (more_of-IrType item end_of-IrType)) x h large =
        step_in (Array' n m (more_of-IrType item end_of-IrType)) item (is_inside defs (Array' n m (more_of-IrType item end_of-IrType)) (IrType-F.Array n item) (array_out n m item) item (inl refl))
        (⊎_elim (λ g. through item x g large) (λ g. absurd g) (has_in (names_in_type item) [] x h))
    through (Struct' m fields) x h large =
        let r = through_row fields x h large in
        step_in (Struct' m fields) r.0 (is_inside defs (Struct' m fields) (IrType-F.Struct (items-the_row-IrType _ fields)) (struct_out m fields) r.0 r.1) r.2

    through_row : {m : _} (row : Row_of-IrType m) (x : TypeName) → Has (names_in_types row) x → IsTooLarge defs (Named x) → (v : IrType) × Has (items-the_row-IrType m row) v × IsTooLarge defs v
    through_row end_of-IrType x h large = absurd h
    through_row (more_of-IrType t ts) x h large =
        ⊎_elim (λ g. (t, inl refl, through t x g large)) (λ g. let r = through_row ts x g large in (r.0, inr r.1, r.2)) (has_in (names_in_type t) (names_in_types ts) x h)

  -- a name with a layout, but none by the small definitions
  name_large : (n : ℕ) (x : TypeName) → IsSome (name_layout n defs x) → is_some (name_layout n (small_defs defs) x) ≡ false → IsTooLarge defs (Named x)
  name_large zero x laid e = absurd (false_is_not_true laid)
  name_large (suc n) x laid e = by_definition (λ y l f. name_large n y l f) (definition defs x) refl laid
      (subst (λ (o : Option TypeDef). is_some (option_and_then (λ (d : TypeDef). layout_by (name_layout n (small_defs defs)) d.ty) o) ≡ false) (definition_by (small_type defs) defs x) e)
    where
      by_definition : ((y : TypeName) → IsSome (name_layout n defs y) → is_some (name_layout n (small_defs defs) y) ≡ false → IsTooLarge defs (Named y)) → (o : Option TypeDef) → definition defs x ≡ o
          → IsSome (option_and_then (λ (d : TypeDef). layout_by (name_layout n defs) d.ty) o) → is_some (option_and_then (λ (d : TypeDef). layout_by (name_layout n (small_defs defs)) d.ty) (option_map (small_def defs) o)) ≡ false → IsTooLarge defs (Named x)
      by_definition below None at l f = absurd (false_is_not_true l)
      by_definition below (Some d) at l f =
          step_in (Named x) d.ty
          (is_inside defs (Named x) (IrType-F.Named x) (outs-Named x) d.ty (subst (λ (o : Option TypeDef). Has (map (λ (b : TypeDef). b.ty) (listed o)) d.ty) (sym at) (inl refl)))
          (by_test (has_above defs d.ty) refl f)
        where
          by_names : (t : Bool) → list_all (λ (y : TypeName). is_some (name_layout n (small_defs defs) y)) (names_in_type d.ty) ≡ t → is_some (layout_by (name_layout n (small_defs defs)) (types.Struct (map (λ (y : TypeName). Named y) (names_in_type d.ty)))) ≡ false → IsTooLarge defs d.ty
          by_names true s g = absurd (false_is_not_true (sym g ∙ names_struct_laid (name_layout n (small_defs defs)) (names_in_type d.ty) s))
          by_names false s g =
              let y = some_fails (λ (z : TypeName). is_some (name_layout n (small_defs defs) z)) (names_in_type d.ty) s in
              through d.ty y.0 y.1 (below y.0 (named (name_layout n defs) d.ty l y.0 y.1) y.2)

          by_test : (t : Bool) → has_above defs d.ty ≡ t → is_some (layout_by (name_layout n (small_defs defs)) (if t then Void else types.Struct (map (λ (y : TypeName). Named y) (names_in_type d.ty)))) ≡ false → IsTooLarge defs d.ty
          by_test true s g = above_in d.ty s
          by_test false s g = by_names (list_all (λ (y : TypeName). is_some (name_layout n (small_defs defs) y)) (names_in_type d.ty)) refl g

  -- where the test finds one in a type with a layout, one is too large
  pub large_sound : (t : IrType) → IsLaid defs t → is_too_large defs (small_defs defs) t ≡ true → IsTooLarge defs t
  unfolding layout
  large_sound t laid e = ⊎_elim (above_in t) of_names (one_true (has_above defs t) (not (list_all (is_laid_name (small_defs defs)) (names_in_type t))) e)
    where
      of_names : not (list_all (is_laid_name (small_defs defs)) (names_in_type t)) ≡ true → IsTooLarge defs t
      of_names g = by_test (list_all (is_laid_name (small_defs defs)) (names_in_type t)) refl g
        where
          by_test : (b : Bool) → list_all (is_laid_name (small_defs defs)) (names_in_type t) ≡ b → not b ≡ true → IsTooLarge defs t
          by_test true s n = absurd (false_is_not_true n)
          by_test false s n =
              let y = some_fails (is_laid_name (small_defs defs)) (names_in_type t) s in
              through t y.0 y.1 (name_large (length defs) y.0 (named (name_layout (length defs) defs) t laid y.0 y.1)
              (subst (λ (k : ℕ). is_some (name_layout k (small_defs defs) y.0) ≡ false) (length-map defs (small_def defs)) y.2))

  -- ---- where the test finds none, none is too large

  abbrev Fine : IrType → Type 0
  Fine t = (has_above defs t ≡ false) × ((x : TypeName) → Has (names_in_type t) x → is_laid_name (small_defs defs) x ≡ true)

  laid_deeper : (n : ℕ) (y : TypeName) → IsSome (name_layout n (small_defs defs) y) → IsSome (name_layout (suc n) (small_defs defs) y)
  laid_deeper n y e = let v = some_value (name_layout n (small_defs defs) y) e in ap is_some ((deeper n (small_defs defs)).same y v.0 v.1)

  opened : (n : ℕ) (x : TypeName) (d : TypeDef) → definition defs x ≡ Some d → IsSome (name_layout n (small_defs defs) x) → (has_above defs d.ty ≡ false) × ((y : TypeName) → Has (names_in_type d.ty) y → IsSome (name_layout n (small_defs defs) y))
  opened zero x d at e = absurd (false_is_not_true e)
  opened (suc n) x d at e =
      by_test (has_above defs d.ty) refl
      (subst (λ (o : Option TypeDef). IsSome (option_and_then (λ (b : TypeDef). layout_by (name_layout n (small_defs defs)) b.ty) o)) (definition_by (small_type defs) defs x ∙ ap (option_map (small_def defs)) at) e)
    where
      by_test : (t : Bool) → has_above defs d.ty ≡ t → IsSome (layout_by (name_layout n (small_defs defs)) (if t then Void else types.Struct (map (λ (y : TypeName). Named y) (names_in_type d.ty))))
          → (has_above defs d.ty ≡ false) × ((y : TypeName) → Has (names_in_type d.ty) y → IsSome (name_layout (suc n) (small_defs defs) y))
      by_test true s l = absurd (false_is_not_true l)
      by_test false s l = (s, λ y h. laid_deeper n y (named_struct_laid (name_layout n (small_defs defs)) (names_in_type d.ty) l y h))

  fine_named : (x : TypeName) (d : TypeDef) → definition defs x ≡ Some d → is_laid_name (small_defs defs) x ≡ true → Fine d.ty
  unfolding layout
  fine_named x d at e = opened (length (small_defs defs)) x d at e

  fine_row : {m : _} (row : Row_of-IrType m) → have_above defs row ≡ false → ((x : TypeName) → Has (names_in_types row) x → is_laid_name (small_defs defs) x ≡ true) → (v : IrType) → Has (items-the_row-IrType m row) v → Fine v
  fine_row end_of-IrType e names v h = absurd h
  fine_row (more_of-IrType t ts) e names v (inl same) =
      let b = both_false (has_above defs t) (have_above defs ts) e in
      subst Fine same (b.0, λ x g. names x (has_left (names_in_type t) (names_in_types ts) x g))
  fine_row (more_of-IrType t ts) e names v (inr h) =
      let b = both_false (has_above defs t) (have_above defs ts) e in
      fine_row ts b.1 (λ x g. names x (has_right (names_in_type t) (names_in_types ts) x g)) v h

  fine_direct : (t v : IrType) → Fine t → Has (directly_in defs t) v → Fine v
  fine_direct Void v f h = absurd (inside_is defs Void IrType-F.Void outs-Void v h)
  fine_direct (Int w) v f h = absurd (inside_is defs (Int w) (IrType-F.Int w) (outs-Int w) v h)
  fine_direct Ptr v f h = absurd (inside_is defs Ptr IrType-F.Ptr outs-Ptr v h)
  fine_direct (Array' n m (more_of-IrType item end_of-IrType)) v f h =
      of_item (inside_is defs (Array' n m (more_of-IrType item end_of-IrType)) (IrType-F.Array n item) (array_out n m item) v h)
    where
      of_item : Has (item ∷ []) v → Fine v
      of_item (inr g) = absurd g
      of_item (inl same) =
          let a = both_false (is_above defs (Array' n m (more_of-IrType item end_of-IrType))) (have_above defs (more_of-IrType item end_of-IrType)) f.0 in
          let b = both_false (has_above defs item) false a.1 in
          subst Fine same (b.0, λ x g. f.1 x (has_left (names_in_type item) [] x g))
  fine_direct (Struct' m fields) v f h =
      fine_row fields (both_false (is_above defs (Struct' m fields)) (have_above defs fields) f.0).1 f.1 v
      (inside_is defs (Struct' m fields) (IrType-F.Struct (items-the_row-IrType _ fields)) (struct_out m fields) v h)
  fine_direct (Named x) v f h = by_definition (definition defs x) refl (inside_is defs (Named x) (IrType-F.Named x) (outs-Named x) v h)
    where
      by_definition : (o : Option TypeDef) → definition defs x ≡ o → Has (map (λ (b : TypeDef). b.ty) (listed o)) v → Fine v
      by_definition None at g = absurd g
      by_definition (Some d) at (inl same) = subst Fine same (fine_named x d at (f.1 x (inl refl)))
      by_definition (Some d) at (inr g) = absurd g

  fine_chain : (between : List IrType) (t u : IrType) → Fine t → LeadsInto defs t between u → Fine u
  fine_chain [] t u f l = fine_direct t u f (has (directly_in defs t) u l)
  fine_chain (v ∷ vs) t u f l = fine_chain vs v u (fine_direct t v f (has (directly_in defs t) v l.0)) l.1

  not_large : (t : IrType) → Fine t → IsTooLarge defs t → ⊥
  not_large t f (u, s, large) = false_is_not_true (sym (fine_of s).0 ∙ above_itself defs u (let lt = large in grind (arith, nat_tests)))
    where
      fine_of : StandsIn defs t u → Fine u
      fine_of (inl same) = subst Fine same f
      fine_of (inr (between, l)) = fine_chain between t u f l

  pub large_complete : (t : IrType) → IsTooLarge defs t → is_too_large defs (small_defs defs) t ≡ true
  large_complete t large = by_tests (has_above defs t) (list_all (is_laid_name (small_defs defs)) (names_in_type t)) refl refl
    where
      by_tests : (a b : Bool) → has_above defs t ≡ a → list_all (is_laid_name (small_defs defs)) (names_in_type t) ≡ b → (a || not b) ≡ true
      by_tests true b e g = refl
      by_tests false false e g = refl
      by_tests false true e g = absurd (not_large t (e, λ x h. passes (is_laid_name (small_defs defs)) (names_in_type t) x g h) large)

  pub large_decides : (t : IrType) → IsLaid defs t → Decides (is_too_large defs (small_defs defs) t) (IsTooLarge defs t)
  large_decides t laid = (large_sound t laid, large_complete t)
