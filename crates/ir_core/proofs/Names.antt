-- Layouts of type names: more layouts of names give no less, and deeper definitions are none beyond the number of definitions.
use Rattle.std.proofs.Common.{◌≡◌, ◌⊎◌, inl, inr, ℕ, ◌+◌, ◌<◌, ◌≤◌, zero, suc, Bool, true, false, List, [], ◌∷◌, length, cond, Option, Some, None, refl, sym, ap, ◌∙◌, arith}
use Rattle.std.specs.List.{position_from, slice_get}
use Rattle.ir_core.proofs.Counts.{count, count_same, count_all}
use Rattle.std.proofs.lemmas.Bool.{cases_lt}
use Rattle.std.proofs.lemmas.Bool.Decides.{nat_tests}
use Rattle.std.specs.Prelude.{is_some}
use Rattle.std.specs.Option.{option_map, option_and_then}
use Rattle.ir_core.specs.declared.layout.Layout.{Layout}
use Rattle.ir_core.specs.declared.ty.TypeName.{TypeName}
use Rattle.ir_core.specs.declared.ty.TypeDef.{TypeDef}
use Rattle.ir_core.specs.declared.ty.IrType.{IrType, Void, Int, Ptr, Array', Struct', Named, Row_of-IrType, end_of-IrType, more_of-IrType}
use Rattle.ir_core.specs.Sizes.{array_of, empty, after, rounded, placed, layout_by, field_layouts, is_named, definition, name_layout}

-- each layout that f gives is the one that g gives
pub record Within (f g : TypeName → Option Layout) : Type 0 where
  pub same : (x : TypeName) (l : Layout) → f x ≡ Some l → g x ≡ Some l

within_map : (k : Layout → Layout) (o p : Option Layout) (l : Layout) → ((m : Layout) → o ≡ Some m → p ≡ Some m) → option_map k o ≡ Some l → option_map k p ≡ Some l
within_map k None p l h e = cc
within_map k (Some m) p l h e = ap (option_map k) (h m refl) ∙ e

within_placed : (b : Layout) (o p : Option Layout) (os ps : List (Option Layout)) (l : Layout) → ((m : Layout) → o ≡ Some m → p ≡ Some m) → ((c m : Layout) → placed c os ≡ Some m → placed c ps ≡ Some m) → placed b (o ∷ os) ≡ Some l → placed b (p ∷ ps) ≡ Some l
within_placed b None p os ps l h k e = cc
within_placed b (Some m) p os ps l h k e = ap (λ (q : Option Layout). placed b (q ∷ ps)) (h m refl) ∙ k (after b m) l e

mutual
  pub within_type : (f g : TypeName → Option Layout) → Within f g → (t : IrType) (l : Layout) → layout_by f t ≡ Some l → layout_by g t ≡ Some l
  within_type f g w Void l e = e
  within_type f g w (Int b) l e = e
  within_type f g w Ptr l e = e
  within_type f g w (Array' n _ (more_of-IrType item end_of-IrType)) l e = within_map (array_of n) (layout_by f item) (layout_by g item) l (within_type f g w item) e
  within_type f g w (Struct' _ fields) l e = within_map rounded (placed empty (field_layouts f fields)) (placed empty (field_layouts g fields)) l (within_fields f g w fields empty) e
  within_type f g w (Named x) l e = w.same x l e

  pub within_fields : (f g : TypeName → Option Layout) → Within f g → {m : _} (fields : Row_of-IrType m) (b l : Layout) → placed b (field_layouts f fields) ≡ Some l → placed b (field_layouts g fields) ≡ Some l
  within_fields f g w end_of-IrType b l e = e
  within_fields f g w (more_of-IrType t ts) b l e = within_placed b (layout_by f t) (layout_by g t) (field_layouts f ts) (field_layouts g ts) l (within_type f g w t) (within_fields f g w ts) e

pub within_then : (h k : TypeDef → Option Layout) (o : Option TypeDef) (l : Layout) → ((d : TypeDef) (m : Layout) → h d ≡ Some m → k d ≡ Some m) → option_and_then h o ≡ Some l → option_and_then k o ≡ Some l
within_then h k None l w e = cc
within_then h k (Some d) l w e = w d l e

pub deeper : (n : ℕ) (defs : List TypeDef) → Within (name_layout n defs) (name_layout (suc n) defs)
deeper zero defs = record { same = λ x l e. cc }
deeper (suc n) defs = record { same = λ x l e. within_then (λ d. layout_by (name_layout n defs) d.ty) (λ d. layout_by (name_layout (suc n) defs) d.ty) (definition defs x) l (λ d m. within_type (name_layout n defs) (name_layout (suc n) defs) (deeper n defs) d.ty m) e }

pub named_at : (x i k : ℕ) (defs : List TypeDef) → position_from (is_named x) i defs ≡ Some k → (j : ℕ) × (d : TypeDef) × (k ≡ i + j) × (slice_get defs j ≡ Some d) × (is_named x d ≡ true)
named_at x i k [] e = cc
named_at x i k (d ∷ ds) e = by_test (named_at x (i + 1) k ds) (is_named x d) refl e
  where
    by_test : (position_from (is_named x) (i + 1) ds ≡ Some k → (j : ℕ) × (d' : TypeDef) × (k ≡ i + 1 + j) × (slice_get ds j ≡ Some d') × (is_named x d' ≡ true)) → (b : Bool) → is_named x d ≡ b → cond b (Some i) (position_from (is_named x) (i + 1) ds) ≡ Some k → (j : ℕ) × (d' : TypeDef) × (k ≡ i + j) × (slice_get (d ∷ ds) j ≡ Some d') × (is_named x d' ≡ true)
    by_test later true s f = let same : i ≡ k = cc in (0, d, omega arith, refl, s)
    by_test later false s f = let r = later f in let at = r.2 in (suc r.0, r.1, omega arith, r.3, r.4)

pub defined : (defs : List TypeDef) (x : TypeName) (d : TypeDef) → definition defs x ≡ Some d → (j : ℕ) × (slice_get defs j ≡ Some d) × (d.name ≡ x)
defined defs x d e = by_position (position_from (is_named x.0) 0 defs) refl e
  where
    by_position : (o : Option ℕ) → position_from (is_named x.0) 0 defs ≡ o → option_and_then (λ (at : ℕ). slice_get defs at) o ≡ Some d → (j : ℕ) × (slice_get defs j ≡ Some d) × (d.name ≡ x)
    by_position None s f = cc
    by_position (Some k) s f =
        let r = named_at x.0 0 k defs s in
        let there : k ≡ r.0 = omega arith in
        let at : slice_get defs k ≡ Some r.1 = ap (slice_get defs) there ∙ r.3 in
        let same : d ≡ r.1 = cc in
        let name : r.1.name.0 ≡ x.0 = let t = r.4 in grind (arith, nat_tests) in
        (k, f, λ i. record { 0 = (ap (λ (z : TypeDef). z.name.0) same ∙ name) i })

pub some_value : (o : Option Layout) → is_some o ≡ true → (l : Layout) × (o ≡ Some l)
some_value None e = cc
some_value (Some l) e = (l, refl)

module _ (defs : List TypeDef) where
  -- the definitions whose names have layouts n deep
  abbrev laid : ℕ → TypeDef → Bool
  laid n d = is_some (name_layout n defs d.name)

  -- at n deep there are all layouts that there are
  record Stable (n : ℕ) : Type 0 where
    pub no_more : Within (name_layout (suc n) defs) (name_layout n defs)

  stable_up : (n : ℕ) → Stable n → Stable (suc n)
  stable_up n s = record { no_more = record { same = λ x l e. within_then (λ d. layout_by (name_layout (suc n) defs) d.ty) (λ d. layout_by (name_layout n defs) d.ty) (definition defs x) l (λ d m. within_type (name_layout (suc n) defs) (name_layout n defs) s.no_more d.ty m) e } }

  stable_of : (n : ℕ) → ((i : ℕ) (d : TypeDef) → slice_get defs i ≡ Some d → laid (suc n) d ≡ true → laid n d ≡ true) → Stable n
  stable_of n h = record { no_more = record { same = λ x l e. by_definition x l (definition defs x) refl e } }
    where
      by_definition : (x : TypeName) (l : Layout) (o : Option TypeDef) → definition defs x ≡ o → option_and_then (λ (d : TypeDef). layout_by (name_layout n defs) d.ty) (definition defs x) ≡ Some l → name_layout n defs x ≡ Some l
      by_definition x l None s e = let never : option_and_then (λ (d : TypeDef). layout_by (name_layout n defs) d.ty) None ≡ Some l = rw s at e in cc
      by_definition x l (Some d) s e =
          let r = defined defs x d s in
          let has : name_layout (suc n) defs d.name ≡ Some l = ap (name_layout (suc n) defs) r.2 ∙ e in
          let before = some_value (name_layout n defs d.name) (h r.0 d r.1 (ap is_some has)) in
          let same : name_layout n defs x ≡ Some before.0 = ap (name_layout n defs) (sym r.2) ∙ before.1 in
          let again : Some before.0 ≡ Some l = sym ((deeper n defs).same x before.0 same) ∙ e in
          same ∙ again

  laid_deeper : (n : ℕ) (d : TypeDef) → laid n d ≡ true → laid (suc n) d ≡ true
  laid_deeper n d e = let v = some_value (name_layout n defs d.name) e in ap is_some ((deeper n defs).same d.name v.0 v.1)

  reach : (n : ℕ) → (n ≤ count (laid n) defs) ⊎ Stable n
  reach zero = inl (omega arith)
  reach (suc n) = by_case (reach n)
    where
      by_case : (n ≤ count (laid n) defs) ⊎ Stable n → (suc n ≤ count (laid (suc n)) defs) ⊎ Stable (suc n)
      by_case (inr s) = inr (stable_up n s)
      by_case (inl le) = by_count (cases_lt (count (laid n) defs) (count (laid (suc n)) defs))
        where
          by_count : (count (laid n) defs < count (laid (suc n)) defs) ⊎ (count (laid (suc n)) defs ≤ count (laid n) defs) → (suc n ≤ count (laid (suc n)) defs) ⊎ Stable (suc n)
          by_count (inl lt) = inl (omega arith)
          by_count (inr ge) = inr (stable_up n (stable_of n (λ i d. count_same (laid n) (laid (suc n)) (laid_deeper n) defs i d ge)))

  stable_end : (length defs ≤ count (laid (length defs)) defs) ⊎ Stable (length defs) → Stable (length defs)
  stable_end (inr s) = s
  stable_end (inl all) = stable_of (length defs) (λ i d at e. count_same (laid (length defs)) (λ _. true) (λ _ _. refl) defs i d (let n : count (λ _. true) defs ≡ length defs = count_all defs in omega arith) at refl)

  -- layouts at any depth are those at the depth of the number of definitions
  pub settled : (m : ℕ) → Within (name_layout m defs) (name_layout (length defs) defs)
  settled zero = record { same = λ x l e. cc }
  settled (suc m) = record { same = λ x l e. (stable_end (reach (length defs))).no_more.same x l (within_then (λ d. layout_by (name_layout m defs) d.ty) (λ d. layout_by (name_layout (length defs) defs) d.ty) (definition defs x) l (λ d k. within_type (name_layout m defs) (name_layout (length defs) defs) (settled m) d.ty k) e) }
