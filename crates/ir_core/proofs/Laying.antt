-- Laying one name after the other gives right layouts, and where nothing more can be laid, all that there are.
use Rattle.std.proofs.Common.{◌≡◌, ◌⊎◌, inl, inr, ℕ, ◌+◌, ◌<◌, zero, suc, List, [], ◌∷◌, length, cond, Option, Some, None, slice_set, refl, sym, ap, ◌∙◌, arith}
use Rattle.std.specs.Prelude.{is_some}
use Rattle.std.specs.List.{position_from, slice_get}
use Rattle.std.specs.Option.{option_map, option_and_then}
use Rattle.std.proofs.lemmas.Bool.{cases_eq}
use Rattle.std.proofs.lemmas.Grind.{get_or-set_at}
use Rattle.std.proofs.lemmas.List.{get_or-set_other}
use Rattle.ir_core.specs.declared.layout.Layout.{Layout}
use Rattle.ir_core.specs.declared.layout.Name.{Name}
use Rattle.ir_core.specs.declared.layout.Name.TheVariants.{Undefined, Defined, Laid}
use Rattle.ir_core.specs.declared.ty.TypeName.{TypeName}
use Rattle.ir_core.specs.declared.ty.TypeDef.{TypeDef}
use Rattle.ir_core.specs.Capped.{capped}
use Rattle.ir_core.specs.Sizes.{layout_by, is_named, definition, name_layout}
use Rattle.ir_core.specs.Known.{name_at, position_in, layout_in, known, Knows, IsRight, so_far, IsStuck, unlaid, Describes}
use Rattle.ir_core.proofs.Names.{Within, within_type, within_then, settled}

module _ (table : List Name) (defs : List TypeDef) (right : IsRight table defs) where
  within_all : Within (so_far table defs) (name_layout (length defs) defs)
  within_all = record { same = λ x l e. by_known (known table x) x l e }
    where
      by_known : (o : Option Layout) (x : TypeName) (l : Layout) → cond (is_some o) (name_layout (length defs) defs x) None ≡ Some l → name_layout (length defs) defs x ≡ Some l
      by_known None x l e = cc
      by_known (Some k) x l e = e

  pub knows_so_far : Knows table (so_far table defs)
  knows_so_far x = by_known (known table x) refl
    where
      by_known : (o : Option Layout) → known table x ≡ o → o ≡ option_map capped (cond (is_some o) (name_layout (length defs) defs x) None)
      by_known None s = refl
      by_known (Some l) s = sym (right.layouts x l s)

  -- what the layouts in the table give a definition is its name's layout
  pub laid_right : (name : TypeName) (d : TypeDef) (l : Layout) → definition defs name ≡ Some d → Some l ≡ option_map capped (layout_by (so_far table defs) d.ty) → option_map capped (name_layout (length defs) defs name) ≡ Some l
  laid_right name d l is e = by_layout (layout_by (so_far table defs) d.ty) refl e
    where
      by_layout : (o : Option Layout) → layout_by (so_far table defs) d.ty ≡ o → Some l ≡ option_map capped o → option_map capped (name_layout (length defs) defs name) ≡ Some l
      by_layout None s f = cc
      by_layout (Some m) s f =
          let all = within_type (so_far table defs) (name_layout (length defs) defs) within_all d.ty m s in
          let next : name_layout (suc (length defs)) defs name ≡ Some m = ap (option_and_then (λ (b : TypeDef). layout_by (name_layout (length defs) defs) b.ty)) is ∙ all in
          let last = (settled defs (suc (length defs))).same name m next in
          ap (option_map capped) last ∙ sym f

  pub stuck_at : (name : TypeName) (d : TypeDef) → definition defs name ≡ Some d → None ≡ option_map capped (layout_by (so_far table defs) d.ty) → IsStuck table defs name
  stuck_at name d is e never = ap (option_and_then (λ (b : TypeDef). layout_by (so_far table defs) b.ty)) is ∙ by_layout (layout_by (so_far table defs) d.ty) e
    where
      by_layout : (o : Option Layout) → None ≡ option_map capped o → o ≡ None
      by_layout None f = refl
      by_layout (Some m) f = cc

  module _ (stuck : (x : TypeName) → IsStuck table defs x) where
    all_laid : (n : ℕ) → Within (name_layout n defs) (so_far table defs)
    all_laid zero = record { same = λ x l e. cc }
    all_laid (suc n) = record {
      same = λ x l e.
          by_known x l (known table x) refl
          (within_then (λ d. layout_by (name_layout n defs) d.ty) (λ d. layout_by (so_far table defs) d.ty) (definition defs x) l (λ d m. within_type (name_layout n defs) (so_far table defs) (all_laid n) d.ty m) e)
          ((settled defs (suc n)).same x l e);
    }
      where
        by_known : (x : TypeName) (l : Layout) (o : Option Layout) → known table x ≡ o → option_and_then (λ (d : TypeDef). layout_by (so_far table defs) d.ty) (definition defs x) ≡ Some l → name_layout (length defs) defs x ≡ Some l → cond (is_some o) (name_layout (length defs) defs x) None ≡ Some l
        by_known x l None s f all = let none = stuck x s in cc
        by_known x l (Some m) s f all = all

    pub describes : Describes table defs
    describes = record { positions = right.positions; layouts = λ x. by_known x (known table x) refl (name_layout (length defs) defs x) refl }
      where
        by_known : (x : TypeName) (o : Option Layout) → known table x ≡ o → (p : Option Layout) → name_layout (length defs) defs x ≡ p → known table x ≡ option_map capped p
        by_known x (Some l) s p t = s ∙ sym (right.layouts x l s) ∙ ap (option_map capped) t
        by_known x None s None t = s
        by_known x None s (Some l) t =
            let found : cond (is_some (known table x)) (name_layout (length defs) defs x) None ≡ Some l = (all_laid (length defs)).same x l t in
            let never : cond (is_some {T = Layout} None) (name_layout (length defs) defs x) None ≡ Some l = rw s at found in
            cc

unlaid-set : (table : List Name) (x at : ℕ) (l : Layout) → x < length table → name_at table x ≡ Defined at → unlaid (slice_set table x (Laid at l)) + 1 ≡ unlaid table
unlaid-set [] x at l h e = absurd (omega arith)
unlaid-set (n ∷ ns) zero at l h e = by_name n e
  where
    by_name : (m : Name) → m ≡ Defined at → unlaid ns + 1 ≡ unlaid (m ∷ ns)
    by_name Undefined f = cc
    by_name (Defined k) f = refl
    by_name (Laid k j) f = cc
unlaid-set (n ∷ ns) (suc x) at l h e = by_name n (unlaid-set ns x at l (omega arith) e)
  where
    by_name : (m : Name) → unlaid (slice_set ns x (Laid at l)) + 1 ≡ unlaid ns → unlaid (m ∷ slice_set ns x (Laid at l)) + 1 ≡ unlaid (m ∷ ns)
    by_name Undefined f = f
    by_name (Defined k) f = omega arith
    by_name (Laid k j) f = f

module _ (table : List Name) (defs : List TypeDef) (x at : ℕ) (h : x < length table) (here : name_at table x ≡ Defined at) where
  pub fewer : (l : Layout) → unlaid (slice_set table x (Laid at l)) < unlaid table
  fewer l = let e = unlaid-set table x at l h here in omega arith

  module _ (right : IsRight table defs) where
    at_definition : (name : TypeName) → name.0 ≡ x → definition defs name ≡ slice_get defs at
    at_definition name e =
        let same : position_from (is_named name.0) 0 defs ≡ Some at = ap (λ (k : ℕ). position_from (is_named k) 0 defs) e ∙ sym (right.positions x) ∙ ap position_in here in
        ap (option_and_then (λ (k : ℕ). slice_get defs k)) same

    -- a position beyond the definitions
    pub none_there : slice_get defs at ≡ None → (name : TypeName) → name.0 ≡ x → IsStuck table defs name
    none_there none name e _ = ap (option_and_then (λ (b : TypeDef). layout_by (so_far table defs) b.ty)) (at_definition name e ∙ none)

    pub no_layout_there : (d : TypeDef) → slice_get defs at ≡ Some d → None ≡ option_map capped (layout_by (so_far table defs) d.ty) → (name : TypeName) → name.0 ≡ x → IsStuck table defs name
    no_layout_there d there never name e = stuck_at table defs right name d (at_definition name e ∙ there) never

    pub laid_there : (d : TypeDef) (l : Layout) → slice_get defs at ≡ Some d → Some l ≡ option_map capped (layout_by (so_far table defs) d.ty) → IsRight (slice_set table x (Laid at l)) defs
    laid_there d l there e = record {
      positions = λ y. by_position y (cases_eq y x);
      layouts = λ name m f. by_layout name m (cases_eq name.0 x) f;
    }
      where
        by_position : (y : ℕ) → (y ≡ x) ⊎ (y ≡ x → ⊥) → position_in (name_at (slice_set table x (Laid at l)) y) ≡ position_from (is_named y) 0 defs
        by_position y (inl same) = ap position_in (get_or-set_at table x y (Laid at l) Undefined same h) ∙ sym (ap position_in here) ∙ right.positions x ∙ ap (λ (k : ℕ). position_from (is_named k) 0 defs) (sym same)
        by_position y (inr other) = ap position_in (get_or-set_other table x y (Laid at l) Undefined other) ∙ right.positions y

        by_layout : (name : TypeName) (m : Layout) → (name.0 ≡ x) ⊎ (name.0 ≡ x → ⊥) → layout_in (name_at (slice_set table x (Laid at l)) name.0) ≡ Some m → option_map capped (name_layout (length defs) defs name) ≡ Some m
        by_layout name m (inl same) f =
            let found : Some l ≡ Some m = sym (ap layout_in (get_or-set_at table x name.0 (Laid at l) Undefined same h)) ∙ f in
            laid_right table defs right name d l (at_definition name same ∙ there) e ∙ found
        by_layout name m (inr other) f = right.layouts name m (sym (ap layout_in (get_or-set_other table x name.0 (Laid at l) Undefined other)) ∙ f)
