-- Where the rule of type names is broken nowhere, the types that stand in a module have layouts, but for `void` as a result.
use Rattle.std.proofs.Common.{◌≡◌, inl, inr, refl, sym, ap, ◌∙◌, subst, Bool, true, false, nat_eq, ℕ, zero, suc, length, List, [], ◌∷◌, ◌++◌, map, Option, Some, None, Contains}
use Rattle.std.specs.Prelude.{IsTrue}
use Rattle.std.specs.List.{flat_map, list_any}
use Rattle.std.specs.Option.{option_map_or}
use Rattle.oi_base.specs.declared.ids.Place.{Place}
use Rattle.ir_core.specs.declared.ty.TypeName.{TypeName}
use Rattle.ir_core.specs.declared.ty.TypeDef.{TypeDef}
use Rattle.ir_core.specs.declared.ty.IrType.{Named}
use Rattle.ir_core.specs.declared.module.Module.{Module}
use Rattle.ir_core.specs.Acyclic.{HasNoVoid, HoldsItself, IsAcyclic}
use Rattle.ir_core.specs.Parts.{names_in_type}
use Rattle.ir_core.specs.Sizes.{definition, resolved, IsLaid}
use Rattle.ir_core.specs.ValidTypes.{TypeUse, value_use, type_uses, func_uses, StandsForStruct, BreaksTypeNames}
use Rattle.ir_core.proofs.AcyclicLemmas.{acyclic_laid}
use Rattle.ir_core.proofs.Lists.{Has, has_left, has_at, contains}
use Rattle.ir_core.proofs.Names.{defined}
use Rattle.module_rules.specs.TypeFaults.{has_void, emptied_defs, is_laid_name, def_use, global_uses}
use Rattle.module_rules.proofs.Decided.{false_is_not_true}
use Rattle.module_rules.proofs.StructNames.{IsStruct, struct_decides, name_no_struct}
use Rattle.module_rules.proofs.UseLaws.{no_void, some_void, used_numbers, used_sound, used_complete}

-- a name without a definition stands for itself
undefined_itself : (n : ℕ) (defs : List TypeDef) (x : TypeName) → definition defs x ≡ None → resolved n defs (Named x) ≡ Named x
undefined_itself zero defs x e = refl
undefined_itself (suc n) defs x e = ap (λ (o : Option TypeDef). option_map_or (λ (d : TypeDef). resolved n defs d.ty) o (Named x)) e

module _ (m : Module) (unbroken : (p : Place) → BreaksTypeNames m p → ⊥) where
  abbrev among : TypeName → Bool
  among x = list_any (nat_eq x.0) (used_numbers m)

  use_no_void : (u : TypeUse) → Contains (type_uses m) u → u.is_result ≡ false → HasNoVoid u.ty
  use_no_void u c value = by_test (has_void u.ty) refl
    where
      by_test : (t : Bool) → has_void u.ty ≡ t → HasNoVoid u.ty
      by_test false e = no_void u.ty e
      by_test true e = absurd (unbroken u.place (inl (u, c, refl, (some_void u.ty e, λ r. false_is_not_true (sym value ∙ r.0)))))

  def_is_use : (d : TypeDef) → Has m.types.defs d → Contains (type_uses m) (value_use d.place d.ty)
  def_is_use d h =
      contains (type_uses m) (value_use d.place d.ty)
      (has_left (defs ++ globals) funcs (value_use d.place d.ty) (has_left defs globals (value_use d.place d.ty) (mapped m.types.defs h)))
    where
      defs : List TypeUse
      defs = map def_use m.types.defs

      globals : List TypeUse
      globals = flat_map global_uses m.globals

      funcs : List TypeUse
      funcs = flat_map func_uses m.funcs

      mapped : (ds : List TypeDef) → Has ds d → Has (map def_use ds) (value_use d.place d.ty)
      mapped [] g = absurd g
      mapped (e ∷ es) (inl same) = inl (ap def_use same)
      mapped (e ∷ es) (inr g) = inr (mapped es g)

  named_used : (u : TypeUse) → Contains (type_uses m) u → (x : TypeName) → Contains (names_in_type u.ty) x → IsTrue (among x)
  named_used u c x h = used_complete m x (u, c, h)

  stands : (x : TypeName) → IsTrue (among x) → StandsForStruct m.types.defs x
  stands x is = by_test (is_laid_name (emptied_defs m.types.defs) x) refl
    where
      by_test : (t : Bool) → is_laid_name (emptied_defs m.types.defs) x ≡ t → StandsForStruct m.types.defs x
      by_test true e = (struct_decides m.types.defs x).0 e
      by_test false e =
          let u = used_sound m x is in
          absurd (unbroken u.0.place (inr (inl (u.0, u.1, refl, (x, u.2, λ s. false_is_not_true (sym e ∙ (struct_decides m.types.defs x).1 s))))))

  has_definition : (x : TypeName) → StandsForStruct m.types.defs x → (d : TypeDef) × (definition m.types.defs x ≡ Some d)
  has_definition x s = by_definition (definition m.types.defs x) refl
    where
      by_definition : (o : Option TypeDef) → definition m.types.defs x ≡ o → (d : TypeDef) × (definition m.types.defs x ≡ Some d)
      by_definition (Some d) e = (d, e)
      by_definition None e = absurd (name_no_struct x (subst IsStruct (undefined_itself (length m.types.defs) m.types.defs x e) s))

  acyclic : IsAcyclic m.types.defs among
  acyclic = record { defined = is_defined; no_cycle = no_cycle }
    where
      is_defined : (x : TypeName) → IsTrue (among x) → (d : TypeDef) × (definition m.types.defs x ≡ Some d) × HasNoVoid d.ty × ((y : TypeName) → Contains (names_in_type d.ty) y → IsTrue (among y))
      is_defined x is =
          let d = has_definition x (stands x is) in
          let at = defined m.types.defs x d.0 d.1 in
          let u = def_is_use d.0 (has_at m.types.defs at.0 d.0 at.1) in
          (d.0, d.1, use_no_void (value_use d.0.place d.0.ty) u refl, λ y c. named_used (value_use d.0.place d.0.ty) u y c)

      no_cycle : (x : TypeName) → IsTrue (among x) → HoldsItself m.types.defs x → ⊥
      no_cycle x is h =
          let d = has_definition x (stands x is) in
          let at = defined m.types.defs x d.0 d.1 in
          unbroken d.0.place (inr (inr (inr (d.0, contains m.types.defs d.0 (has_at m.types.defs at.0 d.0 at.1), refl, subst (HoldsItself m.types.defs) (sym at.2) h))))

  -- a type of a value that stands in the module
  pub use_laid : (u : TypeUse) → Contains (type_uses m) u → u.is_result ≡ false → IsLaid m.types.defs u.ty
  use_laid u c value = acyclic_laid m.types.defs among acyclic u.ty (use_no_void u c value) (λ x h. named_used u c x h)
