-- The types of a module's values have layouts where the rule of type names is broken nowhere, and names stand for structs.
use Rattle.std.proofs.Common.{◌≡◌, inl, inr, ℕ, zero, suc, length, List, ◌∷◌, ◌++◌, map, Option, Some, None, Contains, IsTrue, Bool, refl, sym, ap, ◌∙◌, subst}
use Rattle.std.specs.Prelude.{is_some}
use Rattle.std.specs.List.{flat_map}
use Rattle.std.specs.Option.{option_map_or}
use Rattle.oi_base.specs.declared.ids.Place.{Place}
use Rattle.ir_core.specs.declared.ty.TypeName.{TypeName}
use Rattle.ir_core.specs.declared.ty.TypeDef.{TypeDef}
use Rattle.ir_core.specs.declared.ty.IrType.{IrType, Void, Int, Ptr, Array', Struct', Named, Row_of-IrType, end_of-IrType, more_of-IrType, out-IrType}
use Rattle.ir_core.specs.declared.ty.IrType.TheOpen.{IrType-F}
use Rattle.ir_core.specs.declared.ty.IrType.TheVariants.{outs-Named}
use Rattle.ir_core.specs.declared.module.GlobalVar.{GlobalVar}
use Rattle.ir_core.specs.declared.module.Module.{Module}
use Rattle.ir_core.specs.Acyclic.{HasNoVoid, HaveNoVoid, HoldsItself, IsAcyclic}
use Rattle.ir_core.specs.Parts.{const_types, names_in_type}
use Rattle.ir_core.specs.Sizes.{definition, resolved, IsLaid}
use Rattle.ir_core.specs.ValidTypes.{value_use, value_uses, type_uses, func_uses, StandsForStruct, BreaksTypeNames}
use Rattle.ir_core.proofs.AcyclicLemmas.{acyclic_laid}
use Rattle.ir_core.proofs.Lists.{Has, contains, has_at, has_left, has_mapped}
use Rattle.ir_core.proofs.Names.{defined}
use Rattle.ir_safety.proofs.Safe.{NotFalse, in_turn}
use Rattle.module_rules.proofs.Decided.{false_is_not_true}

-- that no `void` stands in a type is decided
mutual
  without_void : (t : IrType) → NotFalse (HasNoVoid t) → HasNoVoid t
  without_void Void h = absurd (h (λ v. v))
  without_void (Int w) h = tt
  without_void Ptr h = tt
  without_void (Named x) h = tt
  without_void (Array' n _ items) h = all_without items h
  without_void (Struct' _ fields) h = all_without fields h

  all_without : {n : _} (ts : Row_of-IrType n) → NotFalse (HaveNoVoid ts) → HaveNoVoid ts
  all_without end_of-IrType h = tt
  all_without (more_of-IrType t ts) h = (without_void t (in_turn h (λ p. p.0)), all_without ts (in_turn h (λ p. p.1)))

-- a name without a definition stands for itself, so for no struct
itself : (n : ℕ) (defs : List TypeDef) (x : TypeName) → definition defs x ≡ None → resolved n defs (Named x) ≡ Named x
itself zero defs x e = refl
itself (suc n) defs x e = ap (λ (o : Option TypeDef). option_map_or (λ (d : TypeDef). resolved n defs d.ty) o (Named x)) e

no_struct : (defs : List TypeDef) (x : TypeName) → definition defs x ≡ None → StandsForStruct defs x → ⊥
no_struct defs x e s = let clash : IrType-F.Named x ≡ IrType-F.Struct s.0 = sym (outs-Named x) ∙ sym (ap out-IrType (itself (length defs) defs x e)) ∙ s.1 in cc

module _ (m : Module) (unbroken : (p : Place) → BreaksTypeNames m p → ⊥) where
  abbrev defs : List TypeDef
  defs = m.types.defs

  -- a type stands in the module as that of a value
  abbrev pub IsUse : Place → IrType → Type 0
  IsUse p t = Has (type_uses m) (value_use p t)

  pub struct_named : (p : Place) (t : IrType) → IsUse p t → (x : TypeName) → Contains (names_in_type t) x → NotFalse (StandsForStruct defs x)
  struct_named p t h x c n = unbroken p (inr (inl (value_use p t, contains (type_uses m) (value_use p t) h, refl, (x, c, n))))

  abbrev among : TypeName → Bool
  among x = is_some (definition defs x)

  use_void : (p : Place) (t : IrType) → IsUse p t → HasNoVoid t
  use_void p t h = without_void t (λ no. unbroken p (inl (value_use p t, contains (type_uses m) (value_use p t) h, refl, (no, λ r. false_is_not_true r.0))))

  use_names : (p : Place) (t : IrType) → IsUse p t → (x : TypeName) → Contains (names_in_type t) x → IsTrue (among x)
  use_names p t h x c = by (definition defs x) refl
    where
      by : (o : Option TypeDef) → definition defs x ≡ o → IsTrue (is_some o)
      by (Some d) e = refl
      by None e = absurd (struct_named p t h x c (no_struct defs x e))

  of_definition : (d : TypeDef) → Has defs d → IsUse d.place d.ty
  of_definition d h =
      let own = map (λ (e : TypeDef). value_use e.place e.ty) defs in
      let globals = flat_map (λ (g : GlobalVar). value_uses g.place (g.ty ∷ const_types g.init)) m.globals in
      has_left (own ++ globals) (flat_map func_uses m.funcs) (value_use d.place d.ty)
      (has_left own globals (value_use d.place d.ty) (has_mapped (λ (e : TypeDef). value_use e.place e.ty) defs d h))

  found : (x : TypeName) → IsTrue (among x) → (d : TypeDef) × (definition defs x ≡ Some d)
  found x h = by (definition defs x) refl h
    where
      by : (o : Option TypeDef) → definition defs x ≡ o → IsTrue (is_some o) → (d : TypeDef) × (definition defs x ≡ Some d)
      by None e s = absurd cc
      by (Some d) e s = (d, e)

  acyclic : IsAcyclic defs among
  acyclic = record {
    defined = λ x h.
        let d = found x h in
        let at = defined defs x d.0 d.1 in
        let stands = of_definition d.0 (has_at defs at.0 d.0 at.1) in
        (d.0, d.1, use_void d.0.place d.0.ty stands, use_names d.0.place d.0.ty stands);
    no_cycle = λ x h holds.
        let d = found x h in
        let at = defined defs x d.0 d.1 in
        unbroken d.0.place (inr (inr (inr (d.0, contains defs d.0 (has_at defs at.0 d.0 at.1), refl, subst (HoldsItself defs) (sym at.2) holds))));
  }

  pub use_laid : (p : Place) (t : IrType) → IsUse p t → IsLaid defs t
  use_laid p t h = acyclic_laid defs among acyclic t (use_void p t h) (use_names p t h)
