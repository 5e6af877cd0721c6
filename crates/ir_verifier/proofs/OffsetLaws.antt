-- One more index of a constant `getelementptr`.
use Rattle.std.proofs.Common.{◌≡◌, inl, inr, refl, sym, ap, ◌∙◌, subst, ℕ, suc, ◌+◌, ◌%◌, ◌<◌, pos, List, ◌∷◌, map, length, ℤ, Some, None, arith}
use Rattle.std.proofs.lemmas.Option.{slice_get_within}
use Rattle.ir_core.specs.declared.ty.TypeDef.{TypeDef}
use Rattle.oi_base.specs.declared.words.Width.{Width}
use Rattle.oi_base.specs.declared.words.Width.TheVariants.{W32}
use Rattle.ir_core.specs.declared.ty.IrType.{IrType, Int}
use Rattle.ir_core.specs.declared.ty.IrType.TheVariants as types
use Rattle.ir_core.specs.declared.ty.IrType.TheOpen.{IrType-F}
use Rattle.ir_core.specs.declared.ty.IrType.TheViews.{out-IrType, outs-Array, outs-Struct}
use Rattle.ir_core.specs.declared.constant.TypedCount.{TypedCount}
use Rattle.ir_core.specs.Sizes.{IsLaid, fields}
use Rattle.ir_core.specs.ValidConsts.{Index, Walk, GoesInto, Fits, FitsType, IndicesFit, const_index, plain, distance_by, distance_into}
use Rattle.module_rules.specs.Walks.{next}
use Rattle.module_rules.proofs.InnerTypes.{IsSmall, into_laid, into_small}
use Rattle.module_rules.proofs.WalkLaws.{of_next, to_next}

-- the number of an `i32` that fits it
word_fits : (t : IrType) (n : ℤ) (k : ℕ) → t ≡ Int W32 → n ≡ pos k → FitsType t n → k < 4294967296
word_fits t n k word number f =
    let same : f.0 ≡ W32 = let both : Int f.0 ≡ Int W32 = sym f.1 ∙ word in cc in
    subst (λ (z : ℤ). Fits W32 z) number (subst (λ (w : Width). Fits w n) same f.2)

module _ (defs : List TypeDef) where
  -- what an index leads to from an array, and from a struct
  pub to_item : (t : IrType) (i : Index) (n : ℕ) (u : IrType) → plain defs t ≡ types.Array n u → GoesInto defs t i u
  to_item t i n u e = inl (n, ap out-IrType e ∙ outs-Array n u)

  pub field_within : (t : IrType) (i : TypedCount) (ts : List IrType) (u : IrType) → plain defs t ≡ types.Struct ts → GoesInto defs t (const_index i) u → FitsType i.ty i.count → (k : ℕ) × (i.count ≡ pos k) × (k < 4294967296) × (k < length (fields defs t))
  field_within t i ts u e (inl a) f = absurd (let clash : IrType-F.Struct ts ≡ IrType-F.Array a.0 u = sym (outs-Struct ts) ∙ ap out-IrType (sym e) ∙ a.1 in cc)
  field_within t i ts u e (inr k) f = let number : i.count ≡ pos k.0 = let both : Some i.count ≡ Some (pos k.0) = k.2 in cc in (k.0, number, word_fits i.ty i.count k.0 k.1 number f, slice_get_within (fields defs t) k.0 u k.3)

  -- what is known before an index
  pub record At (source at : IrType) (all rest : List TypedCount) (distance : ℕ) : Type 0 where
    pub laid : IsLaid defs at
    pub small : IsSmall defs at
    pub walk : Walk defs at (map const_index rest)
    pub fit : IndicesFit rest
    pub sum : (distance + distance_into defs at rest) % 4294967296 ≡ distance_into defs source all % 4294967296

  pub leads : (at : IrType) (i : TypedCount) (is rest : List TypedCount) → Walk defs at (map const_index rest) → rest ≡ i ∷ is → (u : IrType) × GoesInto defs at (const_index i) u
  leads at i is rest w e = let h = subst (λ (js : List TypedCount). Walk defs at (map const_index js)) e w in (h.1.0, h.1.1)

  pub first_fits : (i : TypedCount) (is rest : List TypedCount) → IndicesFit rest → rest ≡ i ∷ is → FitsType i.ty i.count
  first_fits i is rest f e = (subst IndicesFit e f) 0 i (omega arith)

  -- an index leads somewhere
  pub not_none : (at : IrType) (i : TypedCount) (is rest : List TypedCount) → Walk defs at (map const_index rest) → rest ≡ i ∷ is → next defs at (const_index i) ≡ None → ⊥
  not_none at i is rest w e n =
      let h = subst (λ (js : List TypedCount). Walk defs at (map const_index js)) e w in
      let clash : None ≡ Some h.1.0 = sym n ∙ to_next defs at (const_index i) h.1.0 h.0 h.1.1 in cc

  wrapped : (d by rest all m : ℕ) → m ≡ 4294967296 → (d + (by + rest)) % 4294967296 ≡ all → (((d + by) % 4294967296) + rest) % 4294967296 ≡ all
  wrapped d by rest all m e sum = omega arith

  pub one_on : (source at u : IrType) (i : TypedCount) (all is rest : List TypedCount) (d by e : ℕ) → At source at all rest d → rest ≡ i ∷ is → next defs at (const_index i) ≡ Some u
      → ((v : IrType) → GoesInto defs at (const_index i) v → (on : IrType → ℕ) → distance_by defs at i on (out-IrType (plain defs at)) ≡ by + on v)
      → e ≡ (d + by) % 4294967296 → At source u all is e
  one_on source at u i all is rest d by e a same n gives wraps =
      let g = of_next defs at (const_index i) u n in
      let h = subst (λ (js : List TypedCount). Walk defs at (map const_index js)) same a.walk in
      let both : Some u ≡ Some h.1.0 = sym n ∙ to_next defs at (const_index i) h.1.0 h.0 h.1.1 in
      let one : h.1.0 ≡ u = cc in
      let f = subst IndicesFit same a.fit in
      let sum : (d + (by + distance_into defs u is)) % 4294967296 ≡ distance_into defs source all % 4294967296 =
      ap (λ (n : ℕ). (d + n) % 4294967296) (sym (gives u g.1 (λ (v : IrType). distance_into defs v is))) ∙ ap (λ (js : List TypedCount). (d + distance_into defs at js) % 4294967296) (sym same) ∙ a.sum in
      record {
        laid = into_laid defs at (const_index i) u g.1 a.laid;
        small = into_small defs at (const_index i) u g.1 a.small;
        walk = subst (λ (v : IrType). Walk defs v (map const_index is)) one h.1.2;
        fit = λ k x lt. f (suc k) x (omega (arith, lt));
        sum = ap (λ (n : ℕ). (n + distance_into defs u is) % 4294967296) wraps ∙ wrapped d by (distance_into defs u is) (distance_into defs source all % 4294967296) 4294967296 refl sum;
      }
