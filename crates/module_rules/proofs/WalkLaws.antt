-- Tests of the indices of a `getelementptr`.
use Rattle.std.proofs.Common.{◌≡◌, ◌⊎◌, inl, inr, refl, sym, ap, ◌∙◌, subst, Bool, true, false, ◌&&◌, if◌then◌else◌, ℕ, ℤ, pos, negsuc, List, [], ◌∷◌, Option, Some, None, slice_get}
use Rattle.std.specs.Bool.{Decides}
use Rattle.oi_base.specs.declared.words.Width.TheVariants.{W1, W8, W16, W32}
use Rattle.ir_core.specs.declared.ty.TypeDef.{TypeDef}
use Rattle.ir_core.specs.declared.ty.IrType.{IrType, Void, Int, Ptr, Array', Struct', Named, out-IrType}
use Rattle.ir_core.specs.declared.ty.IrType.TheOpen.{IrType-F}
use Rattle.ir_core.specs.Sizes.{types_in}
use Rattle.ir_core.specs.ValidConsts.{IsInteger, Index, GoesInto, Walk, WalkFrom, plain}
use Rattle.ir_core.specs.Types.{is_integer, is_word}
use Rattle.module_rules.specs.Walks.{field_at, inner, next, walks_from, walks_into, walks}
use Rattle.module_rules.proofs.Decided.{always, never, false_is_not_true}

pub integer_decides : (t : IrType) → Decides (is_integer t) (IsInteger t)
integer_decides (Int w) = (λ e. (w, refl), λ h. refl)
integer_decides Void = never (λ h. let clash : Void ≡ Int h.0 = h.1 in cc)
integer_decides Ptr = never (λ h. let clash : Ptr ≡ Int h.0 = h.1 in cc)
integer_decides (Array' k m ts) = never (λ h. let clash : Array' k m ts ≡ Int h.0 = h.1 in cc)
integer_decides (Struct' m ts) = never (λ h. let clash : Struct' m ts ≡ Int h.0 = h.1 in cc)
integer_decides (Named x) = never (λ h. let clash : Named x ≡ Int h.0 = h.1 in cc)

pub word_decides : (t : IrType) → Decides (is_word t) (t ≡ Int W32)
word_decides (Int W32) = (λ e. refl, λ h. refl)
word_decides (Int W1) = never (λ h. cc)
word_decides (Int W8) = never (λ h. cc)
word_decides (Int W16) = never (λ h. cc)
word_decides Void = never (λ h. cc)
word_decides Ptr = never (λ h. cc)
word_decides (Array' k m ts) = never (λ h. cc)
word_decides (Struct' m ts) = never (λ h. cc)
word_decides (Named x) = never (λ h. cc)

-- the second test is made where the first is met
pub and_then : {P Q : Type 0} (s t : Bool) → Decides s P → (P → Decides t Q) → Decides (s && t) (P × Q)
and_then false t d g = never (λ h. false_is_not_true (d.1 h.0))
and_then true t d g = let p = d.0 refl in (λ e. (p, (g p).0 e), λ h. (g p).1 h.1)

-- an index leads from one level of a type to a type
abbrev Into : IrType-F IrType → Index → IrType → Type 0
Into l i u = ((n : ℕ) × (l ≡ IrType-F.Array n u)) ⊎ ((k : ℕ) × (i.ty ≡ Int W32) × (i.number ≡ Some (pos k)) × (slice_get (types_in l) k ≡ Some u))

of_field : (types : List IrType) (n : Option ℤ) (u : IrType) → field_at types n ≡ Some u → (k : ℕ) × (n ≡ Some (pos k)) × (slice_get types k ≡ Some u)
of_field types None u e = absurd (let clash : None ≡ Some u = e in cc)
of_field types (Some (pos k)) u e = (k, refl, e)
of_field types (Some (negsuc k)) u e = absurd (let clash : None ≡ Some u = e in cc)

of_inner : (i : Index) (l : IrType-F IrType) (u : IrType) → inner i l ≡ Some u → Into l i u
of_inner i IrType-F.Void u e = absurd (let clash : None ≡ Some u = e in cc)
of_inner i (IrType-F.Int w) u e = absurd (let clash : None ≡ Some u = e in cc)
of_inner i IrType-F.Ptr u e = absurd (let clash : None ≡ Some u = e in cc)
of_inner i (IrType-F.Array n item) u e = inl (n, let same : Some item ≡ Some u = e in let one : item ≡ u = cc in ap (IrType-F.Array n) one)
of_inner i (IrType-F.Struct types) u e = by_kind (is_word i.ty) refl e
  where
    by_kind : (t : Bool) → is_word i.ty ≡ t → (if t then field_at types i.number else None) ≡ Some u → Into (IrType-F.Struct types) i u
    by_kind true t g = let r = of_field types i.number u g in inr (r.0, (word_decides i.ty).0 t, r.1, r.2)
    by_kind false t g = absurd (let clash : None ≡ Some u = g in cc)
of_inner i (IrType-F.Named x) u e = absurd (let clash : None ≡ Some u = e in cc)

pub none_at : (k : ℕ) (u : IrType) → slice_get [] k ≡ Some u → ⊥
none_at k u e = let clash : None ≡ Some u = e in cc

to_inner : (i : Index) (l : IrType-F IrType) (u : IrType) → Into l i u → inner i l ≡ Some u
to_inner i IrType-F.Void u (inl a) = absurd (let clash : IrType-F.Void ≡ IrType-F.Array a.0 u = a.1 in cc)
to_inner i IrType-F.Void u (inr k) = absurd (none_at k.0 u k.3)
to_inner i (IrType-F.Int w) u (inl a) = absurd (let clash : IrType-F.Int w ≡ IrType-F.Array a.0 u = a.1 in cc)
to_inner i (IrType-F.Int w) u (inr k) = absurd (none_at k.0 u k.3)
to_inner i IrType-F.Ptr u (inl a) = absurd (let clash : IrType-F.Ptr ≡ IrType-F.Array a.0 u = a.1 in cc)
to_inner i IrType-F.Ptr u (inr k) = absurd (none_at k.0 u k.3)
to_inner i (IrType-F.Array n item) u (inl a) = let e : IrType-F.Array n item ≡ IrType-F.Array a.0 u = a.1 in let same : item ≡ u = cc in ap Some same
to_inner i (IrType-F.Array n item) u (inr k) = absurd (none_at k.0 u k.3)
to_inner i (IrType-F.Struct types) u (inl a) = absurd (let clash : IrType-F.Struct types ≡ IrType-F.Array a.0 u = a.1 in cc)
to_inner i (IrType-F.Struct types) u (inr k) =
    ap (λ (t : Bool). if t then field_at types i.number else None) ((word_decides i.ty).1 k.1)
    ∙ ap (field_at types) k.2 ∙ k.3
to_inner i (IrType-F.Named x) u (inl a) = absurd (let clash : IrType-F.Named x ≡ IrType-F.Array a.0 u = a.1 in cc)
to_inner i (IrType-F.Named x) u (inr k) = absurd (none_at k.0 u k.3)

module _ (defs : List TypeDef) where
  pub of_next : (t : IrType) (i : Index) (u : IrType) → next defs t i ≡ Some u → IsInteger i.ty × GoesInto defs t i u
  of_next t i u e = by_test (is_integer i.ty) refl e
    where
      by_test : (b : Bool) → is_integer i.ty ≡ b → (if b then inner i (out-IrType (plain defs t)) else None) ≡ Some u → IsInteger i.ty × GoesInto defs t i u
      by_test true b g = ((integer_decides i.ty).0 b, of_inner i (out-IrType (plain defs t)) u g)
      by_test false b g = absurd (let clash : None ≡ Some u = g in cc)

  pub to_next : (t : IrType) (i : Index) (u : IrType) → IsInteger i.ty → GoesInto defs t i u → next defs t i ≡ Some u
  to_next t i u n g =
      ap (λ (b : Bool). if b then inner i (out-IrType (plain defs t)) else None) ((integer_decides i.ty).1 n) ∙ to_inner i (out-IrType (plain defs t)) u g

  into_decides : (is : List Index) (t : IrType) → Decides (walks_into defs t is) (Walk defs t is)
  into_decides [] t = always
  into_decides (i ∷ is) t = by_next (next defs t i) refl (λ u. into_decides is u)
    where
      by_next : (o : Option IrType) → next defs t i ≡ o → ((u : IrType) → Decides (walks_into defs u is) (Walk defs u is)) → Decides (walks_from o (λ u. walks_into defs u is)) (Walk defs t (i ∷ is))
      by_next None e rest = never (λ h. let clash : None ≡ Some h.1.0 = sym e ∙ to_next t i h.1.0 h.0 h.1.1 in cc)
      by_next (Some v) e rest = (λ w. let g = of_next t i v e in (g.0, (v, g.1, (rest v).0 w)), to_test)
        where
          to_test : Walk defs t (i ∷ is) → walks_into defs v is ≡ true
          to_test h = (rest v).1 (let both : Some v ≡ Some h.1.0 = sym e ∙ to_next t i h.1.0 h.0 h.1.1 in let same : h.1.0 ≡ v = cc in subst (λ (u : IrType). Walk defs u is) same h.1.2)

  pub walk_decides : (is : List Index) (t : IrType) → Decides (walks defs t is) (WalkFrom defs t is)
  walk_decides [] t = always
  walk_decides (i ∷ is) t = and_then (is_integer i.ty) (walks_into defs t is) (integer_decides i.ty) (λ h. into_decides is t)
