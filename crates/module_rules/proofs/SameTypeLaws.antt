-- Types that are written alike are equal.
use Rattle.std.proofs.Common.{◌≡◌, refl, sym, ap, ◌∙◌, subst, Bool, true, false, ◌&&◌, nat_eq, ℕ, suc, List, [], ◌∷◌, length, arith}
use Rattle.std.specs.Bool.{Decides}
use Rattle.std.proofs.lemmas.Bool.Decides.{nat_tests}
use Rattle.oi_base.specs.declared.words.Width.{Width}
use Rattle.oi_base.specs.declared.words.Width.TheVariants.{W1, W8, W16, W32}
use Rattle.ir_core.specs.declared.ty.TypeName.{TypeName}
use Rattle.ir_core.specs.declared.ty.IrType.{IrType, Void, Int, Ptr, Array', Struct', Named, Row_of-IrType, end_of-IrType, more_of-IrType, items-the_row-IrType, items_hidden-the_row-IrType-1}
use Rattle.ir_core.specs.declared.ty.IrType.TheBlock.{hidden-the_row-IrType-1}
use Rattle.ir_core.specs.declared.ty.IrType.TheVariants as types
use Rattle.ir_core.specs.declared.ty.IrType.TheVariants.{outs-Struct', rolls-Struct}
use Rattle.ir_core.specs.declared.ty.IrType.TheOpen.{IrType-F}
use Rattle.ir_core.specs.declared.ty.IrType.TheViews.{out-IrType, roll-IrType, roll-out-IrType}
use Rattle.module_rules.specs.SameTypes.{same_width, same_type, same_row, same_types}
use Rattle.module_rules.proofs.Decided.{false_is_not_true}

pub same_widths : (v w : Width) → same_width v w ≡ true → v ≡ w
same_widths W1 W1 e = refl
same_widths W1 W8 e = absurd (false_is_not_true e)
same_widths W1 W16 e = absurd (false_is_not_true e)
same_widths W1 W32 e = absurd (false_is_not_true e)
same_widths W8 W1 e = absurd (false_is_not_true e)
same_widths W8 W8 e = refl
same_widths W8 W16 e = absurd (false_is_not_true e)
same_widths W8 W32 e = absurd (false_is_not_true e)
same_widths W16 W1 e = absurd (false_is_not_true e)
same_widths W16 W8 e = absurd (false_is_not_true e)
same_widths W16 W16 e = refl
same_widths W16 W32 e = absurd (false_is_not_true e)
same_widths W32 W1 e = absurd (false_is_not_true e)
same_widths W32 W8 e = absurd (false_is_not_true e)
same_widths W32 W16 e = absurd (false_is_not_true e)
same_widths W32 W32 e = refl

pub self_width : (w : Width) → same_width w w ≡ true
self_width W1 = refl
self_width W8 = refl
self_width W16 = refl
self_width W32 = refl

pub two_true : (s t : Bool) → (s && t) ≡ true → (s ≡ true) × (t ≡ true)
two_true true t e = (refl, e)
two_true false t e = absurd (false_is_not_true e)

both_true : (s t : Bool) → s ≡ true → t ≡ true → (s && t) ≡ true
both_true true t e g = g
both_true false t e g = absurd (false_is_not_true e)

self_number : (n : ℕ) → nat_eq n n ≡ true
self_number n = grind (arith, nat_tests)

same_number : (m n : ℕ) → nat_eq m n ≡ true → m ≡ n
same_number m n e = grind (arith, nat_tests)

-- ---- a type is alike to itself

mutual
  self_type : (t : IrType) → same_type t t ≡ true
  self_type Void = refl
  self_type (Int w) = self_width w
  self_type Ptr = refl
  self_type (Array' k _ ts) = both_true (nat_eq k k) (same_row ts ts) (self_number k) (self_row ts)
  self_type (Struct' _ ts) = self_row ts
  self_type (Named x) = self_number x.0

  self_row : {m : _} (ts : Row_of-IrType m) → same_row ts ts ≡ true
  self_row end_of-IrType = refl
  self_row (more_of-IrType t ts) = both_true (same_type t t) (same_row ts ts) (self_type t) (self_row ts)

-- ---- what is alike is equal

equal_arrays : (k l : ℕ) (m n : _) (t u : IrType) → k ≡ l → t ≡ u → Array' k m (more_of-IrType t end_of-IrType) ≡ Array' l n (more_of-IrType u end_of-IrType)
unfolding Rattle.ir_core.specs.declared.ty.IrType.TheBlock.hidden-the_row-IrType-0 denote.Hole.Carrier.hidden
equal_arrays k l m n t u e h = let both : types.Array k t ≡ types.Array l u = ap (λ (j : ℕ). types.Array j t) e ∙ ap (types.Array l) h in both

equal_names : (x y : TypeName) → x.0 ≡ y.0 → x ≡ y
equal_names x y e = ap (λ (n : ℕ). record { 0 = n }) e

abbrev fields_of : IrType → List IrType
fields_of (Struct' m ts) = items-the_row-IrType _ ts
fields_of _ = []

struct_is : (m : _) (ts : _) → Struct' m ts ≡ types.Struct (fields_of (Struct' m ts))
struct_is m ts = by_level (_, outs-Struct' m ts)
  where
    by_level : (us : List IrType) × (out-IrType (Struct' m ts) ≡ IrType-F.Struct us) → Struct' m ts ≡ types.Struct (fields_of (Struct' m ts))
    by_level l =
        let is : Struct' m ts ≡ types.Struct l.0 = sym (roll-out-IrType (Struct' m ts)) ∙ ap roll-IrType l.1 ∙ rolls-Struct l.0 in
        is ∙ ap types.Struct (sym (ap fields_of is ∙ items_hidden-the_row-IrType-1 l.0))

mutual
  alike : (t u : IrType) → same_type t u ≡ true → t ≡ u
  alike Void Void e = refl
  alike Void (Int w) e = absurd (false_is_not_true e)
  alike Void Ptr e = absurd (false_is_not_true e)
  alike Void (Array' l n us) e = absurd (false_is_not_true e)
  alike Void (Struct' n us) e = absurd (false_is_not_true e)
  alike Void (Named y) e = absurd (false_is_not_true e)
  alike (Int v) Void e = absurd (false_is_not_true e)
  alike (Int v) (Int w) e = ap Int (same_widths v w e)
  alike (Int v) Ptr e = absurd (false_is_not_true e)
  alike (Int v) (Array' l n us) e = absurd (false_is_not_true e)
  alike (Int v) (Struct' n us) e = absurd (false_is_not_true e)
  alike (Int v) (Named y) e = absurd (false_is_not_true e)
  alike Ptr Void e = absurd (false_is_not_true e)
  alike Ptr (Int w) e = absurd (false_is_not_true e)
  alike Ptr Ptr e = refl
  alike Ptr (Array' l n us) e = absurd (false_is_not_true e)
  alike Ptr (Struct' n us) e = absurd (false_is_not_true e)
  alike Ptr (Named y) e = absurd (false_is_not_true e)
  alike (Array' k m ts) Void e = absurd (false_is_not_true e)
  alike (Array' k m ts) (Int w) e = absurd (false_is_not_true e)
  alike (Array' k m ts) Ptr e = absurd (false_is_not_true e)
  alike (Array' k m (more_of-IrType t end_of-IrType)) (Array' l n (more_of-IrType u end_of-IrType)) e =
      let b = two_true (nat_eq k l) (same_type t u && true) e in
      equal_arrays k l m n t u (same_number k l b.0) (alike t u (two_true (same_type t u) true b.1).0)
  alike (Array' k m ts) (Struct' n us) e = absurd (false_is_not_true e)
  alike (Array' k m ts) (Named y) e = absurd (false_is_not_true e)
  alike (Struct' m ts) Void e = absurd (false_is_not_true e)
  alike (Struct' m ts) (Int w) e = absurd (false_is_not_true e)
  alike (Struct' m ts) Ptr e = absurd (false_is_not_true e)
  alike (Struct' m ts) (Array' l n us) e = absurd (false_is_not_true e)
  alike (Struct' m ts) (Struct' n us) e = struct_is m ts ∙ ap types.Struct (alike_rows ts us e) ∙ sym (struct_is n us)
  alike (Struct' m ts) (Named y) e = absurd (false_is_not_true e)
  alike (Named x) Void e = absurd (false_is_not_true e)
  alike (Named x) (Int w) e = absurd (false_is_not_true e)
  alike (Named x) Ptr e = absurd (false_is_not_true e)
  alike (Named x) (Array' l n us) e = absurd (false_is_not_true e)
  alike (Named x) (Struct' n us) e = absurd (false_is_not_true e)
  alike (Named x) (Named y) e = ap Named (equal_names x y (same_number x.0 y.0 e))

  alike_rows : {m n : _} (ts : Row_of-IrType m) (us : Row_of-IrType n) → same_row ts us ≡ true → items-the_row-IrType m ts ≡ items-the_row-IrType n us
  alike_rows end_of-IrType end_of-IrType e = refl
  alike_rows end_of-IrType (more_of-IrType u us) e = absurd (false_is_not_true e)
  alike_rows (more_of-IrType t ts) end_of-IrType e = absurd (false_is_not_true e)
  alike_rows (more_of-IrType t ts) (more_of-IrType u us) e =
      let b = two_true (same_type t u) (same_row ts us) e in
      ap (λ (v : IrType). v ∷ items-the_row-IrType _ ts) (alike t u b.0) ∙ ap (λ (vs : List IrType). u ∷ vs) (alike_rows ts us b.1)

pub alike_decides : (t u : IrType) → Decides (same_type t u) (t ≡ u)
alike_decides t u = (alike t u, λ e. subst (λ (v : IrType). same_type t v ≡ true) e (self_type t))

-- ---- one level at a time

and_true : (b : Bool) → (b && true) ≡ b
and_true true = refl
and_true false = refl

pub same_arrays : (k l : ℕ) (t u : IrType) → same_type (types.Array k t) (types.Array l u) ≡ (nat_eq k l && same_type t u)
unfolding Rattle.ir_core.specs.declared.ty.IrType.TheBlock.hidden-the_row-IrType-0 denote.Hole.Carrier.hidden
same_arrays k l t u = ap (λ (b : Bool). nat_eq k l && b) (and_true (same_type t u))

row_same : (m n : _) (ts : Row_of-IrType m) (us : Row_of-IrType n) → same_row ts us ≡ same_types (items-the_row-IrType m ts) (items-the_row-IrType n us)
row_same _ _ end_of-IrType end_of-IrType = refl
row_same _ _ end_of-IrType (more_of-IrType u us) = refl
row_same _ _ (more_of-IrType t ts) end_of-IrType = refl
row_same _ _ (more_of-IrType t ts) (more_of-IrType u us) = ap (λ (b : Bool). same_type t u && b) (row_same _ _ ts us)

pub same_structs : (ts us : List IrType) → same_type (types.Struct ts) (types.Struct us) ≡ same_types ts us
same_structs ts us =
    row_same _ _ (hidden-the_row-IrType-1 ts) (hidden-the_row-IrType-1 us)
    ∙ ap (λ (vs : List IrType). same_types vs (items-the_row-IrType _ (hidden-the_row-IrType-1 us))) (items_hidden-the_row-IrType-1 ts)
    ∙ ap (same_types ts) (items_hidden-the_row-IrType-1 us)

as_many : (ts us : List IrType) → same_types ts us ≡ true → length ts ≡ length us
as_many [] [] e = refl
as_many [] (u ∷ us) e = absurd (false_is_not_true e)
as_many (t ∷ ts) [] e = absurd (false_is_not_true e)
as_many (t ∷ ts) (u ∷ us) e = ap suc (as_many ts us (two_true (same_type t u) (same_types ts us) e).1)

pub not_as_many : (ts us : List IrType) → (length ts ≡ length us → ⊥) → false ≡ same_types ts us
not_as_many ts us other = by_test (same_types ts us) refl
  where
    by_test : (t : Bool) → same_types ts us ≡ t → false ≡ t
    by_test false e = refl
    by_test true e = absurd (other (as_many ts us e))

pub arrays_alike : (k l : ℕ) (a b t u : IrType) → k ≡ l → t ≡ types.Array k a → u ≡ types.Array l b → same_type a b ≡ same_type t u
arrays_alike k l a b t u e h g =
    sym
    (ap (λ (v : IrType). same_type v u) h ∙ ap (same_type (types.Array k a)) g ∙ same_arrays k l a b
    ∙ ap (λ (c : Bool). c && same_type a b) (ap (λ (n : ℕ). nat_eq n l) e ∙ self_number l))

pub structs_alike : (ts us : List IrType) (t u : IrType) → t ≡ types.Struct ts → u ≡ types.Struct us → same_types ts us ≡ same_type t u
structs_alike ts us t u h g = sym (ap (λ (v : IrType). same_type v u) h ∙ ap (same_type (types.Struct ts)) g ∙ same_structs ts us)
