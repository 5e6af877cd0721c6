-- What an initialiser's elements and fields have to be, one level at a time.
use Rattle.std.proofs.Common.{◌≡◌, refl, ap, ◌∙◌, Bool, true, false, ◌&&◌, nat_eq, ℕ, suc, List, [], ◌∷◌, length}
use Rattle.std.specs.List.{list_all}
use Rattle.std.proofs.lemmas.List.{length-map}
use Rattle.ir_core.specs.declared.ty.TypeDef.{TypeDef}
use Rattle.ir_core.specs.declared.ty.IrType.{IrType, out-IrType}
use Rattle.ir_core.specs.declared.ty.IrType.TheOpen.{IrType-F}
use Rattle.ir_core.specs.declared.constant.TypedConst.{TypedConst}
use Rattle.ir_core.specs.declared.constant.Const.{Row_of-TypedConst, end_of-TypedConst, more_of-TypedConst, items-the_row-TypedConst, items_hidden-the_row-TypedConst-0}
use Rattle.ir_core.specs.declared.constant.Const.TheBlock.{hidden-the_row-TypedConst-0}
use Rattle.ir_core.specs.declared.constant.Const.TheVariants as consts
use Rattle.ir_core.specs.ValidConsts.{plain}
use Rattle.module_rules.specs.InitFaults.{is_array_of, is_struct_of, has_type, are_items, are_fields, is_item, are_fields_of}
use Rattle.module_rules.proofs.Decided.{false_is_not_true}
use Rattle.module_rules.proofs.SameTypeLaws.{two_true}

array_tests : (n k : ℕ) (test other : IrType → Bool) (l : IrType-F IrType) → n ≡ k → ((u : IrType) → test u ≡ other u) → is_array_of n test l ≡ is_array_of k other l
array_tests n k test other IrType-F.Void e same = refl
array_tests n k test other (IrType-F.Int w) e same = refl
array_tests n k test other IrType-F.Ptr e same = refl
array_tests n k test other (IrType-F.Array j item) e same = ap (λ (i : ℕ). nat_eq j i && test item) e ∙ ap (λ (b : Bool). nat_eq j k && b) (same item)
array_tests n k test other (IrType-F.Struct types) e same = refl
array_tests n k test other (IrType-F.Named x) e same = refl

struct_tests : (test other : List IrType → Bool) (l : IrType-F IrType) → ((us : List IrType) → test us ≡ other us) → is_struct_of test l ≡ is_struct_of other l
struct_tests test other IrType-F.Void same = refl
struct_tests test other (IrType-F.Int w) same = refl
struct_tests test other IrType-F.Ptr same = refl
struct_tests test other (IrType-F.Array j item) same = refl
struct_tests test other (IrType-F.Struct types) same = same types
struct_tests test other (IrType-F.Named x) same = refl

module _ (defs : List TypeDef) (names : List ℕ) where
  row_items : (n : _) (row : Row_of-TypedConst n) (u : IrType) → are_items defs names row u ≡ list_all (is_item defs names u) (items-the_row-TypedConst n row)
  row_items _ end_of-TypedConst u = refl
  row_items _ (more_of-TypedConst t c cs) u = ap (λ (b : Bool). is_item defs names u (record { ty = t; value = c }) && b) (row_items _ cs u)

  row_fields : (n : _) (row : Row_of-TypedConst n) (us : List IrType) → are_fields defs names row us ≡ are_fields_of defs names (items-the_row-TypedConst n row) us
  row_fields _ end_of-TypedConst [] = refl
  row_fields _ end_of-TypedConst (u ∷ us) = refl
  row_fields _ (more_of-TypedConst t c cs) [] = refl
  row_fields _ (more_of-TypedConst t c cs) (u ∷ us) = ap (λ (b : Bool). is_item defs names u (record { ty = t; value = c }) && b) (row_fields _ cs us)

  pub array_has : (items : List TypedConst) (t : IrType) → has_type defs names (consts.Array items) t ≡ is_array_of (length items) (λ (u : IrType). list_all (is_item defs names u) items) (out-IrType (plain defs t))
  unfolding hidden-the_row-TypedConst-0
  array_has items t =
      array_tests _ (length items) _ (λ (u : IrType). list_all (is_item defs names u) items) (out-IrType (plain defs t))
      (length-map items (λ (c : TypedConst). tt))
      (λ u. row_items _ (hidden-the_row-TypedConst-0 items) u ∙ ap (list_all (is_item defs names u)) (items_hidden-the_row-TypedConst-0 items))

  pub struct_has : (values : List TypedConst) (t : IrType) → has_type defs names (consts.Struct values) t ≡ is_struct_of (are_fields_of defs names values) (out-IrType (plain defs t))
  struct_has values t =
      struct_tests _ (are_fields_of defs names values) (out-IrType (plain defs t))
      (λ us. row_fields _ (hidden-the_row-TypedConst-0 values) us ∙ ap (λ (cs : List TypedConst). are_fields_of defs names cs us) (items_hidden-the_row-TypedConst-0 values))

  as_many : (cs : List TypedConst) (us : List IrType) → are_fields_of defs names cs us ≡ true → length cs ≡ length us
  as_many [] [] e = refl
  as_many [] (u ∷ us) e = absurd (false_is_not_true e)
  as_many (c ∷ cs) [] e = absurd (false_is_not_true e)
  as_many (c ∷ cs) (u ∷ us) e = ap suc (as_many cs us (two_true (is_item defs names u c) (are_fields_of defs names cs us) e).1)

  pub not_as_many : (cs : List TypedConst) (us : List IrType) → (length cs ≡ length us → ⊥) → false ≡ are_fields_of defs names cs us
  not_as_many cs us other = by_test (are_fields_of defs names cs us) refl
    where
      by_test : (t : Bool) → are_fields_of defs names cs us ≡ t → false ≡ t
      by_test false e = refl
      by_test true e = absurd (other (as_many cs us e))
