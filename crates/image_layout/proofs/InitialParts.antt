-- The bytes of an initialiser's elements and fields, one after the other.
use Rattle.std.proofs.Common.{◌≡◌, ℕ, zero, suc, ◌+◌, ◌-◌, ◌<◌, ◌≤◌, refl, ap, ◌∙◌, subst, arith, List, [], ◌∷◌, ◌++◌, length, length-append, slice_index_or, All}
use Rattle.std.specs.List.{flat_map}
use Rattle.std.specs.Int.{next_multiple_of}
use Rattle.std.proofs.lemmas.List.Elements.{All-nil, All-cons}
use Rattle.ir_core.specs.declared.constant.TypedConst.{TypedConst}
use Rattle.ir_core.specs.declared.constant.Const.{Row_of-TypedConst, end_of-TypedConst, more_of-TypedConst, items-the_row-TypedConst, items_hidden-the_row-TypedConst-0}
use Rattle.ir_core.specs.declared.constant.Const.TheBlock.{hidden-the_row-TypedConst-0}
use Rattle.ir_core.specs.declared.constant.Const.TheVariants as consts
use Rattle.ir_core.specs.declared.module.Module.{Module}
use Rattle.ir_core.specs.declared.ty.IrType.{IrType}
use Rattle.ir_core.specs.Constants.{gap, filled_up, initial_bytes, element_bytes, field_bytes}
use Rattle.ir_core.specs.Memory.{Byte}
use Rattle.ir_core.specs.Parts.{const_types, consts_types}
use Rattle.ir_core.specs.Sizes.{size, align}
use Rattle.module_rules.specs.TypeFaults.{typed_const_types}
use Rattle.image_layout.specs.Initialisers.{IsSized, HasBytes, HaveBytes, IsPart, fields_from}

module _ (m : Module) where
  abbrev pub part_bytes : TypedConst → List Byte
  part_bytes c = initial_bytes m c.ty c.value

  row_bytes : (n : _) (row : Row_of-TypedConst n) → element_bytes m row ≡ flat_map part_bytes (items-the_row-TypedConst n row)
  row_bytes _ end_of-TypedConst = refl
  row_bytes _ (more_of-TypedConst t c cs) = ap (λ (bs : List Byte). initial_bytes m t c ++ bs) (row_bytes _ cs)

  row_fields : (n : _) (row : Row_of-TypedConst n) (at : ℕ) → field_bytes m at row ≡ fields_from m at (items-the_row-TypedConst n row)
  row_fields _ end_of-TypedConst at = refl
  row_fields _ (more_of-TypedConst t c cs) at =
      ap (λ (bs : List Byte). gap (next at - at) ++ initial_bytes m t c ++ bs) (row_fields _ cs (next at + size m.types.defs t))
    where
      next : ℕ → ℕ
      next n = next_multiple_of n (align m.types.defs t)

  row_parts : (n : _) (row : Row_of-TypedConst n) → HaveBytes m row → All (IsPart m) (items-the_row-TypedConst n row)
  row_parts _ end_of-TypedConst h = All-nil (IsPart m)
  row_parts _ (more_of-TypedConst t c cs) h = All-cons (IsPart m) (record { ty = t; value = c }) (items-the_row-TypedConst _ cs) h.0 (row_parts _ cs h.1)

  pub array_bytes : (items : List TypedConst) (t : IrType) → initial_bytes m t (consts.Array items) ≡ flat_map part_bytes items
  array_bytes items t = row_bytes _ (hidden-the_row-TypedConst-0 items) ∙ ap (flat_map part_bytes) (items_hidden-the_row-TypedConst-0 items)

  pub struct_bytes : (items : List TypedConst) (t : IrType) → initial_bytes m t (consts.Struct items) ≡ filled_up (size m.types.defs t) (fields_from m 0 items)
  struct_bytes items t = ap (filled_up (size m.types.defs t)) (row_fields _ (hidden-the_row-TypedConst-0 items) 0 ∙ ap (fields_from m 0) (items_hidden-the_row-TypedConst-0 items))

  pub array_parts : (items : List TypedConst) (t : IrType) → HasBytes m t (consts.Array items) → All (IsPart m) items
  array_parts items t h = subst (All (IsPart m)) (items_hidden-the_row-TypedConst-0 items) (row_parts _ (hidden-the_row-TypedConst-0 items) h)

  pub struct_parts : (items : List TypedConst) (t : IrType) → HasBytes m t (consts.Struct items) → IsSized m t × All (IsPart m) items
  struct_parts items t h = (h.0, subst (All (IsPart m)) (items_hidden-the_row-TypedConst-0 items) (row_parts _ (hidden-the_row-TypedConst-0 items) h.1))

-- the types in the elements and in the fields
row_types : (n : _) (row : Row_of-TypedConst n) → consts_types row ≡ flat_map typed_const_types (items-the_row-TypedConst n row)
row_types _ end_of-TypedConst = refl
row_types _ (more_of-TypedConst t c cs) = ap (λ (ts : List IrType). t ∷ const_types c ++ ts) (row_types _ cs)

pub array_types : (items : List TypedConst) → const_types (consts.Array items) ≡ flat_map typed_const_types items
array_types items = row_types _ (hidden-the_row-TypedConst-0 items) ∙ ap (flat_map typed_const_types) (items_hidden-the_row-TypedConst-0 items)

pub struct_types : (items : List TypedConst) → const_types (consts.Struct items) ≡ flat_map typed_const_types items
struct_types items = row_types _ (hidden-the_row-TypedConst-0 items) ∙ ap (flat_map typed_const_types) (items_hidden-the_row-TypedConst-0 items)

-- an element's part is no longer than all
pub one_of_all : {A B : Type 0} (f : A → List B) (xs : List A) (i : ℕ) (d : A) → i < length xs → length (f (slice_index_or xs i d)) ≤ length (flat_map f xs)
one_of_all f [] i d lt = absurd (omega (arith, lt))
one_of_all f (x ∷ xs) zero d lt = let l = length-append (f x) (flat_map f xs) in omega (arith, l)
one_of_all f (x ∷ xs) (suc i) d lt =
    let l = length-append (f x) (flat_map f xs) in
    let r = one_of_all f xs i d (omega (arith, lt)) in
    omega (arith, l, r)
