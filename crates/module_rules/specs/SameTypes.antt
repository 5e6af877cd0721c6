-- Whether types are written alike.
use Rattle.std.specs.Prelude.{Bool, true, false, ◌&&◌, nat_eq, List, [], ◌∷◌}
use Rattle.oi_base.specs.declared.words.Width.{Width}
use Rattle.oi_base.specs.declared.words.Width.TheVariants.{W1, W8, W16, W32}
use Rattle.ir_core.specs.declared.ty.IrType.{IrType, Void, Int, Ptr, Array', Struct', Named, Row_of-IrType, end_of-IrType, more_of-IrType}

abbrev pub same_width : Width → Width → Bool
same_width W1 W1 = true
same_width W8 W8 = true
same_width W16 W16 = true
same_width W32 W32 = true
same_width _ _ = false

-- both are written alike; a name is alike to itself alone
abbrev mutual
  pub same_type : IrType → IrType → Bool
  same_type Void Void = true
  same_type (Int v) (Int w) = same_width v w
  same_type Ptr Ptr = true
  same_type (Array' k _ ts) (Array' l _ us) = nat_eq k l && same_row ts us
  same_type (Struct' _ ts) (Struct' _ us) = same_row ts us
  same_type (Named x) (Named y) = nat_eq x.0 y.0
  same_type _ _ = false

  pub same_row : {m n : _} → Row_of-IrType m → Row_of-IrType n → Bool
  same_row end_of-IrType end_of-IrType = true
  same_row (more_of-IrType t ts) (more_of-IrType u us) = same_type t u && same_row ts us
  same_row _ _ = false

abbrev pub same_types : List IrType → List IrType → Bool
same_types [] [] = true
same_types (t ∷ ts) (u ∷ us) = same_type t u && same_types ts us
same_types _ _ = false
