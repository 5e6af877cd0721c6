-- Kinds of types.
use Rattle.std.specs.Prelude.{Bool, true, false}
use Rattle.oi_base.specs.declared.words.Width.TheVariants.{W1, W32}
use Rattle.ir_core.specs.declared.ty.IrType.{IrType, Int, Ptr}

abbrev pub is_integer : IrType → Bool
is_integer (Int w) = true
is_integer _ = false

-- `i1`
abbrev pub is_bit : IrType → Bool
is_bit (Int W1) = true
is_bit _ = false

-- `i32`
abbrev pub is_word : IrType → Bool
is_word (Int W32) = true
is_word _ = false

abbrev pub is_pointer : IrType → Bool
is_pointer Ptr = true
is_pointer _ = false

-- an integer or a pointer
abbrev pub is_scalar : IrType → Bool
is_scalar (Int w) = true
is_scalar Ptr = true
is_scalar _ = false
