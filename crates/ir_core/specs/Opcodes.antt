-- The words of operations and widths in a text (LangRef, "Instruction Reference"), each once.
use Rattle.std.specs.Prelude.{ℕ, List, [], ◌∷◌, map, Option, Some, None, if◌then◌else◌, codes}
use Rattle.std.specs.Str.{bytes_eq}
use Rattle.oi_base.specs.declared.words.Width.{Width}
use Rattle.oi_base.specs.declared.words.Width.TheVariants.{W1, W8, W16, W32}
use Rattle.ir_core.specs.declared.flat.BinOp.{BinOp}
use Rattle.ir_core.specs.declared.flat.BinOp.TheVariants as bins
use Rattle.ir_core.specs.declared.flat.Cmp.{Cmp}
use Rattle.ir_core.specs.declared.flat.Cmp.TheVariants as orders
use Rattle.ir_core.specs.declared.flat.CastOp.{CastOp}
use Rattle.ir_core.specs.declared.flat.CastOp.TheVariants as casts
use Rattle.ir_core.specs.declared.opcodes.TheConstants.{BIN_OPS, CMPS, CAST_OPS}

abbrev pub width_text : Width → List ℕ
width_text W1 = codes "i1"
width_text W8 = codes "i8"
width_text W16 = codes "i16"
width_text W32 = codes "i32"

abbrev pub bin_text : BinOp → List ℕ
bin_text bins.Add = codes "add"
bin_text bins.Sub = codes "sub"
bin_text bins.Mul = codes "mul"
bin_text bins.Udiv = codes "udiv"
bin_text bins.Sdiv = codes "sdiv"
bin_text bins.Urem = codes "urem"
bin_text bins.Srem = codes "srem"
bin_text bins.Shl = codes "shl"
bin_text bins.Lshr = codes "lshr"
bin_text bins.Ashr = codes "ashr"
bin_text bins.And = codes "and"
bin_text bins.Or = codes "or"
bin_text bins.Xor = codes "xor"

abbrev pub order_text : Cmp → List ℕ
order_text orders.Eq = codes "eq"
order_text orders.Ne = codes "ne"
order_text orders.Ugt = codes "ugt"
order_text orders.Uge = codes "uge"
order_text orders.Ult = codes "ult"
order_text orders.Ule = codes "ule"
order_text orders.Sgt = codes "sgt"
order_text orders.Sge = codes "sge"
order_text orders.Slt = codes "slt"
order_text orders.Sle = codes "sle"

abbrev pub cast_text : CastOp → List ℕ
cast_text casts.Zext = codes "zext"
cast_text casts.Sext = codes "sext"
cast_text casts.Trunc = codes "trunc"

-- each of these with its word
abbrev pub with_words : {A : Type 0} → (A → List ℕ) → List A → List (List ℕ × A)
with_words text all = map (λ a. (text a, a)) all

abbrev pub bin_words : List (List ℕ × BinOp)
bin_words = with_words bin_text BIN_OPS

abbrev pub order_words : List (List ℕ × Cmp)
order_words = with_words order_text CMPS

abbrev pub cast_words : List (List ℕ × CastOp)
cast_words = with_words cast_text CAST_OPS

-- what has the word
abbrev pub named : {A : Type 0} → List (List ℕ × A) → List ℕ → Option A
named [] w = None
named (e ∷ es) w = if bytes_eq w e.0 then Some e.1 else named es w
