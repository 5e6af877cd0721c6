-- What the constants of a module stand for (LangRef, "Constants"): operands, and the bytes of initialisers.
use Rattle.std.specs.Prelude.{ℕ, ◌+◌, ◌-◌, ◌%◌, ◌==◌, Bool, true, ℤ, List, [], ◌∷◌, ◌++◌, length, map, replicate, Option, Some, None, unwrap_or, slice_get}
use Rattle.std.specs.List.{position_or_len}
use Rattle.std.specs.Int.{next_multiple_of}
use Rattle.oi_base.specs.declared.words.Width.{Width}
use Rattle.oi_base.specs.declared.words.Width.TheVariants.{W32}
use Rattle.oi_base.specs.Words.{modulus, word_of}
use Rattle.ir_core.specs.declared.flat.Scalar.{Scalar}
use Rattle.ir_core.specs.declared.flat.Scalar.TheVariants as scalar
use Rattle.ir_core.specs.declared.flat.FlatOp.{FlatOp}
use Rattle.ir_core.specs.declared.flat.FlatOp.TheVariants.{Reg, Word, Null, Address, Poison}
use Rattle.ir_core.specs.declared.flat.Term.{Term}
use Rattle.ir_core.specs.declared.ty.TypeDef.{TypeDef}
use Rattle.ir_core.specs.declared.ty.IrType.{IrType, Void, Int, Ptr, Array', Struct', Named, end_of-IrType, more_of-IrType}
use Rattle.ir_core.specs.declared.module.SymId.{SymId}
use Rattle.ir_core.specs.declared.module.GlobalVar.{GlobalVar}
use Rattle.ir_core.specs.declared.module.Module.{Module}
use Rattle.ir_core.specs.declared.constant.Const.{Const, Row_of-TypedConst, end_of-TypedConst, more_of-TypedConst}
use Rattle.ir_core.specs.declared.constant.Const as consts
use Rattle.ir_core.specs.declared.constant.TypedCount.{TypedCount}
use Rattle.ir_core.specs.Sizes.{size, align, resolved, fields, offset}
use Rattle.ir_core.specs.Memory.{Value, Bits, At, NullPointer, Poisoned, Byte, Unset, PoisonByte, Octet, Block, Memory, stored}
use Rattle.ir_core.specs.Words.{bit}
use Rattle.ir_core.specs.Rows.{scaled}

-- ---- types of registers

-- the width of an integer type; no other type has one
abbrev pub width_of : IrType → Width
width_of (Int w) = w
width_of _ = W32

-- what a register of the type holds; the types that are neither integers nor `ptr` are no register's
abbrev pub scalar_of : IrType → Scalar
scalar_of (Int w) = scalar.Word w
scalar_of _ = scalar.Pointer

-- the stated alignment, else the type's
abbrev pub aligned_as : List TypeDef → Option ℕ → IrType → ℕ
aligned_as defs stated t = unwrap_or stated (align defs t)

-- ---- addresses (LangRef, "getelementptr Instruction")

-- an index: its operand and its type's width
pub record Index : Type 0 where
  pub operand : FlatOp
  pub width : Width

-- what indices add to an address: a number of bytes, and terms
pub record Path : Type 0 where
  pub bytes : ℕ
  pub terms : List Term

abbrev pub joined : Path → Path → Path
joined a b = record { bytes = a.bytes + b.bytes; terms = a.terms ++ b.terms }

abbrev pub empty_path : Path
empty_path = record { bytes = 0; terms = [] }

-- an index over things of one size
abbrev pub over : ℕ → Index → Path
over stride i = record { bytes = 0; terms = record { operand = i.operand; width = i.width; stride = stride } ∷ [] }

-- the number of a field
abbrev pub field_number : FlatOp → ℕ
field_number (Word a) = a
field_number _ = 0

abbrev pub to_field : List TypeDef → IrType → ℕ → Path
to_field defs t n = record { bytes = unwrap_or (offset defs t n) 0; terms = [] }

-- the type of an array's elements
abbrev pub element : IrType → Option IrType
element Void = None
element (Int w) = None
element Ptr = None
element (Array' n _ (more_of-IrType item end_of-IrType)) = Some item
element (Struct' _ _) = None
element (Named x) = None

-- an index into a type: over an array's elements by their size, or to a struct's field
abbrev pub into : List TypeDef → IrType → Option IrType → Index → Path
into defs t None i = to_field defs t (field_number i.operand)
into defs t (Some item) i = over (size defs item) i

-- the type to which it leads
abbrev pub inside : List TypeDef → IrType → Option IrType → Index → IrType
inside defs t None i = unwrap_or (slice_get (fields defs t) (field_number i.operand)) Void
inside defs t (Some item) i = item

abbrev pub element_of : List TypeDef → IrType → Option IrType
element_of defs t = element (resolved (length defs) defs t)

abbrev pub walk : List TypeDef → IrType → List Index → Path
walk defs t [] = empty_path
walk defs t (i ∷ is) = joined (into defs t (element_of defs t) i) (walk defs (inside defs t (element_of defs t) i) is)

-- the first index is over things of the source type, and the further ones walk into it
abbrev pub path : List TypeDef → IrType → List Index → Path
path defs t [] = empty_path
path defs t (i ∷ is) = joined (over (size defs t) i) (walk defs t is)

-- where the operands of all terms are words
abbrev pub term_bytes : Term → ℕ
term_bytes t = scaled t.width t.stride (field_number t.operand)

abbrev pub all_bytes : ℕ → List Term → ℕ
all_bytes n [] = n
all_bytes n (t ∷ ts) = term_bytes t + all_bytes n ts

abbrev pub path_bytes : Path → ℕ
path_bytes p = all_bytes p.bytes p.terms % 4294967296

-- ---- operands

abbrev pub is_global : SymId → GlobalVar → Bool
is_global s g = g.name.0 == s.0

-- a global variable by its position; where there is none of the name, the number of all
abbrev pub global_number : Module → SymId → ℕ
global_number m s = position_or_len (is_global s) m.globals

abbrev pub number_word : IrType → ℤ → FlatOp
number_word t z = Word (word_of (modulus (width_of t)) z)

abbrev pub constant_index : TypedCount → Index
constant_index i = record { operand = number_word i.ty i.count; width = width_of i.ty }

abbrev pub zero_of : Scalar → FlatOp
zero_of (scalar.Word w) = Word 0
zero_of scalar.Pointer = Null

-- A constant as an operand of its type: a word of its width, null, an address, or poison. `undef` is read as zero. What
-- is no operand has no value.
abbrev pub constant : Module → IrType → Const → FlatOp
constant m t (consts.Int n) = number_word t n
constant m t (consts.Bool b) = Word (bit b)
constant m t consts.Null = Null
constant m t consts.Undef = zero_of (scalar_of t)
constant m t consts.Poison = Poison
constant m t (consts.Address s) = Address (global_number m s) 0
constant m t (consts.Gep source s is) = Address (global_number m s) (path_bytes (path m.types.defs source (map constant_index is)))
constant m t _ = Poison

-- ---- initialisers

abbrev pub constant_value : FlatOp → Value
constant_value (Reg r) = Poisoned
constant_value (Word a) = Bits a
constant_value Null = NullPointer
constant_value (Address g k) = At g k
constant_value Poison = Poisoned

-- bytes that no initialiser sets
abbrev pub gap : ℕ → List Byte
gap n = replicate n Unset

abbrev pub filled_up : ℕ → List Byte → List Byte
filled_up n bs = bs ++ gap (n - length bs)

-- The bytes of an initialiser of a type. Elements follow one another; a struct's fields stand at their offsets, and the
-- bytes between and after them are unset. `undef` is read as zero.
abbrev mutual
  pub initial_bytes : Module → IrType → Const → List Byte
  initial_bytes m t consts.Zero = replicate (size m.types.defs t) (Octet 0)
  initial_bytes m t consts.Undef = replicate (size m.types.defs t) (Octet 0)
  initial_bytes m t consts.Poison = replicate (size m.types.defs t) PoisonByte
  initial_bytes m t (consts.Bytes bs) = map Octet bs
  initial_bytes m t (consts.Array' _ items) = element_bytes m items
  initial_bytes m t (consts.Struct' _ items) = filled_up (size m.types.defs t) (field_bytes m 0 items)
  initial_bytes m t c = stored (scalar_of t) (constant_value (constant m t c))

  pub element_bytes : Module → {n : _} → Row_of-TypedConst n → List Byte
  element_bytes m end_of-TypedConst = []
  element_bytes m (more_of-TypedConst t c cs) = initial_bytes m t c ++ element_bytes m cs

  -- the fields after those that end at a place
  pub field_bytes : Module → ℕ → {n : _} → Row_of-TypedConst n → List Byte
  field_bytes m at end_of-TypedConst = []
  field_bytes m at (more_of-TypedConst t c cs) =
      gap (next_multiple_of at (align m.types.defs t) - at) ++ initial_bytes m t c
      ++ field_bytes m (next_multiple_of at (align m.types.defs t) + size m.types.defs t) cs

-- a global variable's block
abbrev pub global_block : Module → GlobalVar → Block
global_block m g = record {
  align = aligned_as m.types.defs g.align g.ty;
  constant = g.constant;
  live = true;
  bytes = initial_bytes m g.ty g.init;
}

-- the memory at the start: the global variables in text order
abbrev pub global_memory : Module → Memory
global_memory m = map (global_block m) m.globals
