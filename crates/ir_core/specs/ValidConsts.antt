-- Which constants have a type, what they mean, and how the indices of a `getelementptr` walk into a type (LangRef,
-- "Constants" and "getelementptr Instruction").
use Rattle.std.specs.Prelude.{◌≡◌, ◌⊎◌, ℕ, ◌+◌, ◌/◌, ◌%◌, ◌<◌, ℤ, pos, negsuc, List, [], ◌∷◌, length, map, Option, Some, None, slice_get, unwrap_or, All, Contains}
use Rattle.oi_base.specs.declared.ids.Place.{Place}
use Rattle.oi_base.specs.declared.words.Width.{Width}
use Rattle.oi_base.specs.declared.words.Width.TheVariants.{W1, W8, W32}
use Rattle.oi_base.specs.Words.{modulus, word_of}
use Rattle.ir_core.specs.declared.ty.TypeDef.{TypeDef}
use Rattle.ir_core.specs.declared.ty.IrType.{IrType, Void, Int, Ptr, out-IrType}
use Rattle.ir_core.specs.declared.ty.IrType.TheOpen.{IrType-F}
use Rattle.ir_core.specs.declared.module.SymId.{SymId}
use Rattle.ir_core.specs.declared.module.GlobalVar.{GlobalVar}
use Rattle.ir_core.specs.declared.module.Module.{Module}
use Rattle.ir_core.specs.declared.constant.Const.{Const, Row_of-TypedConst, end_of-TypedConst, more_of-TypedConst}
use Rattle.ir_core.specs.declared.constant.Const as consts
use Rattle.ir_core.specs.declared.constant.TypedCount.{TypedCount}
use Rattle.ir_core.specs.declared.op.LocalId.{LocalId}
use Rattle.ir_core.specs.declared.op.Operand.{Operand}
use Rattle.ir_core.specs.declared.op.Operand.TheVariants as operands
use Rattle.ir_core.specs.declared.op.TypedOperand.{TypedOperand}
use Rattle.ir_core.specs.Sizes.{resolved, fields, size, offset}
use Rattle.ir_core.specs.Words.{bit}
use Rattle.ir_core.specs.Rows.{scaled}
use Rattle.ir_core.specs.Operands.{AtGlobal}

-- a type without the names that stand for it
abbrev pub plain : List TypeDef → IrType → IrType
plain defs t = resolved (length defs) defs t

abbrev pub IsInteger : IrType → Type 0
IsInteger t = (w : Width) × (t ≡ Int w)

-- an integer of a width w lies in -2^(w-1) to 2^w - 1
abbrev pub Fits : Width → ℤ → Type 0
Fits w (pos a) = a < modulus w
Fits w (negsuc a) = a < modulus w / 2

abbrev pub FitsType : IrType → ℤ → Type 0
FitsType t n = (w : Width) × (t ≡ Int w) × Fits w n

-- a global variable of the module has the name
abbrev pub IsVariable : Module → SymId → Type 0
IsVariable m s = (g : GlobalVar) × Contains m.globals g × (g.name ≡ s)

-- ---- the indices of a `getelementptr`

-- an index: its type, and its number where it is a number
pub record Index : Type 0 where
  pub ty : IrType
  pub number : Option ℤ

abbrev pub const_index : TypedCount → Index
const_index i = record { ty = i.ty; number = Some i.count }

abbrev pub number_of : Operand → Option ℤ
number_of (operands.Const (consts.Int n)) = Some n
number_of _ = None

abbrev pub index_of : TypedOperand → Index
index_of i = record { ty = i.ty; number = number_of i.value }

-- an index leads from an array to its elements' type, and from a struct, as an `i32` that is a field's number, to that field's
abbrev pub GoesInto : List TypeDef → IrType → Index → IrType → Type 0
GoesInto defs t i u =
    ((n : ℕ) × (out-IrType (plain defs t) ≡ IrType-F.Array n u))
    ⊎ ((k : ℕ) × (i.ty ≡ Int W32) × (i.number ≡ Some (pos k)) × (slice_get (fields defs t) k ≡ Some u))

-- the indices after the first
abbrev pub Walk : List TypeDef → IrType → List Index → Type 0
Walk defs t [] = Unit {0}
Walk defs t (i ∷ is) = IsInteger i.ty × ((u : IrType) × GoesInto defs t i u × Walk defs u is)

-- the first index is any integer, and the others walk into the source type
abbrev pub WalkFrom : List TypeDef → IrType → List Index → Type 0
WalkFrom defs t [] = Unit {0}
WalkFrom defs t (i ∷ is) = IsInteger i.ty × Walk defs t is

abbrev pub ConstWalk : List TypeDef → IrType → List TypedCount → Type 0
ConstWalk defs t is = WalkFrom defs t (map const_index is)

abbrev pub IndicesFit : List TypedCount → Type 0
IndicesFit is = All (λ (i : TypedCount). FitsType i.ty i.count) is

-- ---- initialisers

-- the constant has the type
abbrev mutual
  pub HasType : Module → Const → IrType → Type 0
  HasType m (consts.Int n) t = FitsType (plain m.types.defs t) n
  HasType m (consts.Bool b) t = plain m.types.defs t ≡ Int W1
  HasType m consts.Null t = plain m.types.defs t ≡ Ptr
  HasType m consts.Undef t = Unit {0}
  HasType m consts.Poison t = Unit {0}
  HasType m consts.Zero t = Unit {0}
  HasType m (consts.Bytes b) t = out-IrType (plain m.types.defs t) ≡ IrType-F.Array (length b) (Int W8)
  HasType m (consts.Address s) t = (plain m.types.defs t ≡ Ptr) × IsVariable m s
  HasType m (consts.Gep source s is) t = (plain m.types.defs t ≡ Ptr) × IsVariable m s × ConstWalk m.types.defs source is × IndicesFit is
  HasType m (consts.Array' each items) t = (item : IrType) × (out-IrType (plain m.types.defs t) ≡ IrType-F.Array (length each) item) × AreItems m items item
  HasType m (consts.Struct' each values) t = (types : List IrType) × (out-IrType (plain m.types.defs t) ≡ IrType-F.Struct types) × AreFields m values types

  -- each is written with the type, which it has
  pub AreItems : Module → {n : _} → Row_of-TypedConst n → IrType → Type 0
  AreItems m end_of-TypedConst item = Unit {0}
  AreItems m (more_of-TypedConst t c cs) item = (t ≡ item) × HasType m c t × AreItems m cs item

  -- as many as there are types, and each written with its own, which it has
  pub AreFields : Module → {n : _} → Row_of-TypedConst n → List IrType → Type 0
  AreFields m end_of-TypedConst [] = Unit {0}
  AreFields m end_of-TypedConst (u ∷ us) = ⊥
  AreFields m (more_of-TypedConst t c cs) [] = ⊥
  AreFields m (more_of-TypedConst t c cs) (u ∷ us) = (t ≡ u) × HasType m c t × AreFields m cs us

-- Rule 5. Each initialiser has its type, its numbers fit, names in it are globals of the module, and the indices of a
-- `getelementptr` in it walk into the source type. A string has the type of an array of `i8` with its length.
abbrev pub BreaksInitialisers : Module → Place → Type 0
BreaksInitialisers m p = AtGlobal m p (λ g. HasType m g.init g.ty → ⊥)

-- ---- what an operand means

-- a register or parameter, a word, null, a global's address and a number of bytes, poison, or nothing of the type
pub data Meaning : Type 0 where
  OfLocal : (local : LocalId) → Meaning
  IsWord : (word : ℕ) → Meaning
  IsNull : Meaning
  IsAddress : (global : SymId) (bytes : ℕ) → Meaning
  IsPoison : Meaning
  HasNone : Meaning

-- a number as a word of an integer type, sign-extended and times a stride
abbrev pub index_moves : IrType → ℤ → ℕ → ℕ
index_moves (Int w) n stride = scaled w stride (word_of (modulus w) n)
index_moves _ n stride = 0

-- the field of a struct that a number stands for
abbrev pub field_number : ℤ → ℕ
field_number (pos k) = k
field_number (negsuc k) = 0

-- how far an index leads into a type, and on from there
abbrev pub distance_by : List TypeDef → IrType → TypedCount → (IrType → ℕ) → IrType-F IrType → ℕ
distance_by defs t i on (IrType-F.Array n item) = index_moves i.ty i.count (size defs item) + on item
distance_by defs t i on (IrType-F.Struct types) =
    unwrap_or (offset defs t (field_number i.count)) 0 + on (unwrap_or (slice_get types (field_number i.count)) Void)
distance_by defs t i on _ = 0

-- how far the indices after the first lead into a type
abbrev pub distance_into : List TypeDef → IrType → List TypedCount → ℕ
distance_into defs t [] = 0
distance_into defs t (i ∷ is) = distance_by defs t i (λ u. distance_into defs u is) (out-IrType (plain defs t))

-- the offset of a constant `getelementptr`, modulo 2 to the 32
abbrev pub gep_offset : List TypeDef → IrType → List TypedCount → ℕ
gep_offset defs t [] = 0
gep_offset defs t (i ∷ is) = (index_moves i.ty i.count (size defs t) + distance_into defs t is) % 4294967296

-- `undef` is the zero or the null of its type
abbrev pub meaning : List TypeDef → IrType → Operand → Meaning
meaning defs t (operands.Local x) = OfLocal x
meaning defs (Int w) (operands.Const (consts.Int n)) = IsWord (word_of (modulus w) n)
meaning defs t (operands.Const (consts.Bool b)) = IsWord (bit b)
meaning defs (Int w) (operands.Const consts.Undef) = IsWord 0
meaning defs Ptr (operands.Const consts.Undef) = IsNull
meaning defs t (operands.Const consts.Null) = IsNull
meaning defs t (operands.Const consts.Poison) = IsPoison
meaning defs t (operands.Const (consts.Address s)) = IsAddress s 0
meaning defs t (operands.Const (consts.Gep source s is)) = IsAddress s (gep_offset defs source is)
meaning defs t _ = HasNone
