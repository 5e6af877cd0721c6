-- Initialisers whose bytes can be told, one after the other.
use Rattle.std.specs.Prelude.{◌≡◌, ℕ, ◌+◌, ◌-◌, ◌≤◌, List, [], ◌∷◌, ◌++◌, length}
use Rattle.std.specs.Int.{next_multiple_of}
use Rattle.ir_core.specs.declared.constant.Const.{Const, Row_of-TypedConst, end_of-TypedConst, more_of-TypedConst}
use Rattle.ir_core.specs.declared.constant.Const as consts
use Rattle.ir_core.specs.declared.constant.TypedConst.{TypedConst}
use Rattle.ir_core.specs.declared.limits.TheConstants.{LARGEST}
use Rattle.ir_core.specs.declared.module.GlobalVar.{GlobalVar}
use Rattle.ir_core.specs.declared.module.Module.{Module}
use Rattle.ir_core.specs.declared.op.Operand.TheVariants as operands
use Rattle.ir_core.specs.declared.ty.IrType.{IrType}
use Rattle.ir_core.specs.Constants.{aligned_as, gap, initial_bytes}
use Rattle.ir_core.specs.Formed.{IsAlign}
use Rattle.ir_core.specs.Memory.{Byte}
use Rattle.ir_core.specs.Sizes.{IsLaid, size, align}
use Rattle.ir_verifier.specs.PhiFaults.{IsMeasured}

-- the type has a size within the limit
abbrev pub IsSized : Module → IrType → Type 0
IsSized m t = IsLaid m.types.defs t × (size m.types.defs t ≤ LARGEST)

-- the type has an alignment, and the initialiser as many bytes as the type
abbrev pub FillsType : Module → IrType → Const → Type 0
FillsType m t c = IsLaid m.types.defs t × (length (initial_bytes m t c) ≡ size m.types.defs t)

-- the types on whose sizes the bytes rest have sizes, and each offset of a `getelementptr` can be told
abbrev mutual
  pub HasBytes : Module → IrType → Const → Type 0
  HasBytes m t consts.Zero = IsSized m t
  HasBytes m t consts.Undef = IsSized m t
  HasBytes m t consts.Poison = IsSized m t
  HasBytes m t (consts.Gep source s is) = IsMeasured m.types.defs (operands.Const (consts.Gep source s is))
  HasBytes m t (consts.Array' _ items) = HaveBytes m items
  HasBytes m t (consts.Struct' _ fields) = IsSized m t × HaveBytes m fields
  HasBytes m t _ = Unit {0}

  pub HaveBytes : Module → {n : _} → Row_of-TypedConst n → Type 0
  HaveBytes m end_of-TypedConst = Unit {0}
  HaveBytes m (more_of-TypedConst t c cs) = (FillsType m t c × HasBytes m t c) × HaveBytes m cs

-- an element or a field
abbrev pub IsPart : Module → TypedConst → Type 0
IsPart m c = FillsType m c.ty c.value × HasBytes m c.ty c.value

-- the fields after those that end at a place
abbrev pub fields_from : Module → ℕ → List TypedConst → List Byte
fields_from m at [] = []
fields_from m at (c ∷ cs) =
    gap (next_multiple_of at (align m.types.defs c.ty) - at) ++ initial_bytes m c.ty c.value
    ++ fields_from m (next_multiple_of at (align m.types.defs c.ty) + size m.types.defs c.ty) cs

-- a global variable
pub record IsPlaceable (m : Module) (g : GlobalVar) : Type 0 where
  pub sized : IsSized m g.ty
  pub filled : length (initial_bytes m g.ty g.init) ≡ size m.types.defs g.ty
  pub bytes : HasBytes m g.ty g.init
  pub aligned : IsAlign (aligned_as m.types.defs g.align g.ty)
