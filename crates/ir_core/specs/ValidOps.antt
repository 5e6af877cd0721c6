-- The rules of types, constants and calls in a function.
use Rattle.std.specs.Prelude.{◌≡◌, ◌≢◌, ◌⊎◌, ℕ, List, [], ◌∷◌, map, codes, Some, None, All, AllPairs, Contains}
use Rattle.oi_base.specs.declared.ids.Place.{Place}
use Rattle.oi_base.specs.declared.words.Width.{Width}
use Rattle.oi_base.specs.declared.words.Width.TheVariants.{W1, W32}
use Rattle.ir_core.specs.declared.ty.TypeDef.{TypeDef}
use Rattle.ir_core.specs.declared.ty.IrType.{IrType, Void, Int, Ptr}
use Rattle.ir_core.specs.declared.module.SymId.{SymId}
use Rattle.ir_core.specs.declared.module.Declaration.{Declaration}
use Rattle.ir_core.specs.declared.module.Module.{Module}
use Rattle.ir_core.specs.declared.constant.Const.{Const}
use Rattle.ir_core.specs.declared.constant.Const as consts
use Rattle.ir_core.specs.declared.op.LocalId.{LocalId}
use Rattle.ir_core.specs.declared.op.Operand.{Operand}
use Rattle.ir_core.specs.declared.op.Operand.TheVariants as operands
use Rattle.ir_core.specs.declared.op.TypedOperand.{TypedOperand}
use Rattle.ir_core.specs.declared.op.SwitchCase.{SwitchCase}
use Rattle.ir_core.specs.declared.op.Op.{Op}
use Rattle.ir_core.specs.declared.op.Op.TheVariants.{Bin, Icmp, Select, Cast, Alloca, Load, Store, Gep, Phi, Call}
use Rattle.ir_core.specs.declared.op.End.{End}
use Rattle.ir_core.specs.declared.op.End.TheVariants.{Ret, Br, Cond, Switch, Unreachable}
use Rattle.ir_core.specs.declared.func.Instr.{Instr}
use Rattle.ir_core.specs.declared.func.Func.{Func}
use Rattle.ir_core.specs.declared.func.Param.{Param}
use Rattle.ir_core.specs.declared.parts.ResultType.{ResultType}
use Rattle.ir_core.specs.declared.parts.ResultType.TheVariants as results
use Rattle.ir_core.specs.Parts.{instrs, types_of}
use Rattle.ir_core.specs.Formed.{is_cast}
use Rattle.ir_core.specs.ValidConsts.{IsInteger, FitsType, WalkFrom, ConstWalk, IndicesFit, index_of, IsWord, meaning}
use Rattle.ir_core.specs.Operands.{Step, Does, Ends, operands_of, symbol_text, AtStep, AtInstr, AtEnd}

-- ---- types

-- what a register may hold
abbrev pub IsScalar : IrType → Type 0
IsScalar (Int w) = Unit {0}
IsScalar Ptr = Unit {0}
IsScalar _ = ⊥

abbrev pub IsResultType : IrType → Type 0
IsResultType t = (t ≡ Void) ⊎ IsScalar t

-- the type of an instruction's result
abbrev pub op_result : Op → IrType
op_result (Bin op t a b) = t
op_result (Icmp c t a b) = Int W1
op_result (Select c a b) = a.ty
op_result (Cast c a t) = t
op_result (Alloca t count align) = Ptr
op_result (Load t a align) = t
op_result (Store a p align) = Void
op_result (Gep t a is) = Ptr
op_result (Phi t es) = t
op_result (Call t f as') = t

-- the same, as code gives it
abbrev pub type_of : ResultType → IrType
type_of (results.Stated t) = t.now
type_of results.Bit = Int W1
type_of results.Pointer = Ptr
type_of results.Void = Void

-- a parameter or a register of the name has the type
abbrev pub LocalHasType : Func → LocalId → IrType → Type 0
LocalHasType f x t =
    ((q : Param) × Contains f.params q × (q.name ≡ x) × (q.ty ≡ t))
    ⊎ ((i : Instr) × Contains (instrs f) i × (i.result ≡ Some x) × (op_result i.op ≡ t))

-- a constant may stand with a type, but for the range of its numbers, `true`, `false` and `null`
abbrev pub ConstAgrees : List TypeDef → Const → IrType → Type 0
ConstAgrees defs (consts.Int n) t = IsInteger t
ConstAgrees defs (consts.Address s) t = t ≡ Ptr
ConstAgrees defs (consts.Gep source s is) t = (t ≡ Ptr) × ConstWalk defs source is
ConstAgrees defs _ t = Unit {0}

abbrev pub ValueAgrees : List TypeDef → Func → Operand → IrType → Type 0
ValueAgrees defs f (operands.Local x) t = LocalHasType f x t
ValueAgrees defs f (operands.Const c) t = ConstAgrees defs c t

abbrev pub OperandAgrees : List TypeDef → Func → TypedOperand → Type 0
OperandAgrees defs f a = IsScalar a.ty × ValueAgrees defs f a.value a.ty

abbrev pub OpAgrees : List TypeDef → Op → Type 0
OpAgrees defs (Bin op t a b) = IsInteger t
OpAgrees defs (Icmp c t a b) = IsScalar t
OpAgrees defs (Select c a b) = (c.ty ≡ Int W1) × (a.ty ≡ b.ty)
OpAgrees defs (Cast c a t) = (from to : Width) × (a.ty ≡ Int from) × (t ≡ Int to) × is_cast c from to
OpAgrees defs (Alloca t None align) = Unit {0}
OpAgrees defs (Alloca t (Some n) align) = IsInteger n.ty
OpAgrees defs (Load t a align) = IsScalar t × (a.ty ≡ Ptr)
OpAgrees defs (Store a p align) = p.ty ≡ Ptr
OpAgrees defs (Gep t a is) = (a.ty ≡ Ptr) × WalkFrom defs t (map index_of is)
OpAgrees defs (Phi t es) = IsScalar t
OpAgrees defs (Call t f as') = IsResultType t

abbrev pub EndAgrees : Func → End → Type 0
EndAgrees f (Ret None) = f.result ≡ Void
EndAgrees f (Ret (Some a)) = a.ty ≡ f.result
EndAgrees f (Br b) = Unit {0}
EndAgrees f (Cond c t e) = c.ty ≡ Int W1
EndAgrees f (Switch a other cases) = IsInteger a.ty × All (λ (c : SwitchCase). c.value.ty ≡ a.ty) cases
EndAgrees f Unreachable = Unit {0}

abbrev pub DoesAgree : List TypeDef → Func → Step → Type 0
DoesAgree defs f (Does i) = OpAgrees defs i.op
DoesAgree defs f (Ends b) = EndAgrees f b.end

abbrev pub StepAgrees : List TypeDef → Func → Step → Type 0
StepAgrees defs f s = All (OperandAgrees defs f) (operands_of s) × DoesAgree defs f s

-- a function's own types: its result and its parameters
abbrev pub HasGoodTypes : Func → Type 0
HasGoodTypes f = IsResultType f.result × All (λ (q : Param). IsScalar q.ty) f.params

-- Rule 13. Operand and result types agree with the operation. Registers, parameters, results and all operands have
-- `i1`, `i8`, `i16`, `i32` or `ptr`. `zext` and `sext` widen, `trunc` narrows. Addresses are `ptr`, conditions `i1`. The
-- later indices of a `getelementptr` walk into arrays by any integer and into structs by a constant `i32` that is a field's
-- number. A `ret` has the function's result type.
abbrev pub BreaksTypes : Module → Func → Place → Type 0
BreaksTypes m f p = ((f.place ≡ p) × (HasGoodTypes f → ⊥)) ⊎ AtStep f p (λ s. StepAgrees m.types.defs f s → ⊥)

-- ---- constants

abbrev pub ConstFits : Const → IrType → Type 0
ConstFits (consts.Int n) t = FitsType t n
ConstFits (consts.Bool b) t = t ≡ Int W1
ConstFits consts.Null t = t ≡ Ptr
ConstFits (consts.Gep source s is) t = IndicesFit is
ConstFits _ t = Unit {0}

abbrev pub OperandFits : TypedOperand → Type 0
OperandFits a = of_value a.value
  where
    of_value : Operand → Type 0
    of_value (operands.Local x) = Unit {0}
    of_value (operands.Const c) = ConstFits c a.ty

-- the count of an alloca is no operand
abbrev pub CountFits : Step → Type 0
CountFits (Ends b) = Unit {0}
CountFits (Does i) = of_op i.op
  where
    of_op : Op → Type 0
    of_op (Alloca t (Some n) align) = FitsType n.ty n.count
    of_op _ = Unit {0}

-- Rule 14. An integer constant of width w lies in -2^(w-1) to 2^w - 1; `true` and `false` are `i1`; `null` is `ptr`.
abbrev pub BreaksConstants : Func → Place → Type 0
BreaksConstants f p = AtStep f p (λ s. All OperandFits (operands_of s) × CountFits s → ⊥)

-- ---- calls

-- the module defines a function of the name, with this result and these parameters
abbrev pub IsDefinedAs : Module → SymId → IrType → List IrType → Type 0
IsDefinedAs m s t ts = (f : Func) × Contains m.funcs f × (f.name ≡ s) × (f.result ≡ t) × (map (λ (q : Param). q.ty) f.params ≡ ts)

-- `i32 @putchar(i32)`, `i32 @getchar()` and `void @exit(i32)`
abbrev pub IsExternal : List ℕ → IrType → List IrType → Type 0
IsExternal name t ts =
    ((name ≡ codes "putchar") × (t ≡ Int W32) × (ts ≡ Int W32 ∷ []))
    ⊎ (((name ≡ codes "getchar") × (t ≡ Int W32) × (ts ≡ [])) ⊎ ((name ≡ codes "exit") × (t ≡ Void) × (ts ≡ Int W32 ∷ [])))

abbrev pub IsDeclaredAs : Module → SymId → IrType → List IrType → Type 0
IsDeclaredAs m s t ts = (d : Declaration) × Contains m.declared d × (d.name ≡ s) × IsExternal (symbol_text m s) t ts

abbrev pub CallsWell : Module → Op → Type 0
CallsWell m (Call t s as') = IsDefinedAs m s t (types_of as') ⊎ IsDeclaredAs m s t (types_of as')
CallsWell m _ = Unit {0}

-- Rule 15. A call names a function that the module defines, or a declared `putchar`, `getchar` or `exit`, with its
-- argument and result types.
abbrev pub BreaksCalls : Module → Func → Place → Type 0
BreaksCalls m f p = AtInstr f p (λ i. CallsWell m i.op → ⊥)

-- ---- switches

abbrev pub IsCaseWord : List TypeDef → SwitchCase → Type 0
IsCaseWord defs c = (a : ℕ) × (meaning defs c.value.ty c.value.value ≡ IsWord a)

abbrev pub HasGoodCases : List TypeDef → End → Type 0
HasGoodCases defs (Switch a other cases) =
    All (IsCaseWord defs) cases × AllPairs (λ (c d : SwitchCase). meaning defs c.value.ty c.value.value ≢ meaning defs d.value.ty d.value.value) cases
HasGoodCases defs _ = Unit {0}

-- Rule 17. The cases of a switch are different words.
abbrev pub BreaksCases : Module → Func → Place → Type 0
BreaksCases m f p = AtEnd f p (λ b. HasGoodCases m.types.defs b.end → ⊥)
