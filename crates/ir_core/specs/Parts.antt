-- The parts of a module: the types, values, labels, symbols and names that stand in it.
use Rattle.std.specs.Prelude.{◌==◌, Bool, List, [], ◌∷◌, ◌++◌, map, filter, Option, Some, None}
use Rattle.std.specs.List.{flat_map, list_any}
use Rattle.ir_core.specs.declared.ty.TypeName.{TypeName}
use Rattle.ir_core.specs.declared.ty.IrType.{IrType, Void, Int, Ptr, Array', Struct', Named, Row_of-IrType, end_of-IrType, more_of-IrType}
use Rattle.ir_core.specs.declared.module.SymId.{SymId}
use Rattle.ir_core.specs.declared.module.GlobalVar.{GlobalVar}
use Rattle.ir_core.specs.declared.module.Declaration.{Declaration}
use Rattle.ir_core.specs.declared.module.Module.{Module}
use Rattle.ir_core.specs.declared.ty.TypeDef.{TypeDef}
use Rattle.ir_core.specs.declared.constant.Const.{Const, Row_of-TypedConst, end_of-TypedConst, more_of-TypedConst}
use Rattle.ir_core.specs.declared.constant.Const as consts
use Rattle.ir_core.specs.declared.constant.TypedCount.{TypedCount}
use Rattle.ir_core.specs.declared.op.LocalId.{LocalId}
use Rattle.ir_core.specs.declared.op.Operand.{Operand}
use Rattle.ir_core.specs.declared.op.Operand.TheVariants as operands
use Rattle.ir_core.specs.declared.op.TypedOperand.{TypedOperand}
use Rattle.ir_core.specs.declared.op.Pair.{Pair}
use Rattle.ir_core.specs.declared.op.SwitchCase.{SwitchCase}
use Rattle.ir_core.specs.declared.op.Op.{Op}
use Rattle.ir_core.specs.declared.op.Op.TheVariants.{Bin, Icmp, Select, Cast, Alloca, Load, Store, Gep, Phi, Call}
use Rattle.ir_core.specs.declared.op.End.{End}
use Rattle.ir_core.specs.declared.op.End.TheVariants.{Ret, Br, Cond, Switch, Unreachable}
use Rattle.ir_core.specs.declared.func.Instr.{Instr}
use Rattle.ir_core.specs.declared.func.Block.{Block}
use Rattle.ir_core.specs.declared.func.Func.{Func}
use Rattle.ir_core.specs.declared.func.Param.{Param}

-- one or none
abbrev pub listed : {A : Type 0} → Option A → List A
listed None = []
listed (Some a) = a ∷ []

-- the type names in a type
abbrev mutual
  pub names_in_type : IrType → List TypeName
  names_in_type Void = []
  names_in_type (Int w) = []
  names_in_type Ptr = []
  names_in_type (Array' n _ items) = names_in_types items
  names_in_type (Struct' _ fields) = names_in_types fields
  names_in_type (Named x) = x ∷ []

  pub names_in_types : {m : _} → Row_of-IrType m → List TypeName
  names_in_types end_of-IrType = []
  names_in_types (more_of-IrType t ts) = names_in_type t ++ names_in_types ts

-- ---- instructions and terminators: the types that they write, their values, the labels of their phi or their targets

abbrev pub values_of : List TypedOperand → List Operand
values_of as' = map (λ (a : TypedOperand). a.value) as'

abbrev pub types_of : List TypedOperand → List IrType
types_of as' = map (λ (a : TypedOperand). a.ty) as'

abbrev pub op_values : Op → List Operand
op_values (Bin op t a b) = a ∷ b ∷ []
op_values (Icmp c t a b) = a ∷ b ∷ []
op_values (Select c a b) = c.value ∷ a.value ∷ b.value ∷ []
op_values (Cast c a t) = a.value ∷ []
op_values (Alloca t count align) = []
op_values (Load t a align) = a.value ∷ []
op_values (Store a p align) = a.value ∷ p.value ∷ []
op_values (Gep t a is) = a.value ∷ values_of is
op_values (Phi t es) = map (λ (e : Pair). e.value) es
op_values (Call t f as') = values_of as'

abbrev pub count_type : Option TypedCount → List IrType
count_type None = []
count_type (Some n) = n.ty ∷ []

abbrev pub op_types : Op → List IrType
op_types (Bin op t a b) = t ∷ []
op_types (Icmp c t a b) = t ∷ []
op_types (Select c a b) = c.ty ∷ a.ty ∷ b.ty ∷ []
op_types (Cast c a t) = a.ty ∷ t ∷ []
op_types (Alloca t count align) = t ∷ count_type count
op_types (Load t a align) = t ∷ a.ty ∷ []
op_types (Store a p align) = a.ty ∷ p.ty ∷ []
op_types (Gep t a is) = t ∷ a.ty ∷ types_of is
op_types (Phi t es) = t ∷ []
op_types (Call t f as') = t ∷ types_of as'

abbrev pub op_labels : Op → List LocalId
op_labels (Phi t es) = map (λ (e : Pair). e.from) es
op_labels _ = []

-- the function that a call names
abbrev pub op_callee : Op → List SymId
op_callee (Call t f as') = f ∷ []
op_callee _ = []

abbrev pub end_values : End → List Operand
end_values (Ret None) = []
end_values (Ret (Some a)) = a.value ∷ []
end_values (Br b) = []
end_values (Cond c t f) = c.value ∷ []
end_values (Switch a other cases) = a.value ∷ map (λ (c : SwitchCase). c.value.value) cases
end_values Unreachable = []

abbrev pub end_types : End → List IrType
end_types (Ret None) = []
end_types (Ret (Some a)) = a.ty ∷ []
end_types (Br b) = []
end_types (Cond c t f) = c.ty ∷ []
end_types (Switch a other cases) = a.ty ∷ map (λ (c : SwitchCase). c.value.ty) cases
end_types Unreachable = []

-- the blocks to which control may go
abbrev pub targets : End → List LocalId
targets (Ret a) = []
targets (Br b) = b ∷ []
targets (Cond c t f) = t ∷ f ∷ []
targets (Switch a other cases) = other ∷ map (λ (c : SwitchCase). c.to) cases
targets Unreachable = []

-- ---- functions

abbrev pub instrs : Func → List Instr
instrs f = flat_map (λ (b : Block). b.code) f.blocks

abbrev pub block_values : Block → List Operand
block_values b = flat_map (λ (i : Instr). op_values i.op) b.code ++ end_values b.end

abbrev pub block_types : Block → List IrType
block_types b = flat_map (λ (i : Instr). op_types i.op) b.code ++ end_types b.end

abbrev pub func_values : Func → List Operand
func_values f = flat_map block_values f.blocks

abbrev pub func_types : Func → List IrType
func_types f = f.result ∷ map (λ (p : Param). p.ty) f.params ++ flat_map block_types f.blocks

abbrev pub operand_locals : Operand → List LocalId
operand_locals (operands.Local x) = x ∷ []
operand_locals (operands.Const c) = []

abbrev pub operand_consts : Operand → List Const
operand_consts (operands.Local x) = []
operand_consts (operands.Const c) = c ∷ []

abbrev pub instr_locals : Instr → List LocalId
instr_locals i = listed i.result ++ flat_map operand_locals (op_values i.op) ++ op_labels i.op

abbrev pub block_locals : Block → List LocalId
block_locals b = b.label ∷ flat_map instr_locals b.code ++ flat_map operand_locals (end_values b.end) ++ targets b.end

-- the parameters, registers and labels that stand in a function
abbrev pub func_locals : Func → List LocalId
func_locals f = map (λ (p : Param). p.name) f.params ++ flat_map block_locals f.blocks

-- ---- constants, with those that stand inside them

abbrev pub gep_types : IrType → List TypedCount → List IrType
gep_types t is = t ∷ map (λ (i : TypedCount). i.ty) is

abbrev mutual
  pub const_types : Const → List IrType
  const_types (consts.Gep t s is) = gep_types t is
  const_types (consts.Array' _ items) = consts_types items
  const_types (consts.Struct' _ fields) = consts_types fields
  const_types _ = []

  pub consts_types : {m : _} → Row_of-TypedConst m → List IrType
  consts_types end_of-TypedConst = []
  consts_types (more_of-TypedConst t c cs) = t ∷ const_types c ++ consts_types cs

abbrev mutual
  pub const_symbols : Const → List SymId
  const_symbols (consts.Address s) = s ∷ []
  const_symbols (consts.Gep t s is) = s ∷ []
  const_symbols (consts.Array' _ items) = consts_symbols items
  const_symbols (consts.Struct' _ fields) = consts_symbols fields
  const_symbols _ = []

  pub consts_symbols : {m : _} → Row_of-TypedConst m → List SymId
  consts_symbols end_of-TypedConst = []
  consts_symbols (more_of-TypedConst t c cs) = const_symbols c ++ consts_symbols cs

-- ---- modules

abbrev pub func_consts : Func → List Const
func_consts f = flat_map operand_consts (func_values f)

abbrev pub func_symbols : Func → List SymId
func_symbols f = f.name ∷ flat_map (λ (i : Instr). op_callee i.op) (instrs f) ++ flat_map const_symbols (func_consts f)

-- the symbols that stand in a module
abbrev pub module_symbols : Module → List SymId
module_symbols m =
    flat_map (λ (g : GlobalVar). g.name ∷ const_symbols g.init) m.globals ++ flat_map func_symbols m.funcs ++ map (λ (d : Declaration). d.name) m.declared

abbrev pub typed_consts : List Const → List IrType
typed_consts cs = flat_map const_types cs

-- the types that stand in a module
abbrev pub module_types : Module → List IrType
module_types m =
    map (λ (d : TypeDef). d.ty) m.types.defs ++ flat_map (λ (g : GlobalVar). g.ty ∷ const_types g.init) m.globals
    ++ flat_map (λ (f : Func). func_types f ++ typed_consts (func_consts f)) m.funcs

-- the type names that stand in a module
abbrev pub module_type_names : Module → List TypeName
module_type_names m = map (λ (d : TypeDef). d.name) m.types.defs ++ flat_map names_in_type (module_types m)

-- the calls of a function that the module defines
abbrev pub is_defined : Module → SymId → Bool
is_defined m s = list_any (λ (f : Func). f.name.0 == s.0) m.funcs

abbrev pub sites : Module → List SymId
sites m = filter (is_defined m) (flat_map (λ (f : Func). flat_map (λ (i : Instr). op_callee i.op) (instrs f)) m.funcs)
