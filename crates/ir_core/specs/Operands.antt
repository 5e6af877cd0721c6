-- What stands at which place in a module: instructions and terminators, their operands with the operands' types.
use Rattle.std.specs.Prelude.{◌≡◌, ℕ, Bool, ◌&&◌, ◌||◌, nat_lt, nat_le, nat_eq, List, [], ◌∷◌, ◌++◌, map, unwrap_or, slice_get, Contains}
use Rattle.std.specs.List.{flat_map}
use Rattle.oi_base.specs.declared.ids.Place.{Place}
use Rattle.ir_core.specs.declared.ty.IrType.{IrType}
use Rattle.ir_core.specs.declared.module.SymId.{SymId}
use Rattle.ir_core.specs.declared.module.GlobalVar.{GlobalVar}
use Rattle.ir_core.specs.declared.module.Module.{Module}
use Rattle.ir_core.specs.declared.op.LocalId.{LocalId}
use Rattle.ir_core.specs.declared.op.Operand.{Operand}
use Rattle.ir_core.specs.declared.op.TypedOperand.{TypedOperand}
use Rattle.ir_core.specs.declared.op.Pair.{Pair}
use Rattle.ir_core.specs.declared.op.SwitchCase.{SwitchCase}
use Rattle.ir_core.specs.declared.op.Op.{Op}
use Rattle.ir_core.specs.declared.op.Op.TheVariants.{Bin, Icmp, Select, Cast, Alloca, Load, Store, Gep, Phi, Call}
use Rattle.ir_core.specs.declared.op.End.{End}
use Rattle.ir_core.specs.declared.op.End.TheVariants.{Ret, Br, Cond, Switch, Unreachable}
use Rattle.ir_core.specs.declared.func.Instr.{Instr}
use Rattle.ir_core.specs.declared.func.Block.{Block}
use Rattle.ir_core.specs.declared.func.Func.{Func}
use Rattle.ir_core.specs.declared.parts.TypedRef.{TypedRef}
use Rattle.ir_core.specs.Parts.{listed, op_labels, targets, instrs}

-- ---- places

-- where a text begins
abbrev pub start : Place
start = record { line = 1; column = 1 }

-- a place is the other or stands before it
abbrev pub is_up_to : Place → Place → Bool
is_up_to p q = nat_lt p.line q.line || (nat_eq p.line q.line && nat_le p.column q.column)

-- the bytes of a name after `@`
abbrev pub symbol_text : Module → SymId → List ℕ
symbol_text m s = unwrap_or (slice_get m.symbols s.0) []

-- ---- instructions and terminators

-- an instruction, or a block's terminator
pub data Step : Type 0 where
  Does : (instr : Instr) → Step
  Ends : (block : Block) → Step

abbrev pub block_steps : Block → List Step
block_steps b = map (λ (i : Instr). Does i) b.code ++ Ends b ∷ []

-- in text order
abbrev pub steps : Func → List Step
steps f = flat_map block_steps f.blocks

abbrev pub place_of : Step → Place
place_of (Does i) = i.place
place_of (Ends b) = b.end_place

-- ---- operands with their types

abbrev pub typed : IrType → Operand → TypedOperand
typed t v = record { ty = t; value = v }

-- what a borrowed operand with its type is
abbrev pub seen : TypedRef → TypedOperand
seen a = typed a.ty.now a.value.now

abbrev pub op_operands : Op → List TypedOperand
op_operands (Bin op t a b) = typed t a ∷ typed t b ∷ []
op_operands (Icmp c t a b) = typed t a ∷ typed t b ∷ []
op_operands (Select c a b) = c ∷ a ∷ b ∷ []
op_operands (Cast c a t) = a ∷ []
op_operands (Alloca t count align) = []
op_operands (Load t a align) = a ∷ []
op_operands (Store a p align) = a ∷ p ∷ []
op_operands (Gep t a is) = a ∷ is
op_operands (Phi t es) = map (λ (e : Pair). typed t e.value) es
op_operands (Call t f as') = as'

abbrev pub end_operands : End → List TypedOperand
end_operands (Ret a) = listed a
end_operands (Br b) = []
end_operands (Cond c t f) = c ∷ []
end_operands (Switch a other cases) = a ∷ map (λ (c : SwitchCase). c.value) cases
end_operands Unreachable = []

abbrev pub operands_of : Step → List TypedOperand
operands_of (Does i) = op_operands i.op
operands_of (Ends b) = end_operands b.end

-- the labels of a phi, or of a terminator
abbrev pub labels_of : Step → List LocalId
labels_of (Does i) = op_labels i.op
labels_of (Ends b) = targets b.end

-- ---- what is true of something at a place

abbrev pub AtStep : Func → Place → (Step → Type 0) → Type 0
AtStep f p Is = (s : Step) × Contains (steps f) s × (place_of s ≡ p) × Is s

abbrev pub AtInstr : Func → Place → (Instr → Type 0) → Type 0
AtInstr f p Is = (i : Instr) × Contains (instrs f) i × (i.place ≡ p) × Is i

abbrev pub AtEnd : Func → Place → (Block → Type 0) → Type 0
AtEnd f p Is = (b : Block) × Contains f.blocks b × (b.end_place ≡ p) × Is b

abbrev pub AtGlobal : Module → Place → (GlobalVar → Type 0) → Type 0
AtGlobal m p Is = (g : GlobalVar) × Contains m.globals g × (g.place ≡ p) × Is g
