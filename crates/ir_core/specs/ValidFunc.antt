-- The rules of a function's names and of the positions of what stands in it.
use Rattle.std.specs.Prelude.{◌≡◌, ◌≢◌, ◌⊎◌, ℕ, ◌<◌, List, [], ◌∷◌, ◌++◌, map, Some, None, slice_get, Option, Contains}
use Rattle.std.specs.List.{flat_map}
use Rattle.oi_base.specs.declared.ids.Place.{Place}
use Rattle.ir_core.specs.declared.module.SymId.{SymId}
use Rattle.ir_core.specs.declared.module.Module.{Module}
use Rattle.ir_core.specs.declared.op.LocalId.{LocalId}
use Rattle.ir_core.specs.declared.op.Operand.{Operand}
use Rattle.ir_core.specs.declared.op.Operand.TheVariants as operands
use Rattle.ir_core.specs.declared.op.TypedOperand.{TypedOperand}
use Rattle.ir_core.specs.declared.op.Op.{Op}
use Rattle.ir_core.specs.declared.op.Op.TheVariants.{Alloca, Phi}
use Rattle.ir_core.specs.declared.func.Instr.{Instr}
use Rattle.ir_core.specs.declared.func.Block.{Block}
use Rattle.ir_core.specs.declared.func.Func.{Func}
use Rattle.ir_core.specs.declared.func.Param.{Param}
use Rattle.ir_core.specs.Parts.{instrs, targets, const_symbols}
use Rattle.ir_core.specs.ValidConsts.{IsVariable}
use Rattle.ir_core.specs.Operands.{Step, operands_of, labels_of, AtStep, AtEnd}

-- ---- names

-- a parameter, a register or a block: its name and its place
pub record LocalAt : Type 0 where
  pub name : LocalId
  pub place : Place

abbrev pub instr_local : Instr → List LocalAt
instr_local i = of_result i.result
  where
    of_result : Option LocalId → List LocalAt
    of_result None = []
    of_result (Some x) = record { name = x; place = i.place } ∷ []

abbrev pub block_locals_at : Block → List LocalAt
block_locals_at b = record { name = b.label; place = b.place } ∷ flat_map instr_local b.code

-- in text order
abbrev pub locals_at : Func → List LocalAt
locals_at f = map (λ (q : Param). record { name = q.name; place = f.place }) f.params ++ flat_map block_locals_at f.blocks

-- Rule 9. No two parameters, registers or blocks of a function have one name; the rule is broken at the second.
abbrev pub BreaksNames : Func → Place → Type 0
BreaksNames f p =
    (i j : ℕ) × (a b : LocalAt) × (i < j) × (slice_get (locals_at f) i ≡ Some a) × (slice_get (locals_at f) j ≡ Some b)
    × (a.name ≡ b.name) × (b.place ≡ p)

-- ---- references

abbrev pub IsParam : Func → LocalId → Type 0
IsParam f x = (q : Param) × Contains f.params q × (q.name ≡ x)

abbrev pub IsRegister : Func → LocalId → Type 0
IsRegister f x = (i : Instr) × Contains (instrs f) i × (i.result ≡ Some x)

abbrev pub IsLabel : Func → LocalId → Type 0
IsLabel f x = (b : Block) × Contains f.blocks b × (b.label ≡ x)

abbrev pub IsKnown : Module → Func → Operand → Type 0
IsKnown m f (operands.Local x) = IsParam f x ⊎ IsRegister f x
IsKnown m f (operands.Const c) = (s : SymId) → Contains (const_symbols c) s → IsVariable m s

abbrev pub RefersWrongly : Module → Func → Step → Type 0
RefersWrongly m f s =
    ((a : TypedOperand) × Contains (operands_of s) a × (IsKnown m f a.value → ⊥))
    ⊎ ((x : LocalId) × Contains (labels_of s) x × (IsLabel f x → ⊥))

-- Rule 10. Each value after `%` is a parameter or a register, each label a block, and each value after `@` a global variable.
abbrev pub BreaksReferences : Module → Func → Place → Type 0
BreaksReferences m f p = AtStep f p (RefersWrongly m f)

-- ---- positions

abbrev pub IsPhi : Op → Type 0
IsPhi (Phi t es) = Unit {0}
IsPhi _ = ⊥

abbrev pub IsAlloca : Op → Type 0
IsAlloca (Alloca t count align) = Unit {0}
IsAlloca _ = ⊥

-- something else stands before a phi of its block
abbrev pub IsLatePhi : Block → ℕ → Instr → Type 0
IsLatePhi b n i = IsPhi i.op × ((k : ℕ) × (j : Instr) × (k < n) × (slice_get b.code k ≡ Some j) × (IsPhi j.op → ⊥))

-- Rule 11. Phis stand first in their block, and allocas stand in the entry block.
abbrev pub BreaksPositions : Func → Place → Type 0
BreaksPositions f p =
    (at n : ℕ) × (b : Block) × (i : Instr) × (slice_get f.blocks at ≡ Some b) × (slice_get b.code n ≡ Some i) × (i.place ≡ p)
    × (IsLatePhi b n i ⊎ (IsAlloca i.op × (at ≢ 0)))

-- Rule 12. The entry block has no predecessor; the rule is broken at the terminator that names it.
abbrev pub BreaksEntry : Func → Place → Type 0
BreaksEntry f p = (entry : Block) × (slice_get f.blocks 0 ≡ Some entry) × AtEnd f p (λ b. Contains (targets b.end) entry.label)
