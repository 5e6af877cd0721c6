-- The rules of control flow: phis and their predecessors, and definitions on every path to a use.
use Rattle.std.specs.Prelude.{◌≡◌, ◌⊎◌, ℕ, suc, ◌<◌, List, [], ◌∷◌, ◌++◌, length, Some, slice_get, Contains}
use Rattle.std.specs.List.{flat_map}
use Rattle.oi_base.specs.declared.ids.Place.{Place}
use Rattle.ir_core.specs.declared.ty.TypeDef.{TypeDef}
use Rattle.ir_core.specs.declared.ty.IrType.{IrType}
use Rattle.ir_core.specs.declared.module.Module.{Module}
use Rattle.ir_core.specs.declared.op.LocalId.{LocalId}
use Rattle.ir_core.specs.declared.op.Operand.TheVariants as operands
use Rattle.ir_core.specs.declared.op.Pair.{Pair}
use Rattle.ir_core.specs.declared.op.Op.TheVariants.{Phi}
use Rattle.ir_core.specs.declared.func.Instr.{Instr}
use Rattle.ir_core.specs.declared.func.Block.{Block}
use Rattle.ir_core.specs.declared.func.Func.{Func}
use Rattle.ir_core.specs.Parts.{targets, op_values, end_values, operand_locals}
use Rattle.ir_core.specs.ValidConsts.{meaning}
use Rattle.ir_core.specs.ValidFunc.{IsParam, IsPhi}

-- ---- phis

-- a block of the first label ends in a terminator that names the second
abbrev pub Precedes : Func → LocalId → LocalId → Type 0
Precedes f x y = (b : Block) × Contains f.blocks b × (b.label ≡ x) × Contains (targets b.end) y

-- a phi's blocks are exactly the predecessors, and two entries for one block have equal values
pub record HasGoodEntries (defs : List TypeDef) (f : Func) (own : LocalId) (t : IrType) (entries : List Pair) : Type 0 where
  pub only : (e : Pair) → Contains entries e → Precedes f e.from own
  pub each : (x : LocalId) → Precedes f x own → (e : Pair) × Contains entries e × (e.from ≡ x)
  pub equal : (e g : Pair) → Contains entries e → Contains entries g → e.from ≡ g.from → meaning defs t e.value ≡ meaning defs t g.value

-- Rule 16. A phi's blocks are exactly the predecessors; entries for one block have equal values: the same register, or
-- constants that are the same word of the type, null, the same global with the same offset, or poison.
abbrev pub BreaksPhis : Module → Func → Place → Type 0
BreaksPhis m f p =
    (b : Block) × (i : Instr) × (t : IrType) × (entries : _) × Contains f.blocks b × Contains b.code i × (i.place ≡ p)
    × (i.op ≡ Phi t entries) × (HasGoodEntries m.types.defs f b.label t entries → ⊥)

-- ---- paths

-- block b of the function
abbrev pub IsBlockOf : Func → ℕ → Block → Type 0
IsBlockOf f b k = slice_get f.blocks b ≡ Some k

abbrev pub IsSuccessor : Func → ℕ → ℕ → Type 0
IsSuccessor f a b = (k l : Block) × IsBlockOf f a k × IsBlockOf f b l × Contains (targets k.end) l.label

-- positions of blocks, the entry's first, each that of a successor of the one before
abbrev pub IsPathOf : Func → List ℕ → Type 0
IsPathOf f path =
    (slice_get path 0 ≡ Some 0) × ((n a b : ℕ) → slice_get path n ≡ Some a → slice_get path (suc n) ≡ Some b → IsSuccessor f a b)

-- one of the first n instructions of a block writes the register
abbrev pub Writes : Block → ℕ → LocalId → Type 0
Writes k n x = (j : ℕ) × (i : Instr) × (j < n) × (slice_get k.code j ≡ Some i) × (i.result ≡ Some x)

-- it is a parameter, or it is written before instruction n of block b or in a block before it on the path
abbrev pub IsAssigned : Func → List ℕ → ℕ → ℕ → LocalId → Type 0
IsAssigned f before b n x =
    IsParam f x
    ⊎ (((k : Block) × IsBlockOf f b k × Writes k n x)
    ⊎ ((a : ℕ) × (l : Block) × Contains before a × IsBlockOf f a l × Writes l (length l.code) x))

-- ---- uses: what stands at a place uses a register once the first n instructions of block b are done

-- an instruction that is no phi
abbrev pub IsUsedInCode : Func → ℕ → ℕ → LocalId → Place → Type 0
IsUsedInCode f b n x p =
    (k : Block) × (i : Instr) × IsBlockOf f b k × (slice_get k.code n ≡ Some i) × (i.place ≡ p) × (IsPhi i.op → ⊥)
    × Contains (flat_map operand_locals (op_values i.op)) x

abbrev pub IsUsedAtEnd : Func → ℕ → ℕ → LocalId → Place → Type 0
IsUsedAtEnd f b n x p =
    (k : Block) × IsBlockOf f b k × (n ≡ length k.code) × (k.end_place ≡ p) × Contains (flat_map operand_locals (end_values k.end)) x

-- a phi of another block or of this one uses it at the end of its entry's block
abbrev pub IsUsedByPhi : Func → ℕ → ℕ → LocalId → Place → Type 0
IsUsedByPhi f b n x p =
    (k l : Block) × (i : Instr) × (t : IrType) × (entries : _) × (e : Pair) × IsBlockOf f b k × (n ≡ length k.code) × Contains f.blocks l
    × Contains l.code i × (i.place ≡ p) × (i.op ≡ Phi t entries) × Contains entries e × (e.from ≡ k.label) × (e.value ≡ operands.Local x)

abbrev pub IsUse : Func → ℕ → ℕ → LocalId → Place → Type 0
IsUse f b n x p = IsUsedInCode f b n x p ⊎ (IsUsedAtEnd f b n x p ⊎ IsUsedByPhi f b n x p)

-- a path from the entry to a use on which the definition doesn't come first: the blocks before the last, and the last
abbrev pub IsUnassignedOn : Func → List ℕ → ℕ → LocalId → Place → Type 0
IsUnassignedOn f before b x p = (n : ℕ) × IsPathOf f (before ++ b ∷ []) × IsUse f b n x p × (IsAssigned f before b n x → ⊥)

-- Rule 18. On every path from the entry to a use, the register's definition comes first. A phi's value is used at the end
-- of its entry's block, and the rule is broken at the phi.
abbrev pub BreaksAssignment : Func → Place → Type 0
BreaksAssignment f p = (before : List ℕ) × (b : ℕ) × (x : LocalId) × IsUnassignedOn f before b x p
