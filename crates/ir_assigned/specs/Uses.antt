-- The uses of registers in a function, in text order.
use Rattle.std.specs.Prelude.{ℕ, ◌+◌, List, [], ◌∷◌, ◌++◌, length, Option, Some, None, slice_get}
use Rattle.std.specs.List.{flat_map}
use Rattle.oi_base.specs.declared.ids.Place.{Place}
use Rattle.ir_core.specs.declared.op.LocalId.{LocalId}
use Rattle.ir_core.specs.declared.op.Operand.{Operand}
use Rattle.ir_core.specs.declared.op.Operand.TheVariants as operands
use Rattle.ir_core.specs.declared.op.Pair.{Pair}
use Rattle.ir_core.specs.declared.op.Op.{Op}
use Rattle.ir_core.specs.declared.op.Op.TheVariants.{Phi}
use Rattle.ir_core.specs.declared.func.Instr.{Instr}
use Rattle.ir_core.specs.declared.func.Block.{Block}
use Rattle.ir_core.specs.Parts.{op_values, end_values}
use Rattle.ir_assigned.specs.declared.uses.Reader.{Reader}
use Rattle.ir_assigned.specs.declared.uses.Use.{Use}
use Rattle.ir_assigned.specs.Names.{found}

abbrev pub use_at : Reader → LocalId → Use
use_at r x = record { block = r.block; at = r.at; place = r.place; local = x }

abbrev pub uses_of : Reader → Operand → List Use
uses_of r (operands.Local x) = use_at r x ∷ []
uses_of r (operands.Const c) = []

abbrev pub uses_in : Reader → List Operand → List Use
uses_in r vs = flat_map (uses_of r) vs

-- the reader at the end of block b
abbrev pub at_end : ℕ → Block → Place → Reader
at_end b k p = record { block = b; at = length k.code; place = p }

-- an instruction that is no phi reads its values where it stands
abbrev pub op_uses : Reader → Op → List Use
op_uses r (Phi t es) = []
op_uses r op = uses_in r (op_values op)

module _ (labels : List (Option ℕ)) (blocks : List Block) where
  -- an entry's value is read at the end of the entry's block
  abbrev pub entry_uses : Place → Pair → List Use
  entry_uses p e = of_label (found labels e.from.0)
    where
      of_block : ℕ → Option Block → List Use
      of_block b None = []
      of_block b (Some k) = uses_of (at_end b k p) e.value

      of_label : Option ℕ → List Use
      of_label None = []
      of_label (Some b) = of_block b (slice_get blocks b)

  abbrev pub phi_uses : Place → Op → List Use
  phi_uses p (Phi t es) = flat_map (entry_uses p) es
  phi_uses p _ = []

  abbrev pub instr_uses : ℕ → ℕ → Instr → List Use
  instr_uses b n i = op_uses (record { block = b; at = n; place = i.place }) i.op ++ phi_uses i.place i.op

  abbrev pub code_uses : ℕ → ℕ → List Instr → List Use
  code_uses b n [] = []
  code_uses b n (i ∷ is) = instr_uses b n i ++ code_uses b (n + 1) is

  abbrev pub block_uses : ℕ → Block → List Use
  block_uses b k = code_uses b 0 k.code ++ uses_in (at_end b k k.end_place) (end_values k.end)

  abbrev pub blocks_uses : ℕ → List Block → List Use
  blocks_uses b [] = []
  blocks_uses b (k ∷ ks) = block_uses b k ++ blocks_uses (b + 1) ks

  abbrev pub all_uses : List Use
  all_uses = blocks_uses 0 blocks
