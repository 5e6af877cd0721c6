use Rattle.std.proofs.Common.{◌≡◌, ◌<◌, ℕ, Some}
use Rattle.ir_core.specs.declared.op.LocalId.{LocalId}
use Rattle.ir_core.specs.declared.func.Block.{Block}
use Rattle.ir_core.specs.ValidPaths.{IsBlockOf}
use Rattle.ir_assigned.specs.Names.{found, IsWriter}
use Rattle.ir_assigned.proofs.tests.differ.Given as goal

abbrev pub invariant-loop-b : goal.invariant-loop-b
invariant-loop-b l = record {
  labels : (b : ℕ) (k : Block) → b < l.b → IsBlockOf l.f b k → found l.labels.items k.label.0 ≡ Some b;
  registers : (b : ℕ) (k : Block) (at : ℕ) (x : LocalId) → b < l.b → IsBlockOf l.f b k → IsWriter k at x → found l.definitions.items x.0 ≡ Some (record { block = b; at = at });
}
