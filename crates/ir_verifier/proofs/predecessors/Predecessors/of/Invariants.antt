use Rattle.std.proofs.Common.{◌≡◌, drop, fold}
use Rattle.ir_verifier.specs.PhiFaults.{with_block, sources_of}
use Rattle.ir_verifier.proofs.predecessors.Predecessors.of.Given as goal

abbrev pub invariant-loop-block : goal.invariant-loop-block
invariant-loop-block l = fold with_block l.predecessors (drop l.block-index l.f.blocks) ≡ sources_of l.f
