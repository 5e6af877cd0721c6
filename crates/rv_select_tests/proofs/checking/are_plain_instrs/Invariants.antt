use Rattle.std.proofs.Common.{ℕ, ◌<◌}
use Rattle.std.specs.Prelude.{slice_index_or}
use Rattle.ir_core.specs.declared.flat.FlatInstr.{FlatInstr}
use Rattle.rv_select_tests.specs.Plain.{IsPlainInstr}
use Rattle.rv_select_tests.proofs.checking.are_plain_instrs.Given as goal

abbrev pub invariant-loop-i : goal.invariant-loop-i
invariant-loop-i l = (k : ℕ) (d : FlatInstr) → k < l.i-index → IsPlainInstr (slice_index_or l.code k d)
