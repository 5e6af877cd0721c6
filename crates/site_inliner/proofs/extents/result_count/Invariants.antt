use Rattle.std.proofs.Common.{◌≡◌, ◌+◌, drop, length}
use Rattle.std.specs.List.{filter_map}
use Rattle.ir_core.specs.declared.func.Instr.{Instr}
use Rattle.ir_core.specs.Plain.{results}
use Rattle.site_inliner.proofs.extents.result_count.Given as goal

abbrev pub invariant-loop-instr : goal.invariant-loop-instr
invariant-loop-instr l = l.count + length (filter_map (λ (i : Instr). i.result) (drop l.instr-index l.b.code)) ≡ length (results l.b)
