use Rattle.std.proofs.Common.{subst}
use Rattle.std.specs.List.{flat_map}
use Rattle.ir_core.specs.Formed.{used_at_end}
use Rattle.local_passes.specs.DropDead.{used_by_act}
use Rattle.local_passes.specs.NeedTables.{Marks}
use Rattle.local_passes.proofs.NeedMarks.{marks_more}
use Rattle.local_passes.proofs.acts.mark_block.Goals as goal

pub returns : goal.returns
returns c =
    let k = c.args.block.now in
    marks_more c.args.needs.now c.mark_code.new.needs c.mark_end.new.needs (flat_map used_by_act k.code) (used_at_end k.end) (subst (λ is. Marks c.args.needs.now c.mark_code.new.needs (flat_map used_by_act is)) c.as_slice.ensures c.in_ok-mark_code.ensures) c.in_ok-mark_end.ensures
