use Rattle.std.proofs.Common.{arith}
use Rattle.frame_layout.specs.declared.parts.Need.TheVariants.{Slot}
use Rattle.frame_layout.specs.Parts.{end_of_all}
use Rattle.frame_layout.proofs.Ends.{next_ends}
use Rattle.frame_layout.proofs.homes.homes.Goals as goal

pub begin-requires-clause-room : goal.begin-requires-clause-room
begin-requires-clause-room c =
    let h = next_ends c.loop-part.end (end_of_all 4 c.args.parts.now) c.args.parts.now c.loop-part.part-index (record { reg = record { 0 = 0 }; need = Slot }) c.loop-part-test.true c.loop-part.invariant.0 in
    let low = c.requires.low in
    omega arith

pub overflow_cast-begin : goal.overflow_cast-begin
overflow_cast-begin c =
    let h = next_ends c.loop-part.end (end_of_all 4 c.args.parts.now) c.args.parts.now c.loop-part.part-index (record { reg = record { 0 = 0 }; need = Slot }) c.loop-part-test.true c.loop-part.invariant.0 in
    let low = c.requires.low in
    omega arith

pub end-end-requires-clause-room : goal.end-end-requires-clause-room
end-end-requires-clause-room c =
    let h = next_ends c.loop-part.end (end_of_all 4 c.args.parts.now) c.args.parts.now c.loop-part.part-index (record { reg = record { 0 = 0 }; need = Slot }) c.loop-part-test.true c.loop-part.invariant.0 in
    let low = c.requires.low in
    omega arith
