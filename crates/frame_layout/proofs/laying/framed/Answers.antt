use Rattle.std.proofs.Common.{All, sym, subst, arith}
use Rattle.frame_layout.specs.Homes.{IsLow}
use Rattle.frame_layout.proofs.Reach.{size_room, low_table}
use Rattle.frame_layout.proofs.laying.framed.Goals as goal

pub end-requires-clause-room : goal.end-requires-clause-room
end-requires-clause-room c =
    let room = size_room c.args.regs c.args.parts.now c.requires.parts c.requires.few (omega arith) in
    omega arith

pub next_multiple_of-bytes-requires-clause-fits : goal.next_multiple_of-bytes-requires-clause-fits
next_multiple_of-bytes-requires-clause-fits c =
    let room = size_room c.args.regs c.args.parts.now c.requires.parts c.requires.few (omega arith) in
    rw c.end.ensures room

pub new-requires : goal.new-requires
new-requires c =
    let ends = c.end.ensures in
    let below = c.if-bytes-gt-LARGEST_FRAME.false in
    let lower = c.next_multiple_of-bytes.ensures.lower_bound in
    subst (λ hs. All IsLow hs) (sym c.in_ok-homes.ensures) (low_table c.args.regs c.args.parts.now (omega arith))
