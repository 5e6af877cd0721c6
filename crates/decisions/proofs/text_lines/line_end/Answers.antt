use Rattle.std.proofs.Common.{arith}
use Rattle.decisions.proofs.LineSplits.{end_is}
use Rattle.decisions.proofs.text_lines.line_end.Goals as goal

pub returns-then-at-bytes-clause-end : goal.returns-then-at-bytes-clause-end
returns-then-at-bytes-clause-end c = let h = end_is c.args.bytes.now in let k = c.place_of_byte-at.ensures.place in omega arith

pub returns-else-at-bytes-clause-end : goal.returns-else-at-bytes-clause-end
returns-else-at-bytes-clause-end c = let h = end_is c.args.bytes.now in let k = c.place_of_byte-at.ensures.place in omega arith
