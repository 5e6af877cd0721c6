use Rattle.std.proofs.Common.{arith}
use Rattle.inline_certificate.proofs.NodeLines.{is_split, split_needs_words, split_needs_two}
use Rattle.inline_certificate.proofs.lines.split.Goals as goal

pub returns-in_default : goal.returns-in_default
returns-in_default c = let told = rw c.in_default.is at c.in_ok-funcs.ensures in split_needs_words c.args.rest.now told

pub returns-then-len-lt2 : goal.returns-then-len-lt2
returns-then-len-lt2 c = let told = rw c.in-Some.is at c.in_ok-funcs.ensures in split_needs_two c.args.rest.now c.in-Some.funcs told (omega arith)

pub returns : goal.returns
returns c = let told = rw c.in-Some.is at c.in_ok-funcs.ensures in is_split c.args.rest.now c.in-Some.funcs c.in_ok-new.field-0 told c.in_ok-new.ensures (omega arith)
