use Rattle.std.proofs.Common.{◌≡◌, ◌%◌, ◌*◌, ◌^◌, arith}
use Rattle.std.proofs.lemmas.Nat.{or_shifted, or_comm}
use Rattle.rv_isa.proofs.fields.with.Goals as goal

pub returns : goal.returns
returns c =
    let word = c.args.word in
    let field = c.args.field in
    let bit = c.args.bit in
    let fits : field * 2 ^ bit % 4294967296 ≡ field * 2 ^ bit = omega arith in
    rw (fits, or_comm word (field * 2 ^ bit), or_shifted field bit word c.requires.below) (omega arith)
