use Rattle.std.proofs.Common.{◌≡◌, ◌%◌, ◌*◌, ◌^◌, ◌<◌, ◌∙◌, ap, arith}
use Rattle.std.proofs.lemmas.Int.{to_z-of_z}
use Rattle.std.proofs.lemmas.Nat.{pow_below}
use Rattle.std.specs.Int.{w32, cast_unsigned}
use Rattle.rv_isa.proofs.LowBits.{low_bits_is}
use Rattle.rv_isa.proofs.fields.low_bits.Goals as goal

pub returns : goal.returns
returns c =
    let e = low_bits_is c.args.count c.args.number c.requires c.ranges.number in
    let p : 2 ^ c.args.count < 2 ^ 32 = pow_below c.args.count 32 c.requires in
    let q : 1 * 2 ^ c.args.count % 4294967296 ≡ 2 ^ c.args.count = omega arith in
    let b = to_z-of_z w32 c.args.number c.ranges.number in
    let r : c.cast_unsigned.result ≡ cast_unsigned w32 c.args.number = c.cast_unsigned.ensures ∙ ap (cast_unsigned w32) b in
    rw (q, r) e
