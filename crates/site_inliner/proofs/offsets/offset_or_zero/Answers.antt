use Rattle.std.proofs.Common.{sym, ap, length, arith}
use Rattle.site_inliner.proofs.PathLaws.{no_field}
use Rattle.site_inliner.proofs.offsets.offset_or_zero.Goals as goal

pub returns-else-number-fields : goal.returns-else-number-fields
returns-else-number-fields c =
    let same = ap length c.fields.ensures in
    let past = c.if-number-fields.false in
    sym (no_field c.args.m.now.types.defs c.args.at.now c.args.number (omega (arith, same, past)))
