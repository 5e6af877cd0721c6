use Rattle.std.proofs.Common.{length, refl, sym}
use Rattle.std.proofs.lemmas.Option.{slice_get_read}
use Rattle.ir_core.proofs.Chained.{last_definition, one_before, known_end}
use Rattle.ir_core.proofs.chains.chain_of.Goals as goal

pub returns-in_default-next_name : goal.returns-in_default-next_name
returns-in_default-next_name c =
    let there = slice_get_read c.args.defs.now (length c.args.defs.now) c.in-Some.at c.in-Some-get.def.now refl c.in-Some-get.ensures.lookup.3.0 c.in-Some-get.ensures.lookup.1 in
    last_definition c.args.table.now c.args.defs.now c.args.x c.in-Some.at c.in-Some-get.def.now c.requires.positions (sym c.in-Some.ensures) there c.in_default-next_name.ensures.none

pub returns-in-Some-Ended : goal.returns-in-Some-Ended
returns-in-Some-Ended c =
    let there = slice_get_read c.args.defs.now (length c.args.defs.now) c.in-Some.at c.in-Some-get.def.now refl c.in-Some-get.ensures.lookup.3.0 c.in-Some-get.ensures.lookup.1 in
    let chain = slice_get_read c.args.chains.now (length c.args.chains.now) c.in-Some-next_name.next c.in-Some-Ended.field-0.now refl c.in-Some-Ended.ensures.lookup.3.0 c.in-Some-Ended.ensures.lookup.1 in
    let end = known_end c.args.chains.now c.args.defs.now c.in-Some-next_name.next c.in-Some-Ended.end c.in-Some-Ended.names c.in-Some-Ended.field-0.now c.requires.right chain c.in-Some-Ended.field-0-is in
    one_before c.args.table.now c.args.defs.now c.args.x c.in-Some.at c.in-Some-get.def.now c.requires.positions (sym c.in-Some.ensures) there c.in-Some-next_name.next c.in-Some-Ended.end c.in-Some-Ended.names c.in-Some-next_name.ensures.some end c.if-names-defs.true
