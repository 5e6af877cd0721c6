use Rattle.std.proofs.Common.{◌∙◌, List, length, slice_get, refl, ap}
use Rattle.std.specs.Option.{option_copied}
use Rattle.std.proofs.lemmas.Option.{slice_get_read}
use Rattle.ir_core.specs.declared.ty.TypeDef.{TypeDef}
use Rattle.ir_core.proofs.Chained.{known_end, end_told}
use Rattle.ir_core.proofs.defs.TypeDefs.end_of.Goals as goal

pub returns-in-Some-Ended : goal.returns-in-Some-Ended
returns-in-Some-Ended c =
    let chains = c.chains.result.now in
    let ended = c.in-Some-Ended in
    let chain = slice_get_read chains (length chains) c.in-Named.name.0 ended.field-0.now refl ended.ensures.lookup.3.0 ended.ensures.lookup.1 in
    let end = known_end chains c.args.self.now c.in-Named.name.0 ended.at ended.field-0-1 ended.field-0.now c.chains.ensures chain ended.field-0-is in
    end_told c.args.self.now c.args.t.now c.in-Named.name.0 ended.at ended.field-0-1 (option_copied c.get-in-Some-Ended.result) end c.in-Named.is
    (c.get-in-Some-Ended.ensures.value ∙ ap (λ (defs : List TypeDef). slice_get defs ended.at) c.self.view_is)
