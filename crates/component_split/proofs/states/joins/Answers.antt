use Rattle.std.proofs.Common.{Some, sym, ap, ◌∙◌}
use Rattle.component_split.specs.Graph.{joins}
use Rattle.component_split.proofs.Known.{label_is}
use Rattle.component_split.proofs.states.joins.Goals as goal

pub returns-in-Some-Keep : goal.returns-in-Some-Keep
returns-in-Some-Keep c = sym (ap joins (label_is c.args.p.now c.args.site _ c.get.ensures ∙ c.in-Some-Keep.is ∙ ap Some c.in-Some-Keep.field-0-is))

pub returns-in-Some-Inline : goal.returns-in-Some-Inline
returns-in-Some-Inline c = sym (ap joins (label_is c.args.p.now c.args.site _ c.get.ensures ∙ c.in-Some-Inline.is ∙ ap Some c.in-Some-Inline.field-0-is))

pub returns-in-None : goal.returns-in-None
returns-in-None c = sym (ap joins (label_is c.args.p.now c.args.site _ c.in-None.ensures))
