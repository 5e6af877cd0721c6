use Rattle.std.proofs.Common.{sym, ap, ◌∙◌}
use Rattle.component_split.specs.Graph.{is_open}
use Rattle.component_split.proofs.Known.{label_is, open_is}
use Rattle.component_split.proofs.states.is_open.Goals as goal

pub returns : goal.returns
returns c = open_is c.get.result c.is_none.result c.is_none.ensures ∙ sym (ap is_open (label_is c.args.p.now c.args.site _ c.get.ensures))
