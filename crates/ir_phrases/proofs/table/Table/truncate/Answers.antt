use Rattle.std.proofs.Common.{◌∙◌, ap, take}
use Rattle.ir_phrases.proofs.Numbered.{take-map}
use Rattle.ir_phrases.proofs.table.Table.truncate.Goals as goal

pub returns : goal.returns
returns c = rw c.truncate.ensures.keys (take-map (λ v. v.items) c.args.len c.self.inside.set.keys ∙ ap (take c.args.len) c.self.view_is)
