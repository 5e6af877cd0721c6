use Rattle.std.proofs.Common.{◌∙◌}
use Rattle.ir_phrases.proofs.Numbered.{among_found}
use Rattle.ir_phrases.proofs.table.Table.has.Goals as goal

pub returns : goal.returns
returns c = c.is_some.ensures ∙ rw c.find.ensures (among_found c.args.name.now c.args.self.now)
