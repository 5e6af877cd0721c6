use Rattle.ir_phrases.proofs.Numbered.{names_after}
use Rattle.ir_phrases.proofs.table.Table.add.Goals as goal

pub returns : goal.returns
returns c = rw c.in_ok-insert.ensures.keys (names_after c.self.inside.set.keys c.in_ok-from_slice.field-0 c.args.self.now c.args.name.now c.self.view_is c.in_ok-from_slice.ensures.items c.requires)
