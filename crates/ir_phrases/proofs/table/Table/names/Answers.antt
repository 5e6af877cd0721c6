use Rattle.ir_phrases.proofs.table.Table.names.Goals as goal

pub returns : goal.returns
returns c = rw (← c.self.view_is, ← c.as_slice.ensures.keys) c.texts_of.ensures
