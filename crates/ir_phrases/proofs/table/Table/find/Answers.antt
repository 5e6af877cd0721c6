use Rattle.std.proofs.Common.{◌∙◌}
use Rattle.std.specs.Str.{bytes_eq}
use Rattle.ir_phrases.proofs.Numbered.{position-map}
use Rattle.ir_phrases.proofs.table.Table.find.Goals as goal

pub returns : goal.returns
returns c = rw (← c.self.view_is) (c.get_index_of.ensures.index ∙ position-map (bytes_eq c.args.name.now) (λ v. v.items) c.self.inside.set.keys)
