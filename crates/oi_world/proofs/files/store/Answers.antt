use Rattle.oi_world.proofs.Names.{files_of-insert}
use Rattle.oi_world.proofs.files.store.Goals as goal

pub returns-clause-ok : goal.returns-clause-ok
returns-clause-ok c = files_of-insert c.args.files.now c.insert.new.self c.in_ok-key.key c.in_ok-value.value c.args.name.now c.args.bytes.now c.in_ok-insert.ensures.updates c.in_ok-key.ensures.ok c.in_ok-value.ensures.items
