use Rattle.std.proofs.Common.{rules}
use Rattle.std.proofs.Common.{arith}
use Rattle.oi_world.proofs.Names.{get-files_of}
use Rattle.oi_world.proofs.files.find.Goals as goal

pub returns-in-None : goal.returns-in-None
returns-in-None c = let e = get-files_of c.args.files.now c.args.name.now in search (rules, e)

pub returns-in-Some : goal.returns-in-Some
returns-in-Some c = let e = get-files_of c.args.files.now c.args.name.now in grind (arith, e)
