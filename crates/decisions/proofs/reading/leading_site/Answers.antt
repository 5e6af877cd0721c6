use Rattle.decisions.proofs.Entries.{number_part, some_site}
use Rattle.decisions.proofs.reading.leading_site.Goals as goal

pub returns-in-Some-clause-site : goal.returns-in-Some-clause-site
returns-in-Some-clause-site c s l lt e = some_site c.in-Some.n s (c.in-Some.ensures s.0 lt (number_part c.args.line.now s l c.place_of_byte.result lt e c.place_of_byte.ensures.place))

pub returns-in-None-clause-site : goal.returns-in-None-clause-site
returns-in-None-clause-site c s l lt e = let h = c.in-None.ensures s.0 lt (number_part c.args.line.now s l c.place_of_byte.result lt e c.place_of_byte.ensures.place) in cc
