use Rattle.std.proofs.Common.{sym, ◌∙◌, None}
use Rattle.component_split.specs.Split.{open_sites}
use Rattle.component_split.specs.Chosen.{heaviest_from}
use Rattle.component_split.specs.Over.{site_graph, labels}
use Rattle.component_split.proofs.Choosing.{chosen_is}
use Rattle.component_split.proofs.choice.choose.Goals as goal

pub returns-in-Some-clause-chosen : goal.returns-in-Some-clause-chosen
returns-in-Some-clause-chosen c =
    let g = site_graph c.args.g.now in let p = labels c.args.p.now in let fs = c.args.s.now.0 in
    sym (chosen_is g p fs c.requires.undecided ∙ c.in-Some.ensures.bridge (heaviest_from g (open_sites g p fs) None (open_sites g p fs)))

pub returns-in-Some-heaviest-clause-chosen : goal.returns-in-Some-heaviest-clause-chosen
returns-in-Some-heaviest-clause-chosen c =
    let g = site_graph c.args.g.now in let p = labels c.args.p.now in let fs = c.args.s.now.0 in
    c.in-Some-heaviest.ensures.heaviest ∙ sym (chosen_is g p fs c.requires.undecided ∙ c.in-None.ensures.bridge (heaviest_from g (open_sites g p fs) None (open_sites g p fs)))
