use Rattle.std.proofs.Common.{◌≡◌, take}
use Rattle.std.specs.List.{filter}
use Rattle.component_split.specs.Graph.{inside}
use Rattle.component_split.specs.Over.{func_numbers, site_numbers, site_graph}
use Rattle.component_split.proofs.sets.sites_inside.Given as goal

abbrev pub invariant-loop-site : goal.invariant-loop-site
invariant-loop-site l = site_numbers l.sites.items ≡ filter (inside (site_graph l.g) (func_numbers l.funcs)) (site_numbers (take l.site-index l.site-items))
