use Rattle.std.proofs.Common.{◌≡◌, None, true, take, drop, []}
use Rattle.std.specs.Prelude.{IfSome, IfNone}
use Rattle.component_split.specs.Graph.{inside}
use Rattle.component_split.specs.Split.{open_sites}
use Rattle.component_split.specs.Chosen.{heaviest_from, site_number, open_of}
use Rattle.component_split.specs.Over.{site_graph, labels, IsCounted}
use Rattle.component_split.proofs.choice.heaviest.Given as goal

abbrev pub invariant-loop-site : goal.invariant-loop-site
invariant-loop-site l = record {
  best : heaviest_from (site_graph l.g) (open_sites (site_graph l.g) (labels l.p) l.s.0) (site_number l.best) (open_of (labels l.p) (drop l.site-index l.s.1)) ≡ heaviest_from (site_graph l.g) (open_sites (site_graph l.g) (labels l.p) l.s.0) None (open_sites (site_graph l.g) (labels l.p) l.s.0);
  counted : IfSome l.best (λ b. IsCounted l.g l.degrees.items b.0);
  none : IfNone l.best (open_of (labels l.p) (take l.site-index l.s.1) ≡ []);
  within : IfSome l.best (λ b. inside (site_graph l.g) l.s.0 b.0 ≡ true);
}
