use Rattle.std.proofs.Common.{◌≡◌, ℕ, drop}
use Rattle.component_split.specs.Split.{open_sites}
use Rattle.component_split.specs.Chosen.{first_bridge, open_of}
use Rattle.component_split.specs.Over.{site_graph, labels}
use Rattle.component_split.proofs.choice.lowest_bridge.Given as goal

abbrev pub invariant-loop-site : goal.invariant-loop-site
invariant-loop-site l = record {
  first : (other : ℕ) → first_bridge (site_graph l.g) (labels l.p) l.s.0 (open_sites (site_graph l.g) (labels l.p) l.s.0) other ≡ first_bridge (site_graph l.g) (labels l.p) l.s.0 (open_of (labels l.p) (drop l.site-index l.s.1)) other;
  marks : l.marks ≡ l.fn.marks;
}
