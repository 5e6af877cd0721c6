use Rattle.std.proofs.Common.{◌≡◌, ℕ, map, take, length}
use Rattle.std.specs.List.{filter}
use Rattle.component_split.specs.Members.{AreLows, joined_by}
use Rattle.component_split.specs.Over.{func_numbers, site_numbers, site_graph}
use Rattle.component_split.proofs.parts.deal_sites.Given as goal

abbrev pub invariant-loop-site : goal.invariant-loop-site
invariant-loop-site l = record {
  count : length l.lists.items ≡ length l.heads;
  dealt : (low : ℕ → ℕ) → AreLows low l.members → map site_numbers l.lists.items ≡ map (λ r. filter (joined_by low (site_graph l.g) r) (site_numbers (take l.site-index l.sites))) (func_numbers l.heads);
}
