use Rattle.std.proofs.Common.{◌<◌, length, List, sym, ap, subst, ◌∙◌}
use Rattle.oi_base.specs.declared.ids.FuncId.{FuncId}
use Rattle.component_split.specs.Over.{func_numbers, IsRising, site_graph}
use Rattle.std.specs.List.{filter, All}
use Rattle.component_split.specs.Graph.{inside}
use Rattle.component_split.proofs.Reached.{reached_rising, reached_in_range}
use Rattle.component_split.proofs.sets.FuncSet.all.Goals as goal

pub sites_inside-requires : goal.sites_inside-requires
sites_inside-requires c = subst IsRising (sym (ap func_numbers c.as_slice.ensures.value ∙ c.in_ok-funcs.ensures)) (reached_rising 0 c.args.g.now.funcs)

pub invariant_of-result : goal.invariant_of-result
invariant_of-result c = subst IsRising (sym c.in_ok-funcs.ensures) (reached_rising 0 c.args.g.now.funcs)

pub returns-clause-set : goal.returns-clause-set
returns-clause-set c = record {
  in_range = subst (All (λ f. f < length c.args.g.now.funcs)) (sym c.in_ok-funcs.ensures) (reached_in_range c.args.g.now.funcs);
  sites = c.in_ok-sites.ensures ∙ ap (λ (fs : List FuncId). filter (inside (site_graph c.args.g.now) (func_numbers fs)) (site_graph c.args.g.now).sites) c.as_slice.ensures.value;
}
