use Rattle.std.proofs.Common.{◌≡◌, ◌++◌, drop}
use Rattle.std.specs.List.{flat_map}
use Rattle.call_graph.specs.Sites.{block_sites, func_sites}
use Rattle.call_graph.proofs.sites.push_func_sites.Given as goal

abbrev pub invariant-loop-block : goal.invariant-loop-block
invariant-loop-block l = l.sites.items ++ flat_map (block_sites l.functions l.caller) (drop l.block-index l.func.blocks) ≡ l.fn.sites.items ++ func_sites l.functions l.caller l.func
