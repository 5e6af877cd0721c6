use Rattle.std.proofs.Common.{◌≡◌, ◌++◌, drop}
use Rattle.std.specs.List.{filter_map}
use Rattle.call_graph.specs.Sites.{site_of, block_sites}
use Rattle.call_graph.proofs.sites.push_block_sites.Given as goal

abbrev pub invariant-loop-instr : goal.invariant-loop-instr
invariant-loop-instr l = l.sites.items ++ filter_map (site_of l.functions l.caller) (drop l.instr-index l.block.code) ≡ l.fn.sites.items ++ block_sites l.functions l.caller l.block
