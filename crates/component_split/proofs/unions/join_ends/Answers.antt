use Rattle.std.proofs.Common.{arith}
use Rattle.component_split.proofs.FuncSearch.{map_length}
use Rattle.component_split.proofs.unions.join_ends.Goals as goal

pub returns : goal.returns
returns c =
    let n = map_length c.args.funcs.now in
    let a = c.ends_among-ends.ensures.caller_in in
    let b = c.ends_among-ends.ensures.callee_in in
    record {
      from = c.ends_among-ends.result.caller;
      to = c.ends_among-ends.result.callee;
      from_in = omega (arith, n, a);
      to_in = omega (arith, n, b);
      from_is = c.ends_among-ends.ensures.caller;
      to_is = c.ends_among-ends.ensures.callee;
      joins = record { roots = c.join.ensures.roots; parents = c.join.ensures.parents; count = c.join.ensures.length };
    }
