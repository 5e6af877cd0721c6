use Rattle.std.proofs.Common.{true, false, length, ap, ◌∙◌, arith}
use Rattle.component_split.specs.declared.arcs.Arc.{Arc}
use Rattle.component_split.specs.Members.{put_at}
use Rattle.component_split.proofs.FuncSearch.{map_length}
use Rattle.component_split.proofs.Dealing.{length_put}
use Rattle.component_split.proofs.arcs.put_arcs.Goals as goal

pub put-requires-2 : goal.put-requires-2
put-requires-2 c =
    let n = ap length c.in_ok-put.ensures ∙ length_put c.ends_among-ends.result.caller (record { site = c.args.at; to = c.ends_among-ends.result.callee; forth = true }) c.args.arcs.now.items in
    let l = c.ends_among-ends.ensures.callee_in in let k = c.requires.count in
    omega (arith, n, l, k)

pub returns : goal.returns
returns c =
    let x = c.ends_among-ends.result in
    let there : Arc = record { site = c.args.at; to = x.callee; forth = true } in
    let again : Arc = record { site = c.args.at; to = x.caller; forth = false } in
    let n = map_length c.args.funcs.now in
    let a = c.ends_among-ends.ensures.caller_in in
    let b = c.ends_among-ends.ensures.callee_in in
    record {
      from = x.caller;
      to = x.callee;
      from_in = omega (arith, n, a);
      to_in = omega (arith, n, b);
      from_is = c.ends_among-ends.ensures.caller;
      to_is = c.ends_among-ends.ensures.callee;
      arcs = c.in_ok-put-2.ensures ∙ ap (put_at x.callee again) c.in_ok-put.ensures;
    }
