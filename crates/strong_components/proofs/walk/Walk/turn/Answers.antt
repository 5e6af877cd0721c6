use Rattle.std.proofs.Common.{length, slice_get, sym, ap, ◌∙◌, arith}
use Rattle.strong_components.specs.Chains.{IsRootIn}
use Rattle.strong_components.specs.Walk.{state}
use Rattle.strong_components.proofs.Turning.{stack_marked, top_low, top_on, top_next, top_next_is, followed_turn, left_turn}
use Rattle.strong_components.proofs.walk.Walk.turn.Goals as goal

pub index-f-requires : goal.index-f-requires
index-f-requires c = let l = top_low _ _ (IsRootIn c.args.graph.now.roots.now) (state c.args.self.now) c.requires.inv _ c.in-Some.ensures.some in let e = c.args.self.now.stack.ok in omega (arith, l, e)

pub index-k-requires : goal.index-k-requires
index-k-requires c = let l = top_next _ _ (IsRootIn c.args.graph.now.roots.now) (state c.args.self.now) c.requires.inv _ c.in-Some.ensures.some _ c.index-f.ensures in let e = c.args.self.now.next.ok in omega (arith, l, e)

pub leave-requires-clause-within : goal.leave-requires-clause-within
leave-requires-clause-within c = let l = top_low _ _ (IsRootIn c.args.graph.now.roots.now) (state c.args.self.now) c.requires.inv _ c.in-Some.ensures.some in omega (arith, l)

pub leave-requires-clause-marked : goal.leave-requires-clause-marked
leave-requires-clause-marked c = stack_marked _ _ (IsRootIn c.args.graph.now.roots.now) (state c.args.self.now) c.requires.inv

pub returns-in_ok-follow-in-Some-edge_of_node-clause-inv : goal.returns-in_ok-follow-in-Some-edge_of_node-clause-inv
returns-in_ok-follow-in-Some-edge_of_node-clause-inv c =
    let n = length c.args.graph.now.roots.now in
    let edges = c.args.graph.now.edges.now in
    let root = IsRootIn c.args.graph.now.roots.now in
    let s = state c.args.self.now in
    let last = c.in-Some.ensures.some in
    let on = top_on n edges root s c.requires.inv _ last _ c.index-f.ensures in
    let next = top_next_is n edges root s c.requires.inv _ last _ c.index-f.ensures _ c.index-k.ensures in
    (followed_turn n edges root c.requires.edges s c.requires.inv _ _ last on _ c.in-Some-edge_of_node.edge c.in-Some-edge_of_node.ensures.some c.in-Some-edge_of_node.ensures.own next (state c.follow.new.self) c.in_ok-follow-in-Some-edge_of_node.ensures).inv

pub returns-in_ok-follow-in-Some-edge_of_node-clause-onward : goal.returns-in_ok-follow-in-Some-edge_of_node-clause-onward
returns-in_ok-follow-in-Some-edge_of_node-clause-onward c =
    let n = length c.args.graph.now.roots.now in
    let edges = c.args.graph.now.edges.now in
    let root = IsRootIn c.args.graph.now.roots.now in
    let s = state c.args.self.now in
    let last = c.in-Some.ensures.some in
    let on = top_on n edges root s c.requires.inv _ last _ c.index-f.ensures in
    let next = top_next_is n edges root s c.requires.inv _ last _ c.index-f.ensures _ c.index-k.ensures in
    (followed_turn n edges root c.requires.edges s c.requires.inv _ _ last on _ c.in-Some-edge_of_node.edge c.in-Some-edge_of_node.ensures.some c.in-Some-edge_of_node.ensures.own next (state c.follow.new.self) c.in_ok-follow-in-Some-edge_of_node.ensures).onward

pub returns-in_ok-follow-in-Some-edge_of_node-clause-nearer : goal.returns-in_ok-follow-in-Some-edge_of_node-clause-nearer
returns-in_ok-follow-in-Some-edge_of_node-clause-nearer c =
    let n = length c.args.graph.now.roots.now in
    let edges = c.args.graph.now.edges.now in
    let root = IsRootIn c.args.graph.now.roots.now in
    let s = state c.args.self.now in
    let last = c.in-Some.ensures.some in
    let on = top_on n edges root s c.requires.inv _ last _ c.index-f.ensures in
    let next = top_next_is n edges root s c.requires.inv _ last _ c.index-f.ensures _ c.index-k.ensures in
    λ more. (followed_turn n edges root c.requires.edges s c.requires.inv _ _ last on _ c.in-Some-edge_of_node.edge c.in-Some-edge_of_node.ensures.some c.in-Some-edge_of_node.ensures.own next (state c.follow.new.self) c.in_ok-follow-in-Some-edge_of_node.ensures).nearer

pub returns-in-None-clause-inv : goal.returns-in-None-clause-inv
returns-in-None-clause-inv c =
    let n = length c.args.graph.now.roots.now in
    let edges = c.args.graph.now.edges.now in
    let root = IsRootIn c.args.graph.now.roots.now in
    let s = state c.args.self.now in
    let last = c.in-Some.ensures.some in
    let on = top_on n edges root s c.requires.inv _ last _ c.index-f.ensures in
    let next = top_next_is n edges root s c.requires.inv _ last _ c.index-f.ensures _ c.index-k.ensures in
    (left_turn n edges root c.requires.edges s c.requires.inv _ _ last on (λ e at. c.in-None.ensures.none e (ap (slice_get edges) (sym next) ∙ at)) (state c.leave.new.self) c.leave.ensures).inv

pub returns-in-None-clause-onward : goal.returns-in-None-clause-onward
returns-in-None-clause-onward c =
    let n = length c.args.graph.now.roots.now in
    let edges = c.args.graph.now.edges.now in
    let root = IsRootIn c.args.graph.now.roots.now in
    let s = state c.args.self.now in
    let last = c.in-Some.ensures.some in
    let on = top_on n edges root s c.requires.inv _ last _ c.index-f.ensures in
    let next = top_next_is n edges root s c.requires.inv _ last _ c.index-f.ensures _ c.index-k.ensures in
    (left_turn n edges root c.requires.edges s c.requires.inv _ _ last on (λ e at. c.in-None.ensures.none e (ap (slice_get edges) (sym next) ∙ at)) (state c.leave.new.self) c.leave.ensures).onward

pub returns-in-None-clause-nearer : goal.returns-in-None-clause-nearer
returns-in-None-clause-nearer c =
    let n = length c.args.graph.now.roots.now in
    let edges = c.args.graph.now.edges.now in
    let root = IsRootIn c.args.graph.now.roots.now in
    let s = state c.args.self.now in
    let last = c.in-Some.ensures.some in
    let on = top_on n edges root s c.requires.inv _ last _ c.index-f.ensures in
    let next = top_next_is n edges root s c.requires.inv _ last _ c.index-f.ensures _ c.index-k.ensures in
    λ more. (left_turn n edges root c.requires.edges s c.requires.inv _ _ last on (λ e at. c.in-None.ensures.none e (ap (slice_get edges) (sym next) ∙ at)) (state c.leave.new.self) c.leave.ensures).nearer

pub leave-requires-clause-few : goal.leave-requires-clause-few
leave-requires-clause-few c =
    let l = top_low _ _ (IsRootIn c.args.graph.now.roots.now) (state c.args.self.now) c.requires.inv _ c.in-Some.ensures.some in
    let m = c.requires.inv.marks in
    let f = c.requires.inv.few in
    omega (arith, l, m, f)
