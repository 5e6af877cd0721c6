use Rattle.std.proofs.Common.{sym, ◌∙◌, subst, refl, arith}
use Rattle.std.proofs.lemmas.List.{get_or_read}
use Rattle.std.proofs.lemmas.Option.{slice_get_within}
use Rattle.ir_assigned.specs.Search.{state, IsMarked, IsOver}
use Rattle.ir_assigned.proofs.Searching.{no_path, started, started_at, started_marked, path_found}
use Rattle.ir_assigned.proofs.search.Search.path_from_entry.Goals as goal

pub returns-then-index-aim-clause-exact : goal.returns-then-index-aim-clause-exact
returns-then-index-aim-clause-exact c =
    let marks = c.args.self.now.marks.items in
    let marked : IsMarked c.args.aim.round (state c.args.self.now) c.args.block = sym (get_or_read marks c.args.block c.index.result.now (let n = c.requires.marks.count in omega (arith, n)) c.index.ensures 0) ∙ c.if-index-aim.true in
    no_path c.args.graph.now c.args.aim c.requires.round (state c.args.self.now) c.requires.clean c.args.block marked

pub gather-requires-clause-inv : goal.gather-requires-clause-inv
gather-requires-clause-inv c =
    started c.args.graph.now c.args.aim c.requires.round (state c.args.self.now) c.args.block c.requires.marks c.requires.clean c.requires.within c.clear.new.self.items (state c.enter.new.self) c.clear.ensures.items c.in_ok-enter.ensures

pub path-requires-clause-within : goal.path-requires-clause-within
path-requires-clause-within c =
    let over = subst (λ o. IsOver c.args.graph.now c.args.aim o (state c.gather.new.self)) c.in-Some.is c.in_ok-at.ensures.over in
    slice_get_within c.gather.new.self.queue.items c.in-Some.at over.1.0 over.1.1

pub returns-in_ok-path-in-Some-clause-exact : goal.returns-in_ok-path-in-Some-clause-exact
returns-in_ok-path-in-Some-clause-exact c =
    let over = subst (λ o. IsOver c.args.graph.now c.args.aim o (state c.gather.new.self)) c.in-Some.is c.in_ok-at.ensures.over in
    let first = started_at c.args.graph.now c.args.aim c.requires.round (state c.args.self.now) c.args.block c.requires.marks c.requires.clean c.requires.within c.clear.new.self.items (state c.enter.new.self) c.clear.ensures.items c.in_ok-enter.ensures in
    path_found c.args.graph.now c.args.aim c.gather.new.self.queue.items c.in-Some.at c.args.block c.in_ok-path-in-Some.field-0 (record { block = c.args.block; after = 0 }) over.1.0 c.in_ok-path-in-Some.ensures
    (c.in_ok-at.ensures.onward.queue 0 (record { block = c.args.block; after = 0 }) first) refl over.1.1 over.1.2

pub returns-in-None-clause-exact : goal.returns-in-None-clause-exact
returns-in-None-clause-exact c =
    let over = subst (λ o. IsOver c.args.graph.now c.args.aim o (state c.gather.new.self)) c.in-None.is c.in_ok-at.ensures.over in
    let marked = started_marked c.args.graph.now c.args.aim c.requires.round (state c.args.self.now) c.args.block c.requires.marks c.requires.clean c.requires.within c.clear.new.self.items (state c.enter.new.self) c.clear.ensures.items c.in_ok-enter.ensures in
    no_path c.args.graph.now c.args.aim c.requires.round (state c.gather.new.self) over c.args.block (c.in_ok-at.ensures.onward.marks c.args.block marked)
