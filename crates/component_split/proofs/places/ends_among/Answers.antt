use Rattle.std.proofs.Common.{ap, ◌∙◌}
use Rattle.std.proofs.lemmas.Bool.{and_parts}
use Rattle.component_split.specs.Graph.{has}
use Rattle.component_split.specs.Over.{func_numbers, caller_of, callee_of}
use Rattle.component_split.proofs.Known.{numbered, caller_known, callee_known}
use Rattle.component_split.proofs.places.ends_among.Goals as goal

pub caller-requires : goal.caller-requires
caller-requires c = numbered c.args.g.now c.args.site c.requires.candidate

pub callee-requires : goal.callee-requires
callee-requires c = numbered c.args.g.now c.args.site c.requires.candidate

pub place_in-requires-clause-among : goal.place_in-requires-clause-among
place_in-requires-clause-among c =
    let fs = func_numbers c.args.funcs.now in
    ap (has fs) (caller_known c.args.g.now c.args.site c.caller.result c.requires.candidate c.caller.ensures) ∙ (and_parts (has fs (caller_of c.args.g.now c.args.site.0)) (has fs (callee_of c.args.g.now c.args.site.0)) c.requires.inside).0

pub place_in-requires-2-clause-among : goal.place_in-requires-2-clause-among
place_in-requires-2-clause-among c =
    let fs = func_numbers c.args.funcs.now in
    ap (has fs) (callee_known c.args.g.now c.args.site c.callee.result c.requires.candidate c.callee.ensures) ∙ (and_parts (has fs (caller_of c.args.g.now c.args.site.0)) (has fs (callee_of c.args.g.now c.args.site.0)) c.requires.inside).1

pub returns-clause-caller : goal.returns-clause-caller
returns-clause-caller c = c.place_in.ensures.here ∙ caller_known c.args.g.now c.args.site c.caller.result c.requires.candidate c.caller.ensures

pub returns-clause-callee : goal.returns-clause-callee
returns-clause-callee c = c.place_in-2.ensures.here ∙ callee_known c.args.g.now c.args.site c.callee.result c.requires.candidate c.callee.ensures
