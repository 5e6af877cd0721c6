use Rattle.std.proofs.Common.{sym, ap, ◌∙◌}
use Rattle.std.proofs.lemmas.Bool.{and_parts}
use Rattle.component_split.specs.Graph.{has}
use Rattle.component_split.specs.Over.{func_numbers, caller_of, callee_of}
use Rattle.component_split.proofs.Known.{numbered, caller_known, callee_known}
use Rattle.component_split.proofs.parts.component_of.Goals as goal

pub caller-requires : goal.caller-requires
caller-requires c = numbered c.args.g.now c.args.site c.requires.candidate

pub callee-requires : goal.callee-requires
callee-requires c = numbered c.args.g.now c.args.site c.requires.candidate

pub low_of-from-requires-clause-among : goal.low_of-from-requires-clause-among
low_of-from-requires-clause-among c =
    let fs = func_numbers c.args.funcs.now in
    ap (has fs) (caller_known c.args.g.now c.args.site c.caller.result c.requires.candidate c.caller.ensures) ∙ (and_parts (has fs (caller_of c.args.g.now c.args.site.0)) (has fs (callee_of c.args.g.now c.args.site.0)) c.requires.inside).0

pub low_of-to-requires-clause-among : goal.low_of-to-requires-clause-among
low_of-to-requires-clause-among c =
    let fs = func_numbers c.args.funcs.now in
    ap (has fs) (callee_known c.args.g.now c.args.site c.callee.result c.requires.candidate c.callee.ensures) ∙ (and_parts (has fs (caller_of c.args.g.now c.args.site.0)) (has fs (callee_of c.args.g.now c.args.site.0)) c.requires.inside).1

pub returns-then-from-to-clause-component : goal.returns-then-from-to-clause-component
returns-then-from-to-clause-component c = λ low h.
    let a = caller_known c.args.g.now c.args.site c.caller.result c.requires.candidate c.caller.ensures in
    let b = callee_known c.args.g.now c.args.site c.callee.result c.requires.candidate c.callee.ensures in
    (ap low (sym a) ∙ sym (c.low_of-from.ensures.low low h), ap low (sym b) ∙ sym (c.low_of-to.ensures.low low h) ∙ sym c.if-from-to.true)

pub returns-else-from-to-clause-component : goal.returns-else-from-to-clause-component
returns-else-from-to-clause-component c = λ low h e.
    let a = caller_known c.args.g.now c.args.site c.caller.result c.requires.candidate c.caller.ensures in
    let b = callee_known c.args.g.now c.args.site c.callee.result c.requires.candidate c.callee.ensures in
    c.if-from-to.false (c.low_of-from.ensures.low low h ∙ ap low a ∙ e ∙ sym (ap low b) ∙ sym (c.low_of-to.ensures.low low h))
