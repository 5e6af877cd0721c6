use Rattle.std.proofs.Common.{◌≡◌, Bool, true, false, ◌&&◌, sym, ap, ◌∙◌}
use Rattle.std.proofs.lemmas.Bool.{false≢true}
use Rattle.component_split.specs.Graph.{has}
use Rattle.component_split.specs.Over.{func_numbers, caller_of, callee_of}
use Rattle.component_split.proofs.Known.{numbered, caller_known, callee_known}
use Rattle.component_split.proofs.places.is_inside.Goals as goal

pub caller-requires : goal.caller-requires
caller-requires c = numbered c.args.g.now c.args.site c.requires.candidate

pub callee-requires : goal.callee-requires
callee-requires c = numbered c.args.g.now c.args.site c.requires.candidate

both : (x y r : Bool) → true ≡ x → r ≡ y → r ≡ (x && y)
both true y r e h = h
both false y r e h = absurd (false≢true (sym e))

neither : (x y r : Bool) → r ≡ x → r ≡ false → r ≡ (x && y)
neither true y r e h = absurd (false≢true (sym h ∙ e))
neither false y r e h = h

pub returns-then-is_among : goal.returns-then-is_among
returns-then-is_among c =
    let fs = func_numbers c.args.funcs.now in
    let a = caller_known c.args.g.now c.args.site c.caller.result c.requires.candidate c.caller.ensures in
    let b = callee_known c.args.g.now c.args.site c.callee.result c.requires.candidate c.callee.ensures in
    both (has fs (caller_of c.args.g.now c.args.site.0)) (has fs (callee_of c.args.g.now c.args.site.0)) c.is_among-then-is_among.result (sym c.if-is_among.true ∙ c.is_among.ensures ∙ ap (has fs) a) (c.is_among-then-is_among.ensures ∙ ap (has fs) b)

pub returns-else-is_among : goal.returns-else-is_among
returns-else-is_among c =
    let fs = func_numbers c.args.funcs.now in
    let a = caller_known c.args.g.now c.args.site c.caller.result c.requires.candidate c.caller.ensures in
    neither (has fs (caller_of c.args.g.now c.args.site.0)) (has fs (callee_of c.args.g.now c.args.site.0)) c.is_among.result (c.is_among.ensures ∙ ap (has fs) a) c.if-is_among.false
