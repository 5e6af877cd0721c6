use Rattle.std.proofs.Common.{◌≡◌, ⊎_elim, length, refl, sym, ap, ◌∙◌, subst, arith, slice_get, Some}
use Rattle.std.proofs.lemmas.Bool.{cases_lt}
use Rattle.std.proofs.lemmas.Bool.Decides.{nat_tests}
use Rattle.std.proofs.lemmas.Option.{slice_get_read, slice_get-get_or}
use Rattle.ir_core.specs.declared.op.LocalId.{LocalId}
use Rattle.ir_core.specs.declared.func.Param.{Param}
use Rattle.ir_assigned.proofs.Tables.{same_local, one_at}
use Rattle.ir_assigned.proofs.tester.is_param.Goals as goal

pub returns-then-eq-clause-yes : goal.returns-then-eq-clause-yes
returns-then-eq-clause-yes c t =
    let e = c.if-eq.ensures in
    (c.param-item.result, (c.loop-param.param-index, c.loop-param-test.true, sym c.param-item.is), same_local c.param-item.result.name c.args.local (grind (arith, nat_tests, e)))

pub loop-param-preserved : goal.loop-param-preserved
loop-param-preserved c k q lt h same =
    let e = c.if-eq.ensures in
    let here : slice_get c.args.params.now c.loop-param.param-index ≡ Some c.param-item.result = slice_get_read c.args.params.now (length c.args.params.now) c.loop-param.param-index c.param-item.result refl c.loop-param-test.true c.param-item.is in
    ⊎_elim
    (λ l. c.loop-param.invariant k q l h same)
    (λ ge. let at : k ≡ c.loop-param.param-index = omega (arith, lt, ge) in
    let one : c.param-item.result ≡ q = one_at c.args.params.now c.loop-param.param-index c.param-item.result q here (subst (λ j. slice_get c.args.params.now j ≡ Some q) at h) in
    let name = ap (λ (z : LocalId). z.0) (ap Param.name one ∙ same) in
    grind (arith, nat_tests, e, name))
    (cases_lt k c.loop-param.param-index)

pub returns-clause-no : goal.returns-clause-no
returns-clause-no c f q h same =
    let lt = h.1 in
    c.loop-param.invariant h.0 q (omega (arith, lt)) (slice_get-get_or c.args.params.now h.0 q h.1 ∙ ap Some h.2) same
