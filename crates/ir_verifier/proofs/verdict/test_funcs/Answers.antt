use Rattle.std.proofs.Common.{◌≡◌, Some, slice_get}
use Rattle.std.proofs.lemmas.Result.{err_from_is_err_and}
use Rattle.ir_verifier.proofs.VerdictTold.{at_item, is_past, one_more_func, fault_of_funcs, is_valid}
use Rattle.ir_verifier.proofs.verdict.test_funcs.Goals as goal

pub returns-in_err-test_func-clause-fault : goal.returns-in_err-test_func-clause-fault
returns-in_err-test_func-clause-fault c =
    let here : slice_get c.args.m.now.funcs c.loop-func.func-index ≡ Some c.func-item.result = at_item c.args.m.now.funcs c.as_slice-func-items.result.now c.loop-func.func-index c.func-item.result c.as_slice-func-items.ensures c.loop-func-test.true c.func-item.is in
    let p = err_from_is_err_and c.from_residual-in_err-test_func.result c.from_residual-in_err-test_func.ensures.1 in
    rw (p.1, p.2) (fault_of_funcs c.args.m.now c.loop-func.func-index c.func-item.result c.in_err-test_func.field-0.0 c.requires.own c.loop-func.invariant here c.in_err-test_func.ensures.fault)

pub loop-func-preserved : goal.loop-func-preserved
loop-func-preserved c =
    let here : slice_get c.args.m.now.funcs c.loop-func.func-index ≡ Some c.func-item.result = at_item c.args.m.now.funcs c.as_slice-func-items.result.now c.loop-func.func-index c.func-item.result c.as_slice-func-items.ensures c.loop-func-test.true c.func-item.is in
    one_more_func c.args.m.now c.loop-func.func-index c.func-item.result c.loop-func.invariant here c.in_ok-test_func.ensures.ok

pub returns-clause-ok : goal.returns-clause-ok
returns-clause-ok c =
    is_valid c.args.m.now c.requires.own (λ i g e. c.loop-func.invariant i g (is_past c.args.m.now.funcs c.as_slice-func-items.result.now i c.loop-func.func-index g c.as_slice-func-items.ensures c.loop-func-test.false e) e)
