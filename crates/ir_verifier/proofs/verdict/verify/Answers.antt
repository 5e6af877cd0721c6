use Rattle.std.proofs.lemmas.Result.{err_from_is_err_and}
use Rattle.ir_verifier.proofs.VerdictTold.{told_of_module, told_of_funcs}
use Rattle.ir_verifier.proofs.verdict.verify.Goals as goal

pub returns-in_err-test_module-clause-only : goal.returns-in_err-test_module-clause-only
returns-in_err-test_module-clause-only c =
    let p = err_from_is_err_and c.from_residual.result c.from_residual.ensures.1 in
    λ valid. rw (p.1, p.2) ((told_of_module c.args.m c.in_err-test_module.field-0.0 c.in_err-test_module.ensures.fault).only valid)

pub returns-in_err-test_module-clause-rule : goal.returns-in_err-test_module-clause-rule
returns-in_err-test_module-clause-rule c =
    let p = err_from_is_err_and c.from_residual.result c.from_residual.ensures.1 in
    rw (p.1, p.2) ((told_of_module c.args.m c.in_err-test_module.field-0.0 c.in_err-test_module.ensures.fault).rule)

pub returns-in_err-test_module-clause-other : goal.returns-in_err-test_module-clause-other
returns-in_err-test_module-clause-other c =
    let p = err_from_is_err_and c.from_residual.result c.from_residual.ensures.1 in
    rw (p.1, p.2) ((told_of_module c.args.m c.in_err-test_module.field-0.0 c.in_err-test_module.ensures.fault).other)

pub returns-in_err-test_module-clause-assignment : goal.returns-in_err-test_module-clause-assignment
returns-in_err-test_module-clause-assignment c =
    let p = err_from_is_err_and c.from_residual.result c.from_residual.ensures.1 in
    rw (p.1, p.2) ((told_of_module c.args.m c.in_err-test_module.field-0.0 c.in_err-test_module.ensures.fault).assignment)

pub returns-in_err-test_module-clause-path : goal.returns-in_err-test_module-clause-path
returns-in_err-test_module-clause-path c =
    let p = err_from_is_err_and c.from_residual.result c.from_residual.ensures.1 in
    rw (p.1, p.2) ((told_of_module c.args.m c.in_err-test_module.field-0.0 c.in_err-test_module.ensures.fault).path)

pub returns-in_err-test_funcs-clause-only : goal.returns-in_err-test_funcs-clause-only
returns-in_err-test_funcs-clause-only c =
    let p = err_from_is_err_and c.from_residual-in_err-test_funcs.result c.from_residual-in_err-test_funcs.ensures.1 in
    λ valid. rw (p.1, p.2) ((told_of_funcs c.args.m c.in_err-test_funcs.field-0.0 c.in_err-test_funcs.ensures.fault).only valid)

pub returns-in_err-test_funcs-clause-rule : goal.returns-in_err-test_funcs-clause-rule
returns-in_err-test_funcs-clause-rule c =
    let p = err_from_is_err_and c.from_residual-in_err-test_funcs.result c.from_residual-in_err-test_funcs.ensures.1 in
    rw (p.1, p.2) ((told_of_funcs c.args.m c.in_err-test_funcs.field-0.0 c.in_err-test_funcs.ensures.fault).rule)

pub returns-in_err-test_funcs-clause-other : goal.returns-in_err-test_funcs-clause-other
returns-in_err-test_funcs-clause-other c =
    let p = err_from_is_err_and c.from_residual-in_err-test_funcs.result c.from_residual-in_err-test_funcs.ensures.1 in
    rw (p.1, p.2) ((told_of_funcs c.args.m c.in_err-test_funcs.field-0.0 c.in_err-test_funcs.ensures.fault).other)

pub returns-in_err-test_funcs-clause-assignment : goal.returns-in_err-test_funcs-clause-assignment
returns-in_err-test_funcs-clause-assignment c =
    let p = err_from_is_err_and c.from_residual-in_err-test_funcs.result c.from_residual-in_err-test_funcs.ensures.1 in
    rw (p.1, p.2) ((told_of_funcs c.args.m c.in_err-test_funcs.field-0.0 c.in_err-test_funcs.ensures.fault).assignment)

pub returns-in_err-test_funcs-clause-path : goal.returns-in_err-test_funcs-clause-path
returns-in_err-test_funcs-clause-path c =
    let p = err_from_is_err_and c.from_residual-in_err-test_funcs.result c.from_residual-in_err-test_funcs.ensures.1 in
    rw (p.1, p.2) ((told_of_funcs c.args.m c.in_err-test_funcs.field-0.0 c.in_err-test_funcs.ensures.fault).path)
