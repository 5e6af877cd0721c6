use Rattle.std.proofs.lemmas.Result.{err_from_is_err_and}
use Rattle.elf_object.proofs.CheckLaws.{zeros-go_on, zeros-stop, zeros-end}
use Rattle.elf_object.proofs.checks.check_zeros.Goals as goal

pub returns-in_err-check_field : goal.returns-in_err-check_field
returns-in_err-check_field c =
    let p = err_from_is_err_and c.from_residual.result c.from_residual.ensures.1 in
    rw (p.1, p.2) (zeros-stop c.args.bytes.now c.loop-at.at c.args.to c.check_field.result _ c.in_err-check_field.field-0.0 c.loop-at-test.true c.check_field.ensures c.in_err-check_field.was c.loop-at.invariant)

pub loop-at-preserved : goal.loop-at-preserved
loop-at-preserved c = zeros-go_on c.args.bytes.now c.loop-at.at c.args.to c.check_field.result _ c.loop-at-test.true c.check_field.ensures c.in_ok-check_field.was c.loop-at.invariant

pub returns : goal.returns
returns c = zeros-end c.args.bytes.now c.loop-at.at c.args.to _ c.loop-at-test.false c.loop-at.invariant
