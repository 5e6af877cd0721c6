use Rattle.std.proofs.Common.{arith}
use Rattle.std.proofs.lemmas.Result.{err_from_is_err_and}
use Rattle.elf_object.proofs.CheckLaws.{bytes-go_on, bytes-stop, bytes-end}
use Rattle.elf_object.proofs.checks.check_bytes.Goals as goal

pub returns-in_err-check_field : goal.returns-in_err-check_field
returns-in_err-check_field c =
    let p = err_from_is_err_and c.from_residual.result c.from_residual.ensures.1 in
    rw (p.1, p.2) (bytes-stop c.args.field c.args.bytes.now c.loop-one.at c.loop-one.one-index c.args.wanted.now c.check_field.result _ c.in_err-check_field.field-0.0
    c.loop-one-test.true c.check_field.ensures c.in_err-check_field.was c.loop-one.invariant.same)

pub loop-one-preserved : goal.loop-one-preserved
loop-one-preserved c = record {
  same = bytes-go_on c.args.field c.args.bytes.now c.loop-one.at c.loop-one.one-index c.args.wanted.now c.check_field.result _
      c.loop-one-test.true c.check_field.ensures c.in_ok-check_field.was c.loop-one.invariant.same;
  within = omega (arith, c.loop-one.invariant.within, c.loop-one-test.true);
}

pub returns : goal.returns
returns c = bytes-end c.args.field c.args.bytes.now c.loop-one.at c.loop-one.one-index c.args.wanted.now _ c.loop-one-test.false c.loop-one.invariant.same
