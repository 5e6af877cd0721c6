use Rattle.std.proofs.Common.{arith}
use Rattle.std.proofs.lemmas.Result.{err_from_is_err_and}
use Rattle.elf_object.specs.Checks.{name_checks}
use Rattle.elf_object.proofs.TableSteps.{names-go_on, names-stop, names-end}
use Rattle.elf_object.proofs.tables.check_strings.Goals as goal

pub returns-in_err-check_name : goal.returns-in_err-check_name
returns-in_err-check_name c =
    let p = err_from_is_err_and c.from_residual.result c.from_residual.ensures.1 in
    rw (p.1, p.2) (names-stop c.args.bytes.now c.args.start c.args.size c.loop-symbol.name_at c.loop-symbol.symbol-index c.args.symbols.now c.symbol-item.result c.check_name.result _ c.in_err-check_name.field-0.0
    c.loop-symbol-test.true c.symbol-item.is (grind (arith, c.check_name.ensures, c.as_slice-name.ensures)) c.in_err-check_name.was c.loop-symbol.invariant.same)

pub loop-symbol-preserved : goal.loop-symbol-preserved
loop-symbol-preserved c = record {
  same = names-go_on c.args.bytes.now c.args.start c.args.size c.loop-symbol.name_at _ c.loop-symbol.symbol-index c.args.symbols.now c.symbol-item.result c.check_name.result _
      c.loop-symbol-test.true c.symbol-item.is (grind (arith, c.place_after-name_at.ensures.place, c.as_slice-name.ensures)) (grind (arith, c.check_name.ensures, c.as_slice-name.ensures)) c.in_ok-check_name.was c.loop-symbol.invariant.same;
  within = c.place_after-name_at.ensures.within;
}

pub returns : goal.returns
unfolding name_checks
returns c = names-end c.args.bytes.now c.args.start c.args.size c.loop-symbol.name_at c.loop-symbol.symbol-index c.args.symbols.now c.check.result _ c.loop-symbol-test.false (rw (c.from-found.ensures, c.byte_at.ensures) at c.check.ensures) c.loop-symbol.invariant.same
