use Rattle.std.proofs.Common.{arith}
use Rattle.std.proofs.lemmas.Result.{err_from_is_err_and}
use Rattle.elf_object.proofs.TableSteps.{entries-go_on, entries-stop, entries-end}
use Rattle.elf_object.proofs.tables.check_entries.Goals as goal

pub returns-in_err-check_fields : goal.returns-in_err-check_fields
returns-in_err-check_fields c =
    let p = err_from_is_err_and c.from_residual.result c.from_residual.ensures.1 in
    rw (p.1, p.2) (entries-stop c.args.bytes.now c.args.size c.loop-symbol.at c.loop-symbol.name_at c.loop-symbol.symbol-index c.args.symbols.now c.symbol-item.result c.check_fields.result _ c.in_err-check_fields.field-0.0
    c.loop-symbol-test.true c.symbol-item.is (grind (arith, c.check_fields.ensures, c.fields-wanted.ensures.fields, c.entry.ensures)) c.in_err-check_fields.was c.loop-symbol.invariant.same)

pub loop-symbol-preserved : goal.loop-symbol-preserved
loop-symbol-preserved c = record {
  same = entries-go_on c.args.bytes.now c.args.size c.loop-symbol.at c.loop-symbol.name_at _ c.loop-symbol.symbol-index c.args.symbols.now c.symbol-item.result c.check_fields.result _
      c.loop-symbol-test.true c.symbol-item.is (grind (arith, c.place_after-name_at.ensures.place, c.as_slice.ensures)) (grind (arith, c.check_fields.ensures, c.fields-wanted.ensures.fields, c.entry.ensures)) c.in_ok-check_fields.was c.loop-symbol.invariant.same;
  entries = omega (arith, c.loop-symbol.invariant.entries, c.loop-symbol-test.true);
  within = c.place_after-name_at.ensures.within;
}

pub returns : goal.returns
returns c = entries-end c.args.bytes.now c.args.size c.loop-symbol.at c.loop-symbol.name_at c.loop-symbol.symbol-index c.args.symbols.now _ c.loop-symbol-test.false c.loop-symbol.invariant.same
