use Rattle.std.proofs.Common.{arith}
use Rattle.elf_object.proofs.Symbols.{names-drop, entries-step, entries-end}
use Rattle.elf_object.proofs.writing.put_entries.Goals as goal

pub loop-symbol-preserved : goal.loop-symbol-preserved
loop-symbol-preserved c = record {
  table = entries-step c.args.symbols.now c.loop-symbol.symbol-index c.loop-symbol.name_at _ c.symbol-item.result c.loop-symbol.out.items c.put_fields.new.out.items _
      c.loop-symbol-test.true c.symbol-item.is (omega (arith, c.len.ensures)) (grind (arith, c.in_ok-put_fields.ensures, c.entry.ensures, c.fields.ensures.fields)) c.loop-symbol.invariant.table;
  strings = omega (arith, names-drop c.args.symbols.now c.loop-symbol.symbol-index c.symbol-item.result c.loop-symbol-test.true c.symbol-item.is, c.len.ensures);
}

pub returns : goal.returns
returns c = entries-end c.args.symbols.now c.loop-symbol.symbol-index c.loop-symbol.name_at _ _ c.loop-symbol-test.false c.loop-symbol.invariant.table
