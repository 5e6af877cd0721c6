use Rattle.std.proofs.Common.{arith}
use Rattle.elf_object.proofs.TableSteps.{symbols-go_on, symbols-end}
use Rattle.elf_object.proofs.tables.symbols_at.Goals as goal

pub loop-preserved : goal.loop-preserved
loop-preserved c = record {
  so_far = rw c.in_ok-push.ensures.ok (symbols-go_on c.loop.symbols c.args.bytes.now c.args.table.now c.string_at-name.result.now c.loop.at c.loop.name_at _ c.loop.locals _ c.args.count c.loop.counter c.in_ok-symbol_at.field-0 _
      c.loop-test.true c.string_at-name.ensures.string c.place_after-name_at.ensures.place c.saturating_sub-locals.ensures c.in_ok-symbol_at.ensures c.loop.invariant.so_far);
  entries = omega (arith, c.loop.invariant.entries, c.loop-test.true);
  within = c.place_after-name_at.ensures.within;
}

pub returns : goal.returns
returns c = symbols-end c.loop.symbols c.args.bytes.now c.args.table.now c.loop.at c.loop.name_at c.loop.locals c.args.count c.loop.counter _ c.loop-test.false c.loop.invariant.so_far
