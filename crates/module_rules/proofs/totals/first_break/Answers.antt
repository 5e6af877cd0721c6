use Rattle.std.proofs.Common.{sym, subst}
use Rattle.ir_core.specs.ValidModule.{HasTooMuchData, HasTooManyNames, BreaksTotals}
use Rattle.module_rules.specs.First.{IsFound}
use Rattle.module_rules.proofs.Earliest.{found_either}
use Rattle.module_rules.proofs.totals.first_break.Goals as goal

pub returns : goal.returns
returns c = record {
  found =
      subst (IsFound (BreaksTotals c.args.m.now)) (sym c.earlier_of.ensures)
      (found_either (HasTooMuchData c.args.m.now) (HasTooManyNames c.args.m.now) c.first_past_data.result c.in_ok-names.names c.first_past_data.ensures c.in_ok-names.ensures);
}
