use Rattle.std.proofs.Common.{sym, subst, ◌∙◌, ap}
use Rattle.ir_core.specs.ValidModule.{BreaksSymbolTwice}
use Rattle.module_rules.specs.First.{IsFound}
use Rattle.module_rules.proofs.SymbolLaws.{symbols_found}
use Rattle.module_rules.proofs.symbols.first_break.Goals as goal

pub returns : goal.returns
returns c = record { found = subst (IsFound (BreaksSymbolTwice c.args.m.now)) (sym (c.first.ensures ∙ ap (λ s. s.first) c.in_ok-symbols.ensures)) (symbols_found c.args.m.now) }
