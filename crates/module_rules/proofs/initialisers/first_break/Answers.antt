use Rattle.std.proofs.Common.{sym, subst}
use Rattle.ir_core.specs.ValidConsts.{BreaksInitialisers}
use Rattle.module_rules.specs.First.{IsFound}
use Rattle.module_rules.proofs.InitLaws.{inits_found}
use Rattle.module_rules.proofs.initialisers.first_break.Goals as goal

pub returns : goal.returns
returns c = record { found = subst (IsFound (BreaksInitialisers c.args.m.now)) (sym c.first_fault.ensures) (inits_found c.args.m.now) }
