use Rattle.std.proofs.Common.{sym, subst}
use Rattle.ir_core.specs.ValidOps.{BreaksCalls}
use Rattle.module_rules.specs.First.{IsFound}
use Rattle.ir_verifier.proofs.CallLaws.{calls_found}
use Rattle.ir_verifier.proofs.calls.first_break.Goals as goal

pub returns : goal.returns
returns c = record { found = subst (IsFound (BreaksCalls c.args.callees.now c.args.f.now)) (sym c.first_fault.ensures) (calls_found c.args.callees.now c.args.f.now c.requires.once c.requires.types) }
