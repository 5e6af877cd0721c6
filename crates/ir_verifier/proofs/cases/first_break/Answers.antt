use Rattle.std.proofs.Common.{subst, sym}
use Rattle.std.proofs.lemmas.Result.{IfOk-weaker}
use Rattle.ir_core.specs.ValidOps.{BreaksCases}
use Rattle.module_rules.specs.First.{IsFound}
use Rattle.ir_verifier.proofs.CaseLaws.{cases_found}
use Rattle.ir_verifier.proofs.cases.first_break.Goals as goal

-- src/cases.rt:16:1
pub returns : goal.returns
returns c = record { found = λ m. IfOk-weaker c.first_fault.result _ _ (λ first e. subst (IsFound (BreaksCases m c.args.f.now)) (sym e) (cases_found m c.args.f.now)) c.first_fault.ensures }
