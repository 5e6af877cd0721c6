use Rattle.std.proofs.Common.{sym, subst, ◌∙◌, ap, None}
use Rattle.ir_core.specs.ValidFunc.{BreaksReferences}
use Rattle.module_rules.specs.First.{earliest, IsFound}
use Rattle.ir_verifier.specs.Faults.{reference_faults}
use Rattle.ir_verifier.proofs.ReferencesFound.{references_found}
use Rattle.ir_verifier.proofs.references.first_break.Goals as goal

-- src/references.rt:18:1
pub returns : goal.returns
returns c = record { found = λ m same. subst (IsFound (BreaksReferences m c.args.f.now)) (sym (c.first_fault.ensures ∙ ap (λ s. earliest None (reference_faults s c.args.f.now)) (c.in_ok-scope.ensures m same))) (references_found m c.args.f.now c.requires.proper) }
