use Rattle.std.proofs.Common.{sym, subst, ◌∙◌, ap}
use Rattle.ir_core.specs.ValidFunc.{BreaksNames}
use Rattle.module_rules.specs.First.{IsFound}
use Rattle.ir_verifier.proofs.NameLaws.{names_found}
use Rattle.ir_verifier.proofs.names.first_break.Goals as goal

pub returns : goal.returns
returns c = record { found = subst (IsFound (BreaksNames c.args.f.now)) (sym (c.first.ensures ∙ ap (λ s. s.first) c.in_ok-introduced.ensures)) (names_found c.args.f.now) }
