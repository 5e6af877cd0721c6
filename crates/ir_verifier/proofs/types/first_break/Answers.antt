use Rattle.std.proofs.Common.{sym, subst, ◌∙◌, ap, None}
use Rattle.ir_core.specs.ValidOps.{BreaksTypes}
use Rattle.module_rules.specs.First.{earliest, IsFound}
use Rattle.ir_verifier.specs.TypeFaults.{type_faults}
use Rattle.ir_verifier.proofs.TypesFound.{types_found}
use Rattle.ir_verifier.proofs.types.first_break.Goals as goal

pub returns : goal.returns
returns c = record { found = subst (IsFound (BreaksTypes c.args.m.now c.args.f.now)) (sym (c.first_fault.ensures ∙ ap (λ s. earliest None (type_faults s c.args.f.now)) c.in_ok-typing.ensures)) (types_found c.args.m.now c.args.f.now) }
