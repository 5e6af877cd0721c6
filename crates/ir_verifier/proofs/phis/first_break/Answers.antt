use Rattle.std.proofs.Common.{sym, subst, ◌∙◌, ap, None}
use Rattle.std.proofs.lemmas.Result.{IfOk-weaker}
use Rattle.ir_core.specs.ValidPaths.{BreaksPhis}
use Rattle.module_rules.specs.First.{earliest, IsFound}
use Rattle.ir_verifier.specs.PhiFaults.{phi_faults}
use Rattle.ir_verifier.proofs.PhiLaws.{phis_found}
use Rattle.ir_verifier.proofs.Measured.{measured}
use Rattle.ir_verifier.proofs.phis.first_break.Goals as goal

pub first_fault-requires : goal.first_fault-requires
first_fault-requires c = record { measured = measured c.args.m.now c.args.f.now c.requires.inside c.requires.type_names c.requires.sizes c.requires.types c.requires.constants }

pub returns : goal.returns
returns c = record {
  found = IfOk-weaker c.first_fault.result _ _ (λ first e.
      subst (IsFound (BreaksPhis c.args.m.now c.args.f.now)) (sym (e ∙ ap (λ s. earliest None (phi_faults c.args.m.now.types.defs s c.args.f.now)) c.in_ok-predecessors.ensures)) (phis_found c.args.m.now c.args.f.now))
      c.first_fault.ensures;
}
