use Rattle.ir_verifier.proofs.OneVerdict.{broken_not_valid, one_first_broken, none_is_valid}
use Rattle.ir_verifier.proofs.VerdictDecided.{verdict}
use Rattle.ir_verifier.proofs.laws.a_module_has_one_verdict.Goals as goal

pub returns-clause-decided : goal.returns-clause-decided
returns-clause-decided c = verdict

pub returns-clause-valid : goal.returns-clause-valid
returns-clause-valid c = none_is_valid

pub returns-clause-broken : goal.returns-clause-broken
returns-clause-broken c = broken_not_valid

pub returns-clause-one : goal.returns-clause-one
returns-clause-one c = one_first_broken
