use Rattle.cert_checker.proofs.Exact.{unbroken_passes, passing_unbroken}
use Rattle.cert_checker.proofs.laws.a_certificate_passes_where_nothing_is_broken.Goals as goal

pub returns-clause-passes : goal.returns-clause-passes
returns-clause-passes c = unbroken_passes

pub returns-clause-unbroken : goal.returns-clause-unbroken
returns-clause-unbroken c = passing_unbroken
