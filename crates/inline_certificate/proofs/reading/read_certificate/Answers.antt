use Rattle.std.proofs.lemmas.Result.{MatchResult-weaker, err_from_is_err_and}
use Rattle.inline_certificate.proofs.WholeText.{no_certificate, only_read, complete_read}
use Rattle.inline_certificate.proofs.reading.read_certificate.Goals as goal

pub returns-in_err-head-clause-fault : goal.returns-in_err-head-clause-fault
returns-in_err-head-clause-fault c =
    let p = err_from_is_err_and c.from_residual.result c.from_residual.ensures.1 in
    rw (p.1, p.2) (λ other. let told = c.in_err-head.ensures in told c.args.candidates.now)

pub returns-in_err-head-clause-complete : goal.returns-in_err-head-clause-complete
returns-in_err-head-clause-complete c = MatchResult-weaker c.from_residual.result (returns-in_err-head-clause-fault c) (λ d u. u) (λ e h other. no_certificate c.args.candidates.now c.args.bytes.now e (h other))

pub returns-clause-complete : goal.returns-clause-complete
returns-clause-complete c = complete_read c.args.candidates.now c.args.bytes.now c.in_ok-head.head c.read_body.result c.in_ok-head.ensures c.read_body.ensures

pub returns-clause-only : goal.returns-clause-only
returns-clause-only c = only_read c.args.candidates.now c.args.bytes.now c.in_ok-head.head c.read_body.result c.requires.ascending c.in_ok-head.ensures c.read_body.ensures
