use Rattle.std.proofs.lemmas.Result.{err_from_is_err_and}
use Rattle.ir_reader.proofs.Refused.{refusal, within_is_read, told_of, beyond_refused, beyond_is_not_within, within}
use Rattle.ir_reader.proofs.read.read_module.Goals as goal

pub returns-in_err-found-clause-read : goal.returns-in_err-found-clause-read
returns-in_err-found-clause-read c = λ m h. let p = err_from_is_err_and c.from_residual.result c.from_residual.ensures.1 in rw (p.1, p.2) (within_is_read c.args.bytes.now m c.in_err-found.field-0.0 h c.in_err-found.ensures)

pub returns-in_err-found-clause-fault : goal.returns-in_err-found-clause-fault
returns-in_err-found-clause-fault c = let p = err_from_is_err_and c.from_residual.result c.from_residual.ensures.1 in rw (p.1, p.2) (refusal c.args.bytes.now c.in_err-found.field-0.0 c.in_err-found.ensures)

pub returns-in-Some-clause-read : goal.returns-in-Some-clause-read
returns-in-Some-clause-read c = λ m h. absurd (beyond_is_not_within c.args.bytes.now c.in_ok-found.found m c.in_ok-found.ensures.0 c.in-Some.place c.in_ok-found.ensures.1 (told_of c.in_ok-found.found.funcs c.as_slice.result.now c.in_ok-place.field-0 _ c.as_slice.ensures c.in_ok-place.ensures c.in-Some.is) h)

pub returns-in-Some-clause-fault : goal.returns-in-Some-clause-fault
returns-in-Some-clause-fault c = beyond_refused c.args.bytes.now c.in_ok-found.found c.in_ok-found.ensures.0 c.in-Some.place c.in_ok-found.ensures.1 (told_of c.in_ok-found.found.funcs c.as_slice.result.now c.in_ok-place.field-0 _ c.as_slice.ensures c.in_ok-place.ensures c.in-Some.is)

pub returns-in-None-clause-module_of_it : goal.returns-in-None-clause-module_of_it
returns-in-None-clause-module_of_it c = within c.args.bytes.now c.in_ok-found.found c.in_ok-found.ensures.0 c.in_ok-found.ensures.1 (told_of c.in_ok-found.found.funcs c.as_slice.result.now c.in_ok-place.field-0 _ c.as_slice.ensures c.in_ok-place.ensures c.in-None.is)
