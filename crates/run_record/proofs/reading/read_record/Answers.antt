use Rattle.std.proofs.Common.{inl, ap, Ok}
use Rattle.std.proofs.lemmas.Result.{err_from_is_err_and}
use Rattle.run_record.proofs.Records.{is_within, is_found, is_read, is_not_faulted, is_refused, is_fault, is_faulted, one_record}
use Rattle.run_record.proofs.reading.read_record.Goals as goal

pub overflow_sub-result : goal.overflow_sub-result
overflow_sub-result c = is_within c.args.text.now (c.in_ok-steps.steps.items, c.in_ok-steps.rest.now) c.in_ok-steps.ensures

pub returns-clause-found : goal.returns-clause-found
returns-clause-found c = is_found c.args.text.now (c.in_ok-steps.steps.items, c.in_ok-steps.rest.now) c.in_ok-steps.ensures

pub returns-clause-read : goal.returns-clause-read
returns-clause-read c = λ format steps rest are is. inl (ap (λ r. Ok r) (is_read c.args.text.now (c.in_ok-steps.steps.items, c.in_ok-steps.rest.now) format steps rest c.in_ok-steps.ensures are is))

pub returns-clause-one : goal.returns-clause-one
returns-clause-one c = one_record c.args.text.now

pub returns-clause-fault : goal.returns-clause-fault
returns-clause-fault c = λ line f. absurd (is_not_faulted c.args.text.now (c.in_ok-steps.steps.items, c.in_ok-steps.rest.now) line c.in_ok-steps.ensures f)

pub returns-in_err-steps-clause-read : goal.returns-in_err-steps-clause-read
returns-in_err-steps-clause-read c = λ format steps rest are is.
    let p = err_from_is_err_and c.from_residual.result c.from_residual.ensures.1 in
    rw (p.1, p.2) (is_refused c.args.text.now _ _ format steps rest c.in_err-steps.ensures are is)

pub returns-in_err-steps-clause-one : goal.returns-in_err-steps-clause-one
returns-in_err-steps-clause-one c = one_record c.args.text.now

pub returns-in_err-steps-clause-bad_line : goal.returns-in_err-steps-clause-bad_line
returns-in_err-steps-clause-bad_line c = λ line is.
    let p = err_from_is_err_and c.from_residual.result c.from_residual.ensures.1 in
    is_fault c.args.text.now _ line c.in_err-steps.ensures (rw (p.1, p.2) at is)

pub returns-in_err-steps-clause-fault : goal.returns-in_err-steps-clause-fault
returns-in_err-steps-clause-fault c = λ line f.
    let p = err_from_is_err_and c.from_residual.result c.from_residual.ensures.1 in
    rw (p.1, p.2) (is_faulted c.args.text.now _ line c.in_err-steps.ensures f)
