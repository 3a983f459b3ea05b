use Rattle.std.proofs.Common.{Some, ap}
use Rattle.std.proofs.lemmas.Result.{err_from_is_err_and}
use Rattle.gsl_given.specs.Given.{Got, and_then}
use Rattle.gsl_given.proofs.Found.{is_got, stops}
use Rattle.gsl_given.proofs.given.push_of.Goals as goal

pub returns-in_err-bytes-clause-told : goal.returns-in_err-bytes-clause-told
returns-in_err-bytes-clause-told g c = λ files told.
    let p = err_from_is_err_and c.from_residual.result c.from_residual.ensures.1 in
    rw (p.1, p.2) (stops files c.args.line.now.line c.args.line.now.path (λ bytes. Got (Some bytes)) c.in_err-bytes.field-0.0 (rw told at c.in_err-bytes.ensures.told))

pub returns-clause-told : goal.returns-clause-told
returns-clause-told g c = λ files told.
    let read = rw told at c.in_ok-bytes.ensures.told in
    ap (λ found. and_then found (λ bytes. Got (Some bytes))) (is_got files c.args.line.now.line c.args.line.now.path c.in_ok-bytes.bytes read.0 read.1)
