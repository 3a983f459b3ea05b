use Rattle.std.proofs.Common.{arith}
use Rattle.std.proofs.lemmas.Result.{err_from_is_err_and}
use Rattle.gsl_lower_types.specs.Known.{all}
use Rattle.gsl_lower_types.specs.Values.{local_type}
use Rattle.gsl_lower_types.proofs.Turns.{all_end, all_on, all_stop}
use Rattle.gsl_lower_types.proofs.values.locals_types.Goals as goal

pub returns-in_err-local_type : goal.returns-in_err-local_type
returns-in_err-local_type c =
    let p = err_from_is_err_and c.from_residual.result c.from_residual.ensures.1 in
    rw (p.1, p.2) (all_stop local_type c.args.locals.now c.loop-k.k c.index.result.now _ c.loop-k.known c.loop-k.b (all local_type c.args.locals.now c.args.known.now c.args.b.now) c.index.ensures c.in_err-local_type.ensures c.loop-k.invariant)

pub loop-k-preserved : goal.loop-k-preserved
loop-k-preserved c =
    all_on local_type c.args.locals.now c.loop-k.k c.index.result.now c.loop-k.known c.local_type.new.known c.loop-k.b c.local_type.new.b (all local_type c.args.locals.now c.args.known.now c.args.b.now) c.index.ensures c.in_ok-local_type.ensures c.loop-k.invariant

pub returns : goal.returns
returns c = all_end local_type c.args.locals.now c.loop-k.k c.loop-k.known c.loop-k.b _ (omega (arith, c.loop-k-test.false, c.len-k-end.ensures)) c.loop-k.invariant
