use Rattle.std.proofs.Common.{arith}
use Rattle.std.proofs.lemmas.Result.{err_from_is_err_and}
use Rattle.gsl_lower_types.specs.Known.{all}
use Rattle.gsl_lower_types.specs.Values.{function_types}
use Rattle.gsl_lower_types.proofs.Turns.{all_end, all_on, all_stop}
use Rattle.gsl_lower_types.proofs.values.functions_types.Goals as goal

pub returns-in_err-function_types : goal.returns-in_err-function_types
returns-in_err-function_types c =
    let p = err_from_is_err_and c.from_residual.result c.from_residual.ensures.1 in
    rw (p.1, p.2) (all_stop function_types c.args.functions.now c.loop-k.k c.index.result.now _ c.loop-k.known c.loop-k.b (all function_types c.args.functions.now c.args.known.now c.args.b.now) c.index.ensures c.in_err-function_types.ensures c.loop-k.invariant)

pub loop-k-preserved : goal.loop-k-preserved
loop-k-preserved c =
    all_on function_types c.args.functions.now c.loop-k.k c.index.result.now c.loop-k.known c.function_types.new.known c.loop-k.b c.function_types.new.b (all function_types c.args.functions.now c.args.known.now c.args.b.now) c.index.ensures c.in_ok-function_types.ensures c.loop-k.invariant

pub returns : goal.returns
returns c = all_end function_types c.args.functions.now c.loop-k.k c.loop-k.known c.loop-k.b _ (omega (arith, c.loop-k-test.false, c.len-k-end.ensures)) c.loop-k.invariant
