use Rattle.std.proofs.Common.{arith}
use Rattle.std.proofs.lemmas.Result.{err_from_is_err_and}
use Rattle.gsl_lower_types.specs.Globals.{global_put}
use Rattle.gsl_lower_types.specs.Known.{each}
use Rattle.gsl_lower_types.proofs.Turns.{ends, goes_on, stops}
use Rattle.gsl_lower_types.proofs.globals.globals_put.Goals as goal

pub returns-in_err-global_put : goal.returns-in_err-global_put
returns-in_err-global_put c =
    let p = err_from_is_err_and c.from_residual.result c.from_residual.ensures.1 in
    rw (p.1, p.2) (stops (global_put c.args.structs.now) c.args.globals.now c.loop-k.k c.index.result.now c.loop-k.ids _ c.loop-k.known c.loop-k.b (each (global_put c.args.structs.now) c.args.globals.now c.args.known.now c.args.b.now) c.index.ensures
    c.in_err-global_put.ensures c.loop-k.invariant)

pub loop-k-preserved : goal.loop-k-preserved
loop-k-preserved c =
    goes_on (global_put c.args.structs.now) c.args.globals.now c.loop-k.k c.index.result.now c.loop-k.ids c.push.new.self c.in_ok-global_put.field-0 c.loop-k.known c.global_put.new.known c.loop-k.b c.global_put.new.b
    (each (global_put c.args.structs.now) c.args.globals.now c.args.known.now c.args.b.now) c.index.ensures c.in_ok-global_put.ensures c.in_ok-push.ensures.ok c.loop-k.invariant

pub returns : goal.returns
returns c = ends (global_put c.args.structs.now) c.args.globals.now c.loop-k.k c.loop-k.ids c.loop-k.known c.loop-k.b _ (omega (arith, c.loop-k-test.false, c.len-k-end.ensures)) c.loop-k.invariant
