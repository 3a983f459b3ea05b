use Rattle.std.proofs.Common.{arith}
use Rattle.std.proofs.lemmas.Result.{err_from_is_err_and}
use Rattle.gsl_lower_types.specs.Known.{all}
use Rattle.gsl_lower_types.specs.Values.{prototype_types}
use Rattle.gsl_lower_types.proofs.Turns.{all_end, all_on, all_stop}
use Rattle.gsl_lower_types.proofs.values.prototypes_types.Goals as goal

pub returns-in_err-prototype_types : goal.returns-in_err-prototype_types
returns-in_err-prototype_types c =
    let p = err_from_is_err_and c.from_residual.result c.from_residual.ensures.1 in
    rw (p.1, p.2) (all_stop prototype_types c.args.prototypes.now c.loop-k.k c.index.result.now _ c.loop-k.known c.loop-k.b (all prototype_types c.args.prototypes.now c.args.known.now c.args.b.now) c.index.ensures c.in_err-prototype_types.ensures c.loop-k.invariant)

pub loop-k-preserved : goal.loop-k-preserved
loop-k-preserved c =
    all_on prototype_types c.args.prototypes.now c.loop-k.k c.index.result.now c.loop-k.known c.prototype_types.new.known c.loop-k.b c.prototype_types.new.b (all prototype_types c.args.prototypes.now c.args.known.now c.args.b.now) c.index.ensures c.in_ok-prototype_types.ensures c.loop-k.invariant

pub returns : goal.returns
returns c = all_end prototype_types c.args.prototypes.now c.loop-k.k c.loop-k.known c.loop-k.b _ (omega (arith, c.loop-k-test.false, c.len-k-end.ensures)) c.loop-k.invariant
