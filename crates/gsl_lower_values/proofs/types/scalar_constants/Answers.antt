use Rattle.std.proofs.lemmas.Result.{err_from_is_err_and}
use Rattle.gsl_lower_values.specs.Types as spec
use Rattle.gsl_lower_values.proofs.Rows.{ends, goes_on, stops}
use Rattle.gsl_lower_values.proofs.types.scalar_constants.Goals as goal

pub returns-in_err-part : goal.returns-in_err-part
returns-in_err-part c =
    let p = err_from_is_err_and c.from_residual.result c.from_residual.ensures.1 in
    rw (p.1, p.2) (stops (spec.scalar_constant c.args.s) c.args.words.now c.loop-k.k _ c.loop-k.parts _ c.loop-k.b (spec.scalar_constants c.args.s c.args.words.now c.args.b.now) c.word_at.ensures c.in_err-part.ensures c.loop-k.invariant)

pub loop-k-preserved : goal.loop-k-preserved
loop-k-preserved c =
    goes_on (spec.scalar_constant c.args.s) c.args.words.now c.loop-k.k _ c.loop-k.parts c.push.new.self c.in_ok-part.part c.loop-k.b c.scalar_constant.new.b (spec.scalar_constants c.args.s c.args.words.now c.args.b.now) c.word_at.ensures c.in_ok-part.ensures c.in_ok-push.ensures.ok c.loop-k.invariant

pub returns : goal.returns
returns c = ends (spec.scalar_constant c.args.s) c.args.words.now c.loop-k.k c.loop-k.parts c.loop-k.b _ c.loop-k-test.false c.loop-k.invariant
