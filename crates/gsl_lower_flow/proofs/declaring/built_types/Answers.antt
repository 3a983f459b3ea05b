use Rattle.std.proofs.Common.{arith}
use Rattle.std.proofs.lemmas.Result.{err_from_is_err_and}
use Rattle.gsl_lower_types.specs.Known.{all}
use Rattle.gsl_lower_types.proofs.Turns.{all_end, all_on, all_stop}
use Rattle.gsl_lower_flow.specs.Programs.{built_type, built_types}
use Rattle.gsl_lower_flow.proofs.declaring.built_types.Goals as goal

pub returns-in_err-built_type : goal.returns-in_err-built_type
unfolding built_types
returns-in_err-built_type c =
    let p = err_from_is_err_and c.from_residual.result c.from_residual.ensures.1 in
    rw (p.1, p.2) (all_stop built_type c.args.asked.now c.loop-k.k c.index.result.now _ c.loop-k.known c.loop-k.b (all built_type c.args.asked.now c.args.known.now c.args.b.now) c.index.ensures c.in_err-built_type.ensures c.loop-k.invariant)

pub loop-k-preserved : goal.loop-k-preserved
loop-k-preserved c =
    all_on built_type c.args.asked.now c.loop-k.k c.index.result.now c.loop-k.known c.built_type.new.known c.loop-k.b c.built_type.new.b (all built_type c.args.asked.now c.args.known.now c.args.b.now) c.index.ensures c.in_ok-built_type.ensures c.loop-k.invariant

pub returns : goal.returns
unfolding built_types
returns c = all_end built_type c.args.asked.now c.loop-k.k c.loop-k.known c.loop-k.b _ (omega (arith, c.loop-k-test.false, c.len-k-end.ensures)) c.loop-k.invariant
