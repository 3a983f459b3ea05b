use Rattle.std.proofs.Common.{arith}
use Rattle.gsl_perform.proofs.Rows.{back_end}
use Rattle.gsl_perform.proofs.arguments.all_back.Goals as goal

pub returns : goal.returns
returns c = back_end c.args.passed.now c.args.values.now c.loop-k.k _ _ (omega (arith, c.loop-k-test.false, c.min-k-end.ensures)) c.loop-k.invariant
