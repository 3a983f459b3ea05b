use Rattle.std.proofs.Common.{arith}
use Rattle.gsl_slow.proofs.Searches.{words_dropped}
use Rattle.gsl_slow.proofs.machine.place.Goals as goal

pub loop-i-preserved : goal.loop-i-preserved
loop-i-preserved c = omega (arith, words_dropped c.args.m.now.instrs c.loop-i.i c.args-args.result.now c.args-args.ensures, c.loop-i.invariant)
