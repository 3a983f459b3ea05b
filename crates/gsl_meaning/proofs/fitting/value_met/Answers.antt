use Rattle.std.proofs.Common.{sym}
use Rattle.gsl_meaning.proofs.Lists.{value_on}
use Rattle.gsl_meaning.proofs.fitting.value_met.Goals as goal

pub loop-k-preserved : goal.loop-k-preserved
loop-k-preserved c = value_on c.args.input.now c.args.location c.loop-k.k c.args.interfaces.now c.index.result.now c.index.ensures (sym (c.if-is_wanting.ensures)) c.loop-k.invariant
