use Rattle.std.proofs.Common.{sym}
use Rattle.gsl_enact_fits.proofs.Loops.{bytes_on}
use Rattle.gsl_enact_fits.proofs.demands.bytes_at.Goals as goal

pub loop-k-preserved : goal.loop-k-preserved
loop-k-preserved c = bytes_on c.args.buffers.now c.args.set c.args.binding c.loop-k.k c.index.result.now c.index.ensures (sym (c.if-is_at.ensures)) c.loop-k.invariant
