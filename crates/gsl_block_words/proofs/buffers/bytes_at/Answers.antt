use Rattle.std.proofs.Common.{sym}
use Rattle.gsl_meaning.proofs.Lists.{bytes_on}
use Rattle.gsl_block_words.proofs.buffers.bytes_at.Goals as goal

pub loop-k-preserved : goal.loop-k-preserved
loop-k-preserved c = bytes_on c.args.buffers.now c.args.set c.args.binding c.loop-k.k c.index.result.now c.index.ensures (sym (c.if-is_at.ensures)) c.loop-k.invariant
