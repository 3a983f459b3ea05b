use Rattle.std.proofs.Common.{sym}
use Rattle.gsl_meaning.proofs.Lists.{words_on}
use Rattle.gsl_perform_state.proofs.beginning.words_at.Goals as goal

pub loop-k-preserved : goal.loop-k-preserved
loop-k-preserved c = words_on c.args.ins.now c.args.location c.loop-k.k c.index.result.now c.index.ensures (sym (c.if-is_there.ensures)) c.loop-k.invariant
