use Rattle.gsl_fold.proofs.Several.{standing_on}
use Rattle.gsl_fold.proofs.standing.+standing.Goals as goal

pub of_all-loop-k-preserved : goal.of_all-loop-k-preserved
of_all-loop-k-preserved t c =
    standing_on c.args.consts.now c.args.es.now c.loop-k.k c.index.result.now c.loop-k.worst c.worse-worst.result c.standing.result c.index.ensures c.standing.ensures c.worse-worst.ensures c.loop-k.invariant
