use Rattle.std.proofs.Common.{◌≡◌, length}
use Rattle.gsl_pp.specs.Unit.{live_trace, preprocessed}
use Rattle.gsl_pp.specs.Feeding.{feeds, onto}
use Rattle.gsl_pp.proofs.feed.preprocess.Given as goal

abbrev pub invariant-loop-feed : goal.invariant-loop-feed
invariant-loop-feed l = onto l.list (live_trace (feeds l.feed)) ≡ preprocessed l.fn.unit l.fn.raws

abbrev pub decreases-loop-feed : goal.decreases-loop-feed
decreases-loop-feed l = length (feeds l.feed).given
