use Rattle.std.proofs.Common.{◌≡◌, length}
use Rattle.gsl_pp.specs.Feeding.{goes_on}
use Rattle.gsl_pp.proofs.feed.Feed.draw.Given as goal

abbrev pub invariant-loop-token : goal.invariant-loop-token
invariant-loop-token l = (goes_on l.self ≡ goes_on l.initial.self) × (l.self.refused ≡ l.initial.self.refused)

abbrev pub decreases-loop-token : goal.decreases-loop-token
decreases-loop-token l = length l.self.rest
