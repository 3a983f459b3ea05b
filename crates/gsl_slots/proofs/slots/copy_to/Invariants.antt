use Rattle.std.proofs.Common.{◌≡◌, drop, take}
use Rattle.gsl_region.specs.Showing.{with_words}
use Rattle.gsl_slots.proofs.slots.copy_to.Given as goal

abbrev pub invariant-loop-k : goal.invariant-loop-k
invariant-loop-k l = l.words ≡ with_words l.initial.words l.at (take l.k (take l.count (drop l.from l.initial.words)))
