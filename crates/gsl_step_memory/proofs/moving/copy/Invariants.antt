use Rattle.std.proofs.Common.{◌≡◌, drop, take}
use Rattle.gsl_region.specs.Showing.{with_words}
use Rattle.gsl_step_memory.proofs.moving.copy.Given as goal

abbrev pub invariant-loop-k : goal.invariant-loop-k
invariant-loop-k l = l.slots ≡ with_words l.initial.slots l.at (take l.k (take l.count (drop l.from l.words)))
