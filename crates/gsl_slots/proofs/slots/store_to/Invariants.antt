use Rattle.std.proofs.Common.{◌≡◌, take}
use Rattle.gsl_region.specs.Showing.{with_words}
use Rattle.gsl_slots.proofs.slots.store_to.Given as goal

abbrev pub invariant-loop-k : goal.invariant-loop-k
invariant-loop-k l = l.words ≡ with_words l.initial.words l.at (take l.k l.from)
