use Rattle.std.proofs.Common.{◌≡◌, drop, take}
use Rattle.gsl_region.specs.Showing.{as_words}
use Rattle.gsl_region.proofs.words.load_from.Given as goal

abbrev pub invariant-loop-k : goal.invariant-loop-k
invariant-loop-k l = take l.k l.into ≡ take l.k (drop l.place (as_words l.bytes))
