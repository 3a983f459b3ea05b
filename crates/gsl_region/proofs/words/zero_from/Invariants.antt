use Rattle.std.proofs.Common.{◌≡◌, replicate}
use Rattle.gsl_region.specs.Showing.{as_words, with_words}
use Rattle.gsl_region.proofs.words.zero_from.Given as goal

abbrev pub invariant-loop-k : goal.invariant-loop-k
invariant-loop-k l = as_words l.bytes ≡ with_words (as_words l.initial.bytes) l.place (replicate l.k 0)
