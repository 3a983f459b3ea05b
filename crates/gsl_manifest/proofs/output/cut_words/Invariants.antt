use Rattle.std.proofs.Common.{◌≡◌, ◌++◌, length}
use Rattle.gsl_manifest.specs.Listing.{words_of, left_over}
use Rattle.gsl_manifest.proofs.output.cut_words.Given as goal

abbrev pub invariant-loop-rest : goal.invariant-loop-rest
invariant-loop-rest l = record {
  words : l.words ++ words_of l.rest ≡ words_of l.bytes;
  left : left_over l.rest ≡ left_over l.bytes;
}

abbrev pub decreases-loop-rest : goal.decreases-loop-rest
decreases-loop-rest l = length l.rest
