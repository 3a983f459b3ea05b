use Rattle.std.proofs.Common.{◌≡◌, ◌++◌, drop}
use Rattle.gsl_manifest.specs.Listing.{word_lines}
use Rattle.gsl_manifest.proofs.output.put_words.Given as goal

abbrev pub invariant-loop-index : goal.invariant-loop-index
invariant-loop-index l = l.out ++ word_lines l.index (drop l.index l.words) ≡ l.initial.out ++ word_lines 0 l.words
