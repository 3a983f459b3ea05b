use Rattle.std.proofs.Common.{◌≡◌, ◌+◌, ◌-◌, length}
use Rattle.gsl_leaves.specs.Table.{told}
use Rattle.gsl_chains.specs.Globals.{global_words, later_words}
use Rattle.gsl_chains.proofs.globals.global_words.Given as goal

abbrev pub invariant-loop-at : goal.invariant-loop-at
invariant-loop-at l = (l.count ≡ length l.frames.instrs) × (l.words ≡ told l.words) × (told (l.words + later_words l.frames l.at) ≡ told (global_words l.frames))

abbrev pub decreases-loop-at : goal.decreases-loop-at
decreases-loop-at l = l.count - l.at
