use Rattle.std.proofs.Common.{◌≤◌, ◌-◌, length, take}
use Rattle.gsl_words.specs.Faults.{AreRead}
use Rattle.gsl_words.proofs.decoding.starts_of.Given as goal

abbrev pub invariant-loop-at : goal.invariant-loop-at
invariant-loop-at l = record {
  read : AreRead (take l.at l.words) l.starts;
  within : l.at ≤ length l.words;
}

abbrev pub decreases-loop-at : goal.decreases-loop-at
decreases-loop-at l = length l.initial.words - l.at
