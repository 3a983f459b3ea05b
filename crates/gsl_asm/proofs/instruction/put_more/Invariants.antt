use Rattle.std.proofs.Common.{◌≡◌, false, length}
use Rattle.gsl_asm.specs.Reading.{before, more_of}
use Rattle.gsl_asm.proofs.instruction.put_more.Given as goal

abbrev pub invariant-loop-word : goal.invariant-loop-word
invariant-loop-word l = before l.args (more_of l.target l.rest l.second l.last l.source) ≡ before l.initial.args (more_of l.target l.rest false l.initial.last l.initial.source)

abbrev pub decreases-loop-word : goal.decreases-loop-word
decreases-loop-word l = length l.source
