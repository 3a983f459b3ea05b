use Rattle.std.proofs.Common.{◌≡◌, ◌++◌, length}
use Rattle.gsl_asm.specs.Shown.{operands_text}
use Rattle.gsl_asm.proofs.showing.put_operands.Given as goal

abbrev pub invariant-loop-part : goal.invariant-loop-part
invariant-loop-part l = l.out ++ operands_text l.target l.last l.parts ≡ l.initial.out ++ operands_text l.target 0 l.initial.parts

abbrev pub decreases-loop-part : goal.decreases-loop-part
decreases-loop-part l = length l.parts
