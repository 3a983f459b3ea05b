use Rattle.std.proofs.Common.{◌≡◌, ◌++◌, length}
use Rattle.gsl_instr.specs.Strings.{string_words}
use Rattle.gsl_instr.proofs.string.push_string.Given as goal

abbrev pub invariant-loop-rest : goal.invariant-loop-rest
invariant-loop-rest l = l.args ++ string_words l.rest ≡ l.fn.args ++ string_words l.fn.text

abbrev pub decreases-loop-rest : goal.decreases-loop-rest
decreases-loop-rest l = length l.rest
