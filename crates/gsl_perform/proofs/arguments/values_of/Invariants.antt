use Rattle.std.proofs.Common.{◌≡◌, ◌++◌, drop}
use Rattle.gsl_meaning.specs.Expressions.{values_of}
use Rattle.gsl_perform.proofs.arguments.values_of.Given as goal

abbrev pub invariant-loop-k : goal.invariant-loop-k
invariant-loop-k l = l.values ++ values_of (drop l.k l.passed) ≡ values_of l.passed
