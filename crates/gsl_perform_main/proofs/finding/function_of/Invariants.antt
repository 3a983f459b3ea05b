use Rattle.std.proofs.Common.{◌≡◌, drop}
use Rattle.gsl_meaning.specs.Shader as spec
use Rattle.gsl_perform_main.proofs.finding.function_of.Given as goal

abbrev pub invariant-loop-k : goal.invariant-loop-k
invariant-loop-k l = spec.function_of (drop l.k l.functions) l.number ≡ spec.function_of l.functions l.number
