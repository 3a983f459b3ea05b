use Rattle.std.proofs.Common.{◌≡◌, drop, map, ◌++◌}
use Rattle.gsl_calls.specs.Candidates.{param_of}
use Rattle.gsl_calls.proofs.families.params_of.Given as goal

abbrev pub invariant-loop-k : goal.invariant-loop-k
invariant-loop-k l = l.params ++ map param_of (drop l.k l.fn.shapes) ≡ map param_of l.fn.shapes
