use Rattle.std.proofs.Common.{◌≡◌, drop, map, ◌++◌}
use Rattle.gsl_calls.specs.Calls.{params_of}
use Rattle.gsl_calls.proofs.calling.signatures.Given as goal

abbrev pub invariant-loop-k : goal.invariant-loop-k
invariant-loop-k l = l.list ++ map (params_of l.fn.scene) (drop l.k l.fn.numbers) ≡ map (params_of l.fn.scene) l.fn.numbers
