use Rattle.std.proofs.Common.{◌≡◌, drop, map, ◌++◌}
use Rattle.gsl_calls.specs.Calls.{any_misused}
use Rattle.gsl_calls.proofs.calling.any_misused.Given as goal

abbrev pub invariant-loop-k : goal.invariant-loop-k
invariant-loop-k l = any_misused l.fn.scene l.fn.params l.fn.args ≡ any_misused l.fn.scene (drop l.k l.fn.params) (drop l.k l.fn.args)
