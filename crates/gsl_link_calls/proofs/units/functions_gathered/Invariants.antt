use Rattle.std.proofs.Common.{◌≡◌, drop}
use Rattle.gsl_link_calls.specs.Gathering as spec
use Rattle.gsl_link_calls.specs.Gathering.{in_turn}
use Rattle.gsl_link_calls.proofs.units.functions_gathered.Given as goal

abbrev pub invariant-loop-k : goal.invariant-loop-k
invariant-loop-k l = in_turn spec.function_gathered l.calls (drop l.k l.functions) ≡ in_turn spec.function_gathered l.initial.calls l.functions
