use Rattle.std.proofs.Common.{◌≡◌, drop}
use Rattle.gsl_link_calls.specs.Gathering as spec
use Rattle.gsl_link_calls.specs.Gathering.{in_turn}
use Rattle.gsl_link_calls.proofs.gather.+gather_calls.Given as goal

abbrev pub invariant-all_gathered-loop-k : goal.invariant-all_gathered-loop-k
invariant-all_gathered-loop-k l = in_turn spec.gathered l.calls (drop l.k l.es) ≡ in_turn spec.gathered l.initial.calls l.es
