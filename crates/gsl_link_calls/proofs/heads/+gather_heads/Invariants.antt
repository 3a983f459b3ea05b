use Rattle.std.proofs.Common.{◌≡◌, drop}
use Rattle.gsl_link_calls.specs.Gathering as spec
use Rattle.gsl_link_calls.specs.Gathering.{in_turn}
use Rattle.gsl_link_calls.proofs.heads.+gather_heads.Given as goal

abbrev pub invariant-all_heads_gathered-loop-k : goal.invariant-all_heads_gathered-loop-k
invariant-all_heads_gathered-loop-k l = in_turn spec.heads_gathered l.calls (drop l.k l.es) ≡ in_turn spec.heads_gathered l.initial.calls l.es
