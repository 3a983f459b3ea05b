use Rattle.std.proofs.Common.{◌≡◌, drop}
use Rattle.gsl_inputs.specs.Given as stages
use Rattle.gsl_perform_state.proofs.beginning.words_at.Given as goal

abbrev pub invariant-loop-k : goal.invariant-loop-k
invariant-loop-k l = stages.words_at (drop l.k l.ins) l.location ≡ stages.words_at l.ins l.location
