use Rattle.std.proofs.Common.{◌≡◌, drop}
use Rattle.gsl_inputs.specs.Given as blocks
use Rattle.gsl_enact_fits.proofs.demands.words_at.Given as goal

abbrev pub invariant-loop-k : goal.invariant-loop-k
invariant-loop-k l = blocks.words_at (drop l.k l.ins) l.location ≡ blocks.words_at l.ins l.location
