use Rattle.std.proofs.Common.{◌≡◌, drop}
use Rattle.gsl_meaning.specs.Fits as spec
use Rattle.gsl_meaning.proofs.fitting.blocks_met.Given as goal

abbrev pub invariant-loop-k : goal.invariant-loop-k
invariant-loop-k l = spec.blocks_met (drop l.k l.blocks) l.input ≡ spec.blocks_met l.blocks l.input
