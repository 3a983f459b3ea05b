use Rattle.std.proofs.Common.{◌≡◌, drop}
use Rattle.gsl_enact_fits.specs.Passes.{model_from}
use Rattle.gsl_enact_fits.proofs.ids.model_of.Given as goal

abbrev pub invariant-loop-at : goal.invariant-loop-at
invariant-loop-at l = l.model ≡ model_from (drop l.at l.definitions.instrs)

abbrev pub decreases-loop-at : goal.decreases-loop-at
decreases-loop-at l = l.at
