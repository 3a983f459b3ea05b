use Rattle.std.proofs.Common.{◌≡◌, ◌-◌}
use Rattle.gsl_meaning.specs.Fits as spec
use Rattle.gsl_meaning.proofs.fitting.values_met.Given as goal

abbrev pub invariant-loop-location : goal.invariant-loop-location
invariant-loop-location l = spec.values_from l.interfaces l.input l.location (1024 - l.location) ≡ spec.values_met l.interfaces l.input
