use Rattle.std.proofs.Common.{◌≡◌, drop}
use Rattle.gsl_meaning.specs.Fits as spec
use Rattle.gsl_meaning.proofs.fitting.value_met.Given as goal

abbrev pub invariant-loop-k : goal.invariant-loop-k
invariant-loop-k l = spec.value_met l.input l.location (drop l.k l.interfaces) ≡ spec.value_met l.input l.location l.interfaces
