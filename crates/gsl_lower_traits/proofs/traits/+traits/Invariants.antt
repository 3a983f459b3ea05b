use Rattle.std.proofs.Common.{◌≡◌, drop}
use Rattle.gsl_lower_traits.specs.Traits as spec
use Rattle.gsl_lower_traits.proofs.traits.+traits.Given as goal

abbrev pub invariant-together-loop-k : goal.invariant-together-loop-k
invariant-together-loop-k l = spec.together_from l.all (drop l.k l.es) ≡ spec.together_of l.es
