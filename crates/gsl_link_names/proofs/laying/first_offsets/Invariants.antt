use Rattle.std.proofs.Common.{◌≡◌, take}
use Rattle.gsl_link_units.specs.Agreement as spec
use Rattle.gsl_link_names.proofs.laying.first_offsets.Given as goal

abbrev pub invariant-loop-k : goal.invariant-loop-k
invariant-loop-k l = l.all ≡ take l.k (spec.offsets l.fn.laid)
