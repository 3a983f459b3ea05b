use Rattle.std.proofs.Common.{◌≡◌, length}
use Rattle.gsl_pp.specs.Definitions.{has_hash}
use Rattle.gsl_pp.proofs.definition.has_hash.Given as goal

abbrev pub invariant-loop-rest : goal.invariant-loop-rest
invariant-loop-rest l = has_hash l.rest ≡ has_hash l.initial.rest

abbrev pub decreases-loop-rest : goal.decreases-loop-rest
decreases-loop-rest l = length l.rest
