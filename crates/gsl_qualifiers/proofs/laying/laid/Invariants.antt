use Rattle.std.proofs.Common.{◌≡◌, drop}
use Rattle.gsl_qualifiers.specs.Qualifiers as spec
use Rattle.gsl_qualifiers.proofs.laying.laid.Given as goal

abbrev pub invariant-loop-k : goal.invariant-loop-k
invariant-loop-k l = spec.laid l.fn.env l.fn.role (drop l.k l.fn.items) l.said ≡ spec.laid l.fn.env l.fn.role l.fn.items l.fn.said
