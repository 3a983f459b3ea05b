use Rattle.std.proofs.Common.{◌≡◌, drop}
use Rattle.gsl_qualifiers.specs.Qualifiers.{storage_in, variables_by}
use Rattle.gsl_qualifiers.proofs.roles.role_of_variables.Given as goal

abbrev pub invariant-loop-k : goal.invariant-loop-k
invariant-loop-k l = variables_by (storage_in (drop l.k l.fn.quals)) ≡ variables_by (storage_in l.fn.quals)
