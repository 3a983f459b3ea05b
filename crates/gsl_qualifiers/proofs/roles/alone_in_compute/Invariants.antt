use Rattle.std.proofs.Common.{◌≡◌, drop}
use Rattle.gsl_base.specs.declared.stage.Stage.TheVariants.{Compute}
use Rattle.gsl_qualifiers.specs.Qualifiers.{storage_in, alone_by}
use Rattle.gsl_qualifiers.proofs.roles.alone_in_compute.Given as goal

abbrev pub invariant-loop-k : goal.invariant-loop-k
invariant-loop-k l = alone_by Compute (storage_in (drop l.k l.fn.quals)) ≡ alone_by Compute (storage_in l.fn.quals)
