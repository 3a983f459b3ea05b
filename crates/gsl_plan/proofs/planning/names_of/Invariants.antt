use Rattle.std.proofs.Common.{◌≡◌, ◌++◌, drop}
use Rattle.clap.specs.Walk.{texts}
use Rattle.gsl_plan.proofs.planning.names_of.Given as goal

abbrev pub invariant-loop-k : goal.invariant-loop-k
invariant-loop-k l = l.names ++ texts (drop l.k l.files) ≡ texts l.files
