use Rattle.std.proofs.Common.{◌≡◌, drop}
use Rattle.gsl_cmd.specs.Verdict.{typed_behind, typed_from}
use Rattle.gsl_cmd.proofs.compiling.typed_all.Given as goal

abbrev pub invariant-loop-k : goal.invariant-loop-k
invariant-loop-k l = typed_behind l.stage l.units l.k (drop l.k l.sources) ≡ typed_from l.stage 0 l.sources
