use Rattle.std.proofs.Common.{◌≡◌, drop}
use Rattle.gsl_lower_flow.specs.Programs as spec
use Rattle.gsl_lower_flow.specs.Reaching.{is_among}
use Rattle.gsl_lower_flow.proofs.program.asked_all.Given as goal

abbrev pub invariant-loop-k : goal.invariant-loop-k
invariant-loop-k l =
    spec.asked_all (is_among l.found.keys l.main) l.asker.prototypes.now (drop l.k l.functions) l.asked ≡ spec.asked_all (is_among l.found.keys l.main) l.asker.prototypes.now l.functions l.initial.asked
