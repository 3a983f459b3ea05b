use Rattle.std.proofs.Common.{◌≡◌, drop}
use Rattle.gsl_link_names.specs.Against as spec
use Rattle.gsl_link_names.proofs.adding.add_variables.Given as goal

abbrev pub invariant-loop-k : goal.invariant-loop-k
invariant-loop-k l = spec.with_variables l.rows.entries (drop l.k l.globals) ≡ spec.with_variables l.initial.rows.entries l.globals
