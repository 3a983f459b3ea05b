use Rattle.std.proofs.Common.{◌≡◌, drop}
use Rattle.gsl_link_names.specs.Against as spec
use Rattle.gsl_link_names.proofs.adding.add_interfaces.Given as goal

abbrev pub invariant-loop-k : goal.invariant-loop-k
invariant-loop-k l = spec.with_interfaces l.rows.entries (drop l.k l.interfaces) ≡ spec.with_interfaces l.initial.rows.entries l.interfaces
