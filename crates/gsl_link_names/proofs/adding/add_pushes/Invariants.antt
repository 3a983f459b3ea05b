use Rattle.std.proofs.Common.{◌≡◌, drop}
use Rattle.gsl_link_names.specs.Against as spec
use Rattle.gsl_link_names.proofs.adding.add_pushes.Given as goal

abbrev pub invariant-loop-k : goal.invariant-loop-k
invariant-loop-k l = spec.with_pushes l.pushes (drop l.k l.blocks) ≡ spec.with_pushes l.initial.pushes l.blocks
