use Rattle.std.proofs.Common.{◌≡◌, drop}
use Rattle.gsl_link_names.specs.Against as spec
use Rattle.gsl_link_names.proofs.asking.ask_heads.Given as goal

abbrev pub invariant-loop-k : goal.invariant-loop-k
invariant-loop-k l = spec.heads_against l.rows.entries l.heads.entries l.places (drop l.k l.prototypes) ≡ spec.heads_against l.rows.entries l.heads.entries l.initial.places l.prototypes
