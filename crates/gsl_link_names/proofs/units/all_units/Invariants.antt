use Rattle.std.proofs.Common.{◌≡◌, drop}
use Rattle.gsl_link_names.specs.Against as spec
use Rattle.gsl_link_names.proofs.units.all_units.Given as goal

abbrev pub invariant-loop-k : goal.invariant-loop-k
invariant-loop-k l = spec.all_against l.structs l.rows.entries l.heads.entries l.functions.keys l.pushes l.places (drop l.k l.sides) ≡ spec.all_against l.structs l.initial.rows.entries l.initial.heads.entries l.initial.functions.keys l.initial.pushes l.initial.places l.sides
