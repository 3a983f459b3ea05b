use Rattle.std.proofs.Common.{◌≡◌, drop}
use Rattle.gsl_link_names.specs.Against as spec
use Rattle.gsl_link_names.proofs.asking.ask_variables.Given as goal

abbrev pub invariant-loop-k : goal.invariant-loop-k
invariant-loop-k l = spec.variables_against l.rows.entries l.functions.keys l.places (drop l.k l.globals) ≡ spec.variables_against l.rows.entries l.functions.keys l.initial.places l.globals
