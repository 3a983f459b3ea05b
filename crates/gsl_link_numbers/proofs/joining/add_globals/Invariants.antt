use Rattle.std.proofs.Common.{◌≡◌, drop}
use Rattle.gsl_link_numbers.specs.Numbering as spec
use Rattle.gsl_link_numbers.proofs.joining.add_globals.Given as goal

abbrev pub invariant-loop-k : goal.invariant-loop-k
invariant-loop-k l = spec.globals_behind l.all l.spots.entries l.n l.unit l.k (drop l.k l.globals) ≡ spec.globals_behind l.initial.all l.spots.entries l.n l.unit 0 l.globals
