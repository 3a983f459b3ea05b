use Rattle.std.proofs.Common.{◌≡◌, drop}
use Rattle.gsl_link_numbers.specs.Numbering as spec
use Rattle.gsl_link_numbers.proofs.joining.add_units.Given as goal

abbrev pub invariant-loop-k : goal.invariant-loop-k
invariant-loop-k l =
    (spec.numberings_behind l.numbers l.t l.k (drop l.k l.sides) ≡ spec.numberings_behind l.initial.numbers l.t 0 l.sides)
    × (spec.all_globals_behind l.globals l.t l.k (drop l.k l.sides) ≡ spec.all_globals_behind l.initial.globals l.t 0 l.sides)
    × (spec.all_functions_behind l.functions l.t l.k (drop l.k l.sides) ≡ spec.all_functions_behind l.initial.functions l.t 0 l.sides)
