use Rattle.std.proofs.Common.{◌≡◌, drop}
use Rattle.gsl_check.specs.Units.{all, with_functions}
use Rattle.gsl_check.proofs.units.all.Given as goal

abbrev pub invariant-loop-k : goal.invariant-loop-k
invariant-loop-k l =
    all (drop l.k l.fn.unit) (with_functions (l.functions, l.env)) ≡ all l.fn.unit (with_functions (l.fn.functions, l.fn.env))
