use Rattle.std.proofs.Common.{◌≡◌, drop, map}
use Rattle.gsl_check_expr.specs.Initialisers.{value_as, parts_from}
use Rattle.gsl_check_expr.proofs.Loops.{after}
use Rattle.gsl_check_expr.proofs.initialising.+value.Given as goal

abbrev pub invariant-parts_in-loop-k : goal.invariant-parts_in-loop-k
invariant-parts_in-loop-k l = after l.found (parts_from l.env.scene l.ty l.k (map (value_as l.env) (drop l.k l.items))) ≡ parts_from l.env.scene l.ty 0 (map (value_as l.env) l.items)
