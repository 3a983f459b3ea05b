use Rattle.std.proofs.Common.{◌≡◌, map, take}
use Rattle.gsl_link_whole.specs.Renumbering as spec
use Rattle.gsl_link_whole.proofs.exprs.+exprs.Given as goal

abbrev pub invariant-parts-loop-k : goal.invariant-parts-loop-k
invariant-parts-loop-k l = l.all ≡ map (spec.renumbered_expr l.n) (take l.k l.es)
