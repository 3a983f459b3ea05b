use Rattle.std.proofs.Common.{◌≡◌, drop}
use Rattle.std.specs.List.{list_all}
use Rattle.gsl_tree.specs.declared.unit.Function.{Function}
use Rattle.gsl_link_calls.specs.Ranks as spec
use Rattle.gsl_link_calls.proofs.graph.are_ranked.Given as goal

abbrev pub invariant-loop-k : goal.invariant-loop-k
invariant-loop-k l = list_all (λ (f : Function). spec.is_ranked l.ranks l.table f.prototype) (drop l.k l.table) ≡ spec.are_ranked l.ranks l.table
