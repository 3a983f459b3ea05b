use Rattle.std.proofs.Common.{◌≡◌, map}
use Rattle.std.specs.List.{range_with_len}
use Rattle.gsl_link_calls.specs.Calls.{called_by}
use Rattle.gsl_link_calls.specs.Depths as spec
use Rattle.gsl_link_calls.proofs.depth.made_again.Given as goal

abbrev pub invariant-loop-head : goal.invariant-loop-head
invariant-loop-head l = l.rows.items ≡ map (λ head. spec.deepest l.old (called_by l.table head)) (range_with_len 0 l.head)
