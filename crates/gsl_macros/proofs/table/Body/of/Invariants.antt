use Rattle.std.proofs.Common.{◌≡◌, ◌++◌, map, length}
use Rattle.gsl_macros.proofs.table.Body.of.Given as goal

abbrev pub invariant-loop-rest : goal.invariant-loop-rest
invariant-loop-rest l = map (λ k. k.value) l.kinds ++ map (λ r. r.kind) l.rest ≡ map (λ r. r.kind) l.fn.raws

abbrev pub decreases-loop-rest : goal.decreases-loop-rest
decreases-loop-rest l = length l.rest
