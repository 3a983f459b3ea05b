use Rattle.std.proofs.Common.{◌≡◌, map, ◌++◌, ◌<◌, length}
use Rattle.gsl_macros.specs.Expanding.{filled}
use Rattle.gsl_macros.proofs.expand.fill.Given as goal

abbrev pub invariant-loop-rest : goal.invariant-loop-rest
invariant-loop-rest l =
    (l.list ++ filled l.fn.params l.fn.args l.fn.place l.fn.more (map (λ k. k.value) l.rest) ≡ filled l.fn.params l.fn.args l.fn.place l.fn.more l.fn.body) × (length l.list < l.fn.left)

abbrev pub decreases-loop-rest : goal.decreases-loop-rest
decreases-loop-rest l = length l.rest
