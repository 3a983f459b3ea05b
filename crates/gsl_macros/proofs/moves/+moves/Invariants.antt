use Rattle.std.proofs.Common.{◌≡◌, ◌≤◌, ◌+◌, ◌*◌, length}
use Rattle.gsl_macros.specs.Expanding as spec
use Rattle.gsl_macros.specs.Steps.{behind}
use Rattle.gsl_macros.proofs.moves.+moves.Given as goal

abbrev pub decreases-next : goal.decreases-next
decreases-next l = l.depth * 6 + 5

abbrev pub decreases-replace : goal.decreases-replace
decreases-replace l = l.depth * 6 + 4

abbrev pub decreases-call : goal.decreases-call
decreases-call l = l.depth * 6 + 3

abbrev pub decreases-each : goal.decreases-each
decreases-each l = l.depth * 6 + 2

abbrev pub decreases-expand : goal.decreases-expand
decreases-expand l = l.depth * 6 + 1

abbrev pub decreases-all : goal.decreases-all
decreases-all l = l.depth * 6 + 6

abbrev pub invariant-all-loop-list : goal.invariant-all-loop-list
invariant-all-loop-list l =
    behind l.list (spec.whole (spec.traced l.macros l.depth l.stream l.left)) ≡ spec.whole (spec.traced l.macros l.depth l.initial.stream l.initial.left)

abbrev pub decreases-all-loop-list : goal.decreases-all-loop-list
decreases-all-loop-list l = l.left + length l.stream

abbrev pub invariant-each-loop-rest : goal.invariant-each-loop-rest
invariant-each-loop-rest l =
    behind l.list (spec.each (spec.expander l.macros l.depth) l.token.place l.rest l.left) ≡ spec.each (spec.expander l.macros l.depth) l.token.place l.initial.rest l.initial.left

abbrev pub decreases-each-loop-rest : goal.decreases-each-loop-rest
decreases-each-loop-rest l = length l.rest

abbrev pub invariant-next-loop-token : goal.invariant-next-loop-token
invariant-next-loop-token l =
    (spec.traced l.macros l.depth l.stream l.left ≡ spec.traced l.macros l.depth l.initial.stream l.initial.left) × (l.left + length l.stream ≤ l.initial.left + length l.initial.stream)

abbrev pub decreases-next-loop-token : goal.decreases-next-loop-token
decreases-next-loop-token l = l.left + length l.stream
