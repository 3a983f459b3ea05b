use Rattle.std.proofs.Common.{◌≡◌, ◌+◌, ◌*◌, drop}
use Rattle.gsl_block_words.specs.Writing.{parts_from}
use Rattle.gsl_layout.specs.Layout.{members_of}
use Rattle.gsl_layout.specs.Nodes.{nodes}
use Rattle.gsl_lower_types.specs.Known.{with_front}
use Rattle.gsl_lower_types.specs.Laid as spec
use Rattle.gsl_lower_types.proofs.laid.+laid.Given as goal

abbrev pub decreases-type_laid : goal.decreases-type_laid
decreases-type_laid l = 5 * nodes l.laid.now + 4

abbrev pub decreases-once_laid : goal.decreases-once_laid
decreases-once_laid l = 5 * nodes l.laid.now + 3

abbrev pub decreases-anew : goal.decreases-anew
decreases-anew l = 5 * nodes l.laid.now + 2

abbrev pub decreases-strided : goal.decreases-strided
decreases-strided l = 5 * nodes l.element.now + 5

abbrev pub decreases-grouped : goal.decreases-grouped
decreases-grouped l = 5 * nodes l.laid.now + 1

abbrev pub decreases-types_laid : goal.decreases-types_laid
decreases-types_laid l = 5 * nodes l.laid.now

abbrev pub invariant-types_laid-loop-i : goal.invariant-types_laid-loop-i
invariant-types_laid-loop-i l =
    with_front l.ids (spec.types_laid l.structs (parts_from l.i (members_of l.laid)) (drop l.i l.types) l.known l.b) ≡ spec.types_laid l.structs (members_of l.laid) l.types l.initial.known l.initial.b
