use Rattle.std.proofs.Common.{◌≡◌, ◌+◌, ◌*◌}
use Rattle.gsl_layout.specs.Nodes.{nodes}
use Rattle.gsl_block_words.specs.Reading as spec
use Rattle.gsl_block_words.proofs.reading.+read.Given as goal

abbrev pub decreases-read_at : goal.decreases-read_at
decreases-read_at l = 2 * nodes l.laid.now + 1

abbrev pub decreases-elements : goal.decreases-elements
decreases-elements l = 2 * nodes l.element.now + 2

abbrev pub decreases-members : goal.decreases-members
decreases-members l = 2 * nodes l.laid.now

abbrev pub invariant-elements-loop-i : goal.invariant-elements-loop-i
invariant-elements-loop-i l = l.all ≡ spec.elements_at l.element l.stride l.i l.at l.bytes

abbrev pub invariant-members-loop-i : goal.invariant-members-loop-i
invariant-members-loop-i l = l.all ≡ spec.members_at l.laid l.i l.at l.bytes
