use Rattle.std.proofs.Common.{◌≡◌, ◌+◌, ◌*◌, drop}
use Rattle.gsl_layout.specs.Layout.{members_of}
use Rattle.gsl_layout.specs.Nodes.{nodes}
use Rattle.gsl_block_words.specs.Writing as spec
use Rattle.gsl_block_words.proofs.putting.+put.Given as goal

abbrev pub decreases-put_at : goal.decreases-put_at
decreases-put_at l = 2 * nodes l.laid.now + 1

abbrev pub decreases-put_elements : goal.decreases-put_elements
decreases-put_elements l = 2 * nodes l.element.now + 2

abbrev pub decreases-put_parts : goal.decreases-put_parts
decreases-put_parts l = 2 * nodes l.laid.now

abbrev pub invariant-put_elements-loop-k : goal.invariant-put_elements-loop-k
invariant-put_elements-loop-k l = spec.put_elements l.element l.stride l.place (drop l.k l.parts) l.bytes ≡ spec.put_elements l.element l.stride l.fn.at l.parts l.initial.bytes

abbrev pub invariant-put_parts-loop-i : goal.invariant-put_parts-loop-i
invariant-put_parts-loop-i l = spec.put_parts (spec.parts_from l.i (members_of l.laid)) l.at (drop l.i l.parts) l.bytes ≡ spec.put_parts (members_of l.laid) l.at l.parts l.initial.bytes
