use Rattle.std.proofs.Common.{◌≡◌}
use Rattle.gsl_block_words.specs.Writing.{parts_from}
use Rattle.gsl_layout.specs.Layout.{members_of}
use Rattle.gsl_lower_types.specs.Laid as spec
use Rattle.gsl_lower_types.proofs.laid.offsets.Given as goal

abbrev pub invariant-loop-i : goal.invariant-loop-i
invariant-loop-i l = spec.offsets l.id l.i (parts_from l.i (members_of l.laid)) l.b ≡ spec.offsets l.id 0 (members_of l.laid) l.initial.b
