use Rattle.std.proofs.Common.{◌≡◌, ◌-◌, drop, length}
use Rattle.gsl_valid.specs.LayoutRules.{greatest_end}
use Rattle.gsl_valid_layouts.specs.Sizes.{told_of}
use Rattle.gsl_valid_layouts.proofs.sizes.greatest_end.Given as goal

abbrev pub invariant-loop-member : goal.invariant-loop-member
invariant-loop-member l =
    greatest_end l.decorations (told_of l.extents) l.id l.member l.end (drop l.member l.members) ≡ greatest_end l.decorations (told_of l.extents) l.id 0 0 l.members

abbrev pub decreases-loop-member : goal.decreases-loop-member
decreases-loop-member l = length l.members - l.member
