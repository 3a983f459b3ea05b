use Rattle.std.proofs.Common.{◌≡◌, ◌-◌, drop, length}
use Rattle.gsl_valid.specs.LayoutRules.{end_of_last}
use Rattle.gsl_valid_layouts.specs.Sizes.{told_of}
use Rattle.gsl_valid_layouts.proofs.sizes.end_of_last.Given as goal

abbrev pub invariant-loop-member : goal.invariant-loop-member
invariant-loop-member l =
    end_of_last l.decorations (told_of l.needs) l.id l.member l.end (drop l.member l.members) ≡ end_of_last l.decorations (told_of l.needs) l.id 0 0 l.members

abbrev pub decreases-loop-member : goal.decreases-loop-member
decreases-loop-member l = length l.members - l.member
