use Rattle.std.proofs.Common.{◌≡◌, ◌-◌, drop, length}
use Rattle.gsl_valid_layouts.specs.Sizes.{is_laid_by}
use Rattle.gsl_valid_layouts.proofs.members.are_laid.Given as goal

abbrev pub invariant-loop-member : goal.invariant-loop-member
invariant-loop-member l =
    is_laid_by l.reached l.needs l.extents l.id l.member l.end (drop l.member l.members) ≡ is_laid_by l.reached l.needs l.extents l.id 0 0 l.members

abbrev pub decreases-loop-member : goal.decreases-loop-member
decreases-loop-member l = length l.members - l.member
