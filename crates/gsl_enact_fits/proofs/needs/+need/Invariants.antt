use Rattle.std.proofs.Common.{◌≡◌, ◌+◌, ◌-◌, ◌*◌, ◌^◌, ◌≤◌, drop, length}
use Rattle.gsl_valid.specs.LayoutRules.{end_of_last, need}
use Rattle.gsl_enact_values.specs.Search.{front}
use Rattle.gsl_enact_fits.specs.Passes.{told}
use Rattle.gsl_enact_fits.proofs.needs.+need.Given as goal

abbrev pub decreases-need_in : goal.decreases-need_in
decreases-need_in l = 4 * l.count

abbrev pub decreases-need_as : goal.decreases-need_as
decreases-need_as l = 4 * l.count + 2

abbrev pub decreases-need_here : goal.decreases-need_here
decreases-need_here l = 4 * l.count + 3

abbrev pub decreases-end_of_last : goal.decreases-end_of_last
decreases-end_of_last l = 4 * l.count + 1

abbrev pub decreases-end_of_last-loop-member : goal.decreases-end_of_last-loop-member
decreases-end_of_last-loop-member l = length l.members - l.member

abbrev pub invariant-end_of_last-loop-member : goal.invariant-end_of_last-loop-member
invariant-end_of_last-loop-member l =
    (l.end ≤ 2 ^ 64) × (told (end_of_last l.decorations (need l.decorations (front l.decorations l.count)) l.id l.member l.end (drop l.member l.members))
    ≡ told (end_of_last l.decorations (need l.decorations (front l.decorations l.count)) l.id 0 0 l.members))
