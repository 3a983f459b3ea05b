use Rattle.std.proofs.Common.{◌≡◌, ◌-◌}
use Rattle.gsl_positions.specs.Positions.{left}
use Rattle.gsl_frames.specs.Frames.{frame, taken_told, told_taken}
use Rattle.gsl_frames.proofs.frames.frame_from.Given as goal

abbrev pub invariant-loop-at : goal.invariant-loop-at
invariant-loop-at l = taken_told l.leaves (left l.leaves l.at) l.taken ≡ told_taken (frame l.leaves (left l.leaves l.body))

abbrev pub decreases-loop-at : goal.decreases-loop-at
decreases-loop-at l = l.count - l.at
