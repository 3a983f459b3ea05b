use Rattle.std.proofs.Common.{◌-◌}
use Rattle.gsl_positions.specs.Positions.{left}
use Rattle.gsl_step_entering.specs.Begun.{HasRoomToBegin}
use Rattle.gsl_step_entering.proofs.Begins.{SoFar}
use Rattle.gsl_step_entering.proofs.variables.put_variables.Given as goal

abbrev pub invariant-loop-at : goal.invariant-loop-at
invariant-loop-at l = HasRoomToBegin l.operands l.slots l.initial.words l.begin (left l.operands l.body) → SoFar l.operands l.slots l.initial.words l.begin l.body l.at l.words l.end

abbrev pub decreases-loop-at : goal.decreases-loop-at
decreases-loop-at l = l.count - l.at
