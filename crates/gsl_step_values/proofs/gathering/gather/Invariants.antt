use Rattle.gsl_step_values.specs.Parts.{HasRoomToGather}
use Rattle.gsl_step_values.proofs.Gathered.{SoFar}
use Rattle.gsl_step_values.proofs.gathering.gather.Given as goal

abbrev pub invariant-loop-k : goal.invariant-loop-k
invariant-loop-k l = HasRoomToGather l.operands l.base l.at l.initial.slots l.parts → SoFar l.operands l.base l.at l.initial.slots l.parts l.k l.slots l.end
