use Rattle.gsl_step_entering.specs.Passed.{HasRoomToPass}
use Rattle.gsl_step_entering.proofs.Given.{SoFar}
use Rattle.gsl_step_entering.proofs.arguments.put_arguments.Given as goal

abbrev pub invariant-loop-k : goal.invariant-loop-k
invariant-loop-k l = HasRoomToPass l.operands l.initial.machine.standing l.initial.machine.slots l.arguments l.base → SoFar l.operands l.initial.machine l.arguments l.base l.k l.machine l.end
