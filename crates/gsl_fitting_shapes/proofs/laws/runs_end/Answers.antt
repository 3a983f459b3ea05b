use Rattle.gsl_fitting_shapes.proofs.Labels.{arm_ends, arm_exits, body_ends, body_leaves, case_breaks, case_ends, continue_back, continue_turns}
use Rattle.gsl_fitting_shapes.proofs.laws.runs_end.Goals as goal

pub returns-clause-arm : goal.returns-clause-arm
returns-clause-arm c = arm_ends

pub returns-clause-exits : goal.returns-clause-exits
returns-clause-exits c = arm_exits

pub returns-clause-case : goal.returns-clause-case
returns-clause-case c = case_ends

pub returns-clause-breaks : goal.returns-clause-breaks
returns-clause-breaks c = case_breaks

pub returns-clause-body : goal.returns-clause-body
returns-clause-body c = body_ends

pub returns-clause-leaves : goal.returns-clause-leaves
returns-clause-leaves c = body_leaves

pub returns-clause-turns : goal.returns-clause-turns
returns-clause-turns c = continue_turns

pub returns-clause-back : goal.returns-clause-back
returns-clause-back c = continue_back
