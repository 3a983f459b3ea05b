use Rattle.gsl_fitting_flow.proofs.Taking.{takes_then}
use Rattle.gsl_fitting_flow.proofs.Following.{emit_then, flows_then}
use Rattle.gsl_fitting_flow.specs.Flowing.{GivesOf}
use Rattle.gsl_fitting_flow.proofs.laws.parts_follow.Goals as goal

pub returns-clause-stays : goal.returns-clause-stays
returns-clause-stays c before first next = emit_then before first next

pub returns-clause-flows : goal.returns-clause-flows
returns-clause-flows c whole main local_size rank f asks more deep first second given type other before lowered next =
    flows_then whole main local_size rank f asks more deep first second given (GivesOf whole main local_size rank f type) (GivesOf whole main local_size rank f other) before lowered next

pub returns-clause-takes : goal.returns-clause-takes
returns-clause-takes c n k before first next = takes_then n k before first next
