use Rattle.gsl_fitting_flow.proofs.Taking.{built_takes}
use Rattle.gsl_fitting_flow.proofs.Following.{lift_flows, lift_stays}
use Rattle.gsl_fitting_types.specs.Making.{GivesValue}
use Rattle.gsl_fitting_flow.proofs.laws.steps_flow.Goals as goal

pub returns-clause-stays : goal.returns-clause-stays
returns-clause-stays c s built = lift_stays s built

pub returns-clause-flows : goal.returns-clause-flows
returns-clause-flows c whole main local_size rank f deep given shape s built = lift_flows whole main local_size rank f deep given (GivesValue whole main local_size rank f shape) s built

pub returns-clause-takes : goal.returns-clause-takes
returns-clause-takes c s built = built_takes s built
