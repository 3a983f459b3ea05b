use Rattle.gsl_fitting_flow.proofs.Taking.{either_takes}
use Rattle.gsl_fitting_flow.proofs.Choice.{choice_flows, choice_stays}
use Rattle.gsl_fitting_flow.proofs.laws.choices_fit.Goals as goal

pub returns-clause-stays : goal.returns-clause-stays
returns-clause-stays c = choice_stays

pub returns-clause-flows : goal.returns-clause-flows
returns-clause-flows c = choice_flows

pub returns-clause-takes : goal.returns-clause-takes
returns-clause-takes c = either_takes
