use Rattle.gsl_fitting_flow.proofs.Taking.{right_takes}
use Rattle.gsl_fitting_flow.proofs.Short.{short_flows, short_stays}
use Rattle.gsl_fitting_flow.proofs.laws.right_operands_fit.Goals as goal

pub returns-clause-stays : goal.returns-clause-stays
returns-clause-stays c = short_stays

pub returns-clause-flows : goal.returns-clause-flows
returns-clause-flows c = short_flows

pub returns-clause-takes : goal.returns-clause-takes
returns-clause-takes c = right_takes
