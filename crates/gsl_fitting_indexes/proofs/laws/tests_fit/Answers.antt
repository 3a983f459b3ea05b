use Rattle.gsl_fitting_indexes.proofs.Testing.{probe_flows}
use Rattle.gsl_fitting_indexes.proofs.laws.tests_fit.Goals as goal

pub returns : goal.returns
returns c = probe_flows
