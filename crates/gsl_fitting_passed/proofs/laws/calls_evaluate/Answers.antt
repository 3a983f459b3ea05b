use Rattle.gsl_fitting_passed.proofs.Called.{call_evaluates}
use Rattle.gsl_fitting_passed.proofs.laws.calls_evaluate.Goals as goal

pub returns : goal.returns
returns c = call_evaluates
