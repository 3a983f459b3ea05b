use Rattle.gsl_fitting_assigns.proofs.Updated.{stepped_evaluates}
use Rattle.gsl_fitting_assigns.proofs.laws.steps_evaluate.Goals as goal

pub returns : goal.returns
returns c = stepped_evaluates
