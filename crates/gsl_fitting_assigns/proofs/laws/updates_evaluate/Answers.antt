use Rattle.gsl_fitting_assigns.proofs.Updated.{updated_evaluates}
use Rattle.gsl_fitting_assigns.proofs.laws.updates_evaluate.Goals as goal

pub returns : goal.returns
returns c = updated_evaluates
