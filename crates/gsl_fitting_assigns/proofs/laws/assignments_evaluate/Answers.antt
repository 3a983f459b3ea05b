use Rattle.gsl_fitting_assigns.proofs.Assigned.{assigned_evaluates}
use Rattle.gsl_fitting_assigns.proofs.laws.assignments_evaluate.Goals as goal

pub returns : goal.returns
returns c = assigned_evaluates
