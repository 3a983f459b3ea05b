use Rattle.gsl_fitting_kinds.proofs.Evaluated.{equality_evaluates}
use Rattle.gsl_fitting_kinds.proofs.laws.equality_evaluates.Goals as goal

pub returns : goal.returns
returns c = equality_evaluates
