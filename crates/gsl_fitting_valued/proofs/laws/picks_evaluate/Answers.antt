use Rattle.gsl_fitting_valued.proofs.Picked.{picked_evaluates}
use Rattle.gsl_fitting_valued.proofs.laws.picks_evaluate.Goals as goal

pub returns : goal.returns
returns c = picked_evaluates
