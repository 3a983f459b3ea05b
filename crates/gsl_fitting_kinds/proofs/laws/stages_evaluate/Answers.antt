use Rattle.gsl_fitting_kinds.proofs.Evaluated.{stage_evaluates}
use Rattle.gsl_fitting_kinds.proofs.laws.stages_evaluate.Goals as goal

pub returns : goal.returns
returns c = stage_evaluates
