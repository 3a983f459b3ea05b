use Rattle.gsl_lower_law_exact.proofs.Stages.{stage_known}
use Rattle.gsl_lower_law_exact.proofs.laws.built_in_variables_are_known.Goals as goal

pub returns : goal.returns
returns c = stage_known
