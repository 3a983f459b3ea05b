use Rattle.gsl_lower_types.proofs.Standing.{stage_types}
use Rattle.gsl_lower_types.proofs.laws.built_in_variables_have_their_types.Goals as goal

pub returns : goal.returns
returns c = stage_types
