use Rattle.gsl_lower_law_needs.proofs.Programs.{all_asked}
use Rattle.gsl_lower_law_needs.proofs.laws.built_in_variables_are_asked_for.Goals as goal

pub returns : goal.returns
returns c = all_asked
