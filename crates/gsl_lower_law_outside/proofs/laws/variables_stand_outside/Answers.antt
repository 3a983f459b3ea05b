use Rattle.gsl_lower_law_outside.proofs.Variables.{outer_put}
use Rattle.gsl_lower_law_outside.proofs.laws.variables_stand_outside.Goals as goal

pub returns : goal.returns
returns c = outer_put
