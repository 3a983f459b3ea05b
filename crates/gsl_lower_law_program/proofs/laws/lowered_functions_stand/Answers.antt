use Rattle.gsl_lower_law_program.proofs.Stood.{functions_stand}
use Rattle.gsl_lower_law_program.proofs.laws.lowered_functions_stand.Goals as goal

pub returns : goal.returns
returns c = functions_stand
