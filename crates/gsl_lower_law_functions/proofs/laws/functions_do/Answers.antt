use Rattle.gsl_lower_law_functions.proofs.Done.{function_does}
use Rattle.gsl_lower_law_functions.proofs.laws.functions_do.Goals as goal

pub returns : goal.returns
returns c = function_does
