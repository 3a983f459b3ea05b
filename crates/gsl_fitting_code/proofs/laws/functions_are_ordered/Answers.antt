use Rattle.gsl_fitting_code.proofs.Structured.{function_ordered}
use Rattle.gsl_fitting_code.proofs.laws.functions_are_ordered.Goals as goal

pub returns : goal.returns
returns c = λ m rank code later is. function_ordered m rank code later is
