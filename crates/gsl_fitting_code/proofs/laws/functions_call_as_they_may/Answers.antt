use Rattle.gsl_fitting_code.proofs.Calls.{calls_pass}
use Rattle.gsl_fitting_code.proofs.Walk.{functions_pass}
use Rattle.gsl_fitting_code.proofs.laws.functions_call_as_they_may.Goals as goal

pub returns : goal.returns
returns c = λ m rank front functions stands. functions_pass stands _ (calls_pass stands)
