use Rattle.gsl_fitting_code.proofs.Near.{near_passes}
use Rattle.gsl_fitting_code.proofs.Walk.{functions_pass}
use Rattle.gsl_fitting_code.proofs.laws.functions_use_what_is_near.Goals as goal

pub returns : goal.returns
returns c = λ m rank front functions stands. functions_pass stands _ (near_passes stands)
