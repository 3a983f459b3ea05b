use Rattle.gsl_fitting_code.proofs.Shape.{shape_passes}
use Rattle.gsl_fitting_code.proofs.Walk.{functions_pass}
use Rattle.gsl_fitting_code.proofs.laws.functions_have_their_shape.Goals as goal

pub returns : goal.returns
returns c = λ m rank front functions stands. functions_pass stands _ (shape_passes m rank)
