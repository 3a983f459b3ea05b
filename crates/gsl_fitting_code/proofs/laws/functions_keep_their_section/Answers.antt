use Rattle.gsl_fitting_code.proofs.Shape.{section_passes}
use Rattle.gsl_fitting_code.proofs.Walk.{functions_pass}
use Rattle.gsl_fitting_code.proofs.laws.functions_keep_their_section.Goals as goal

pub returns : goal.returns
returns c = λ m rank front functions stands. functions_pass stands _ (section_passes m rank)
