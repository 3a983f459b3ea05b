use Rattle.gsl_fitting_code.proofs.Deep.{structured_passes, limits_pass}
use Rattle.gsl_fitting_code.proofs.Walk.{functions_pass}
use Rattle.gsl_fitting_code.proofs.laws.functions_are_structured.Goals as goal

pub returns-clause-structure : goal.returns-clause-structure
returns-clause-structure c = λ m rank front functions stands. functions_pass stands _ (structured_passes m rank)

pub returns-clause-limits : goal.returns-clause-limits
returns-clause-limits c = λ m rank front functions stands. functions_pass stands _ (limits_pass m rank)
