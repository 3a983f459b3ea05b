use Rattle.gsl_fitting_valid.proofs.Valid.{sections_valid}
use Rattle.gsl_fitting_valid.proofs.laws.sections_make_valid_modules.Goals as goal

pub returns : goal.returns
returns c = sections_valid
