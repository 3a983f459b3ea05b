use Rattle.gsl_fitting_valid.proofs.Entering.{entry_none}
use Rattle.gsl_fitting_valid.proofs.laws.sections_have_an_entry_point.Goals as goal

pub returns : goal.returns
returns c = entry_none
