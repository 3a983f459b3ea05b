use Rattle.gsl_lower_law_exact.proofs.Ending.{program_fits}
use Rattle.gsl_lower_law_exact.proofs.laws.programs_fit_alike.Goals as goal

pub returns : goal.returns
returns c = program_fits
