use Rattle.gsl_lower_law_exact.proofs.Ending.{program_ends}
use Rattle.gsl_lower_law_exact.proofs.laws.programs_end_exactly.Goals as goal

pub returns : goal.returns
returns c = program_ends
