use Rattle.gsl_lower_law_program.proofs.Standing.{calls_do}
use Rattle.gsl_lower_law_program.proofs.laws.calls_of_programs_do.Goals as goal

pub returns : goal.returns
returns c = calls_do
