use Rattle.gsl_lower_law_program.proofs.Main.{program_ends}
use Rattle.gsl_lower_law_program.proofs.laws.programs_end_as_shaders.Goals as goal

pub returns : goal.returns
returns c = program_ends
