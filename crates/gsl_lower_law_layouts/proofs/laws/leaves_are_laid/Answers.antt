use Rattle.gsl_lower_law_layouts.proofs.Laid.{leaves_laid}
use Rattle.gsl_lower_law_layouts.proofs.laws.leaves_are_laid.Goals as goal

pub returns : goal.returns
returns c = λ raise structs ty size at. leaves_laid size raise structs ty at
