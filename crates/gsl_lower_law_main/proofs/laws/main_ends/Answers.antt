use Rattle.gsl_lower_law_main.proofs.Ends.{ends}
use Rattle.gsl_lower_law_main.proofs.laws.main_ends.Goals as goal

pub returns : goal.returns
returns c m input whole f p around has same alone v s units state at = ends m input whole f p around has same alone v s units state at
