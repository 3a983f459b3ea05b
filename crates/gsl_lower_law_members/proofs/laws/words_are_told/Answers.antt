use Rattle.gsl_lower_law_members.proofs.Told.{picks_told, whole_told}
use Rattle.gsl_lower_law_members.proofs.laws.words_are_told.Goals as goal

pub returns-clause-whole : goal.returns-clause-whole
returns-clause-whole c = λ structs t shape s v sound of is. whole_told structs t shape sound of s v is

pub returns-clause-picks : goal.returns-clause-picks
returns-clause-picks c = λ structs t shape v by positions sound of long. picks_told structs t shape sound of v by positions long
