use Rattle.gsl_lower_law_places.proofs.Kept.{variables_stored}
use Rattle.gsl_lower_law_places.proofs.laws.variables_are_stored.Goals as goal

pub returns : goal.returns
returns c = λ m input whole id class shape parts p by words from number path old v w value state before plain stands each leads there at is is_new new picks fits few. variables_stored m input whole id class parts p words from number path old v w value state before plain stands each leads there at is is_new new shape by picks fits few
