use Rattle.gsl_lower_assigns.proofs.Stepping.{place_stepped}
use Rattle.gsl_lower_assigns.proofs.laws.places_are_stepped.Goals as goal

pub returns : goal.returns
returns c = λ m input sections f p around loose splits which a left knows known leads. place_stepped m input sections f p around loose knows a which known splits left leads
