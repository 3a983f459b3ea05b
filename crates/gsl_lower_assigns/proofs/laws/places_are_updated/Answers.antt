use Rattle.gsl_lower_assigns.proofs.Updating.{place_updated}
use Rattle.gsl_lower_assigns.proofs.laws.places_are_updated.Goals as goal

pub returns : goal.returns
returns c = λ m input sections f p around loose splits which a b left right knows known leads gives. place_updated m input sections f p around loose knows splits which a b known left right leads gives
