use Rattle.gsl_lower_assigns.proofs.Assigned.{place_assigned}
use Rattle.gsl_lower_assigns.proofs.laws.places_are_assigned.Goals as goal

pub returns : goal.returns
returns c = λ m input sections f p around loose splits a b left right knows known leads gives. place_assigned m input sections f p around loose knows a b right known gives splits left leads
