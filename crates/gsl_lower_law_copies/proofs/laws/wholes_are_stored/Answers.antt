use Rattle.gsl_lower_law_copies.proofs.Copied.{whole_into}
use Rattle.gsl_lower_law_copies.proofs.laws.wholes_are_stored.Goals as goal

pub returns : goal.returns
returns c = λ m input whole block class parts value leaves words from variable bytes places v state before points each no_push there lie stands has. whole_into m input whole block class parts value words from variable v no_push leaves places bytes state before points each there lie stands has
