use Rattle.gsl_lower_law_places.proofs.Reading.{variables_read}
use Rattle.gsl_lower_law_places.proofs.laws.variables_are_read.Goals as goal

pub returns : goal.returns
returns c = λ m input whole id class shape parts p by words from to v state before stands each leads holds is picks. variables_read m input whole id class parts p words from to v state before stands each leads holds is shape by picks
