use Rattle.gsl_lower_law_places.proofs.Reading.{values_read}
use Rattle.gsl_lower_law_places.proofs.laws.values_are_read.Goals as goal

pub returns : goal.returns
returns c = λ m input whole id type shape parts p by v state before stands is picks. values_read m input whole id type shape parts p by v state before stands is picks
