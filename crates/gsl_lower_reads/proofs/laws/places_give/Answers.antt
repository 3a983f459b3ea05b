use Rattle.gsl_lower_reads.proofs.Accessed.{place_gives}
use Rattle.gsl_lower_reads.proofs.laws.places_give.Goals as goal

pub returns : goal.returns
returns c = place_gives
