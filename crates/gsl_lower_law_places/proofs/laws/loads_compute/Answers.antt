use Rattle.gsl_lower_law_places.proofs.Loads.{loaded_computes}
use Rattle.gsl_lower_law_places.proofs.laws.loads_compute.Goals as goal

pub returns : goal.returns
returns c = λ m input whole id class shape parts words from to v state before stands each leads holds is. loaded_computes m input whole id class shape parts words from to v state before stands each leads holds is
