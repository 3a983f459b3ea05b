use Rattle.gsl_lower_law_places.proofs.Loads.{extracted_computes}
use Rattle.gsl_lower_law_places.proofs.laws.extracts_compute.Goals as goal

pub returns : goal.returns
returns c = λ m input whole id shape parts v state before stands. extracted_computes m input whole id shape parts v state before stands
