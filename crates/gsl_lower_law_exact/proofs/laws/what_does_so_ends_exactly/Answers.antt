use Rattle.gsl_lower_law_exact.proofs.Exactly.{ends_exactly}
use Rattle.gsl_lower_law_exact.proofs.laws.what_does_so_ends_exactly.Goals as goal

pub returns : goal.returns
returns c = ends_exactly
