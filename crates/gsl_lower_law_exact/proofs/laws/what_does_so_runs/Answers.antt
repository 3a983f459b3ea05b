use Rattle.gsl_lower_law_exact.proofs.Exactly.{runs_of}
use Rattle.gsl_lower_law_exact.proofs.laws.what_does_so_runs.Goals as goal

pub returns : goal.returns
returns c = runs_of
