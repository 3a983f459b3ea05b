use Rattle.gsl_owed.proofs.Alike.{end_alike}
use Rattle.gsl_owed.proofs.laws.what_runs_ends_alike.Goals as goal

pub returns : goal.returns
returns c = end_alike
