use Rattle.gsl_lower_follows.proofs.Fetching.{does_fetch}
use Rattle.gsl_lower_follows.proofs.laws.values_are_fetched.Goals as goal

pub returns : goal.returns
returns c = does_fetch
