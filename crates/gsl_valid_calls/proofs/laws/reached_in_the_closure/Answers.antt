use Rattle.gsl_valid_calls.proofs.Counting.{in_the_closure}
use Rattle.gsl_valid_calls.proofs.laws.reached_in_the_closure.Goals as goal

pub returns : goal.returns
returns c = in_the_closure
