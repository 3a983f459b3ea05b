use Rattle.gsl_values.proofs.Clamps.{reversed_again}
use Rattle.gsl_values.proofs.laws.reversed_twice.Goals as goal

pub returns : goal.returns
returns c = λ signed. reversed_again
