use Rattle.gsl_lower_law_entered.proofs.Lasting.{calls_pass}
use Rattle.gsl_lower_law_entered.proofs.laws.results_of_calls_do_not_last.Goals as goal

pub returns : goal.returns
returns c = calls_pass
