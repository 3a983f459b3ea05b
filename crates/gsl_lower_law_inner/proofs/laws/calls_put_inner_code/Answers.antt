use Rattle.gsl_lower_law_inner.proofs.Calls.{calls_inner}
use Rattle.gsl_lower_law_inner.proofs.laws.calls_put_inner_code.Goals as goal

pub returns : goal.returns
returns c = calls_inner
