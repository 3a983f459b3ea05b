use Rattle.gsl_valid.proofs.Rules.{first_broken_rule}
use Rattle.gsl_valid.proofs.laws.broken_is_the_first_rule.Goals as goal

pub returns : goal.returns
returns c = first_broken_rule
