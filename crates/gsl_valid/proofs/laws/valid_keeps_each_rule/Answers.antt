use Rattle.gsl_valid.proofs.Rules.{valid_each}
use Rattle.gsl_valid.proofs.laws.valid_keeps_each_rule.Goals as goal

pub returns : goal.returns
returns c = valid_each
