use Rattle.gsl_words.proofs.Judgements.{some, one}
use Rattle.gsl_words.proofs.laws.one_judgement.Goals as goal

pub returns-clause-some : goal.returns-clause-some
returns-clause-some c = some

pub returns-clause-one : goal.returns-clause-one
returns-clause-one c = one
