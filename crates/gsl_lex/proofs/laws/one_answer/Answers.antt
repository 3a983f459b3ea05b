use Rattle.gsl_lex.proofs.Answered.{one_lexed}
use Rattle.gsl_lex.proofs.laws.one_answer.Goals as goal

pub returns : goal.returns
returns c = one_lexed
