use Rattle.gsl_values.proofs.Quotients.{rest_of_words, dividend_of_words}
use Rattle.gsl_values.proofs.laws.quotient_and_rest.Goals as goal

pub returns : goal.returns
returns c = record { rest = rest_of_words; dividend = dividend_of_words }
