use Rattle.gsl_lower_law_stored.proofs.Put.{words_stored}
use Rattle.gsl_lower_law_stored.proofs.laws.words_are_stored.Goals as goal

pub returns : goal.returns
returns c = λ m input whole f p around knows number id block known seat stored b s state good components offset path words bytes there leads some many below.
    words_stored m input whole f p around knows number id block known seat stored b s state good bytes there components offset path leads some words many below
