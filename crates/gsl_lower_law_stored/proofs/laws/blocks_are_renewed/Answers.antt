use Rattle.gsl_lower_law_stored.proofs.Renewed.{renewed}
use Rattle.gsl_lower_law_stored.proofs.laws.blocks_are_renewed.Goals as goal

pub returns : goal.returns
returns c = λ m input whole f p around knows number id block known seat stored b s state good given fresh has small told. renewed m input whole f p around knows number id block known seat stored b s state good given fresh has small told
