use Rattle.gsl_lower_law_stored.proofs.Put.{components_stored}
use Rattle.gsl_lower_law_stored.proofs.laws.components_are_stored.Goals as goal

pub returns : goal.returns
returns c = λ m input whole f p around knows number id block known seat stored b s state good components offset path positions words bytes there leads some less below.
    components_stored m input whole f p around knows number id block known seat stored b s state good bytes there components offset path leads some positions words less below
