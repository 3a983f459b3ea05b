use Rattle.gsl_lower_reads.proofs.Holds.{is_fetched}
use Rattle.gsl_lower_reads.proofs.laws.places_are_fetched.Goals as goal

pub returns : goal.returns
returns c m input sections f p around waits loose r l units b s state good is = is_fetched m input sections f p around s loose waits r l units b state good is
