use Rattle.gsl_lower_reads.proofs.Holds.{is_held}
use Rattle.gsl_lower_reads.proofs.laws.places_wait.Goals as goal

pub returns : goal.returns
returns c m input sections f p around waits loose r l units b s state good is = is_held m input sections f p around s loose waits r l units b state good is
