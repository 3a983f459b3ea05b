use Rattle.gsl_lower_law_evaluated.proofs.Gathered.{read_whole}
use Rattle.gsl_lower_law_evaluated.proofs.laws.wholes_in_blocks_give.Goals as goal

pub returns : goal.returns
returns c = λ m input whole f p params locals call stage calls e types vectors valid written shaped sound values x.
    read_whole m input whole f p params locals call stage calls types vectors valid written shaped e sound values x
