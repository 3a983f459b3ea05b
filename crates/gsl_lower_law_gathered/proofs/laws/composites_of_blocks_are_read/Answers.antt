use Rattle.gsl_lower_law_gathered.proofs.Given.{any_gives}
use Rattle.gsl_lower_law_gathered.proofs.laws.composites_of_blocks_are_read.Goals as goal

pub returns : goal.returns
returns c = λ m input sections f p around valid written shaped are plain splits start writes t reach run sound_t values gives.
    any_gives m input sections f p around valid written shaped are plain start writes t sound_t splits reach run values gives
