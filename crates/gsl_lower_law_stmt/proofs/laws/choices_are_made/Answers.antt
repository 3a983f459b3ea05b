use Rattle.gsl_lower_law_stmt.proofs.Ways.{if_does}
use Rattle.gsl_lower_law_stmt.proofs.laws.choices_are_made.Goals as goal

pub returns : goal.returns
returns c m input sections f p around first other x y does_first does_other splits ty test z real gives = if_does m input sections f p around first.leaves other.leaves first.run other.run x y does_first does_other splits ty test z real gives
