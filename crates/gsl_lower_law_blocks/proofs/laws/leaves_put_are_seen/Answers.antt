use Rattle.gsl_lower_law_blocks.proofs.Placed.{leaves_seen}
use Rattle.gsl_lower_law_blocks.proofs.laws.leaves_put_are_seen.Goals as goal

pub returns : goal.returns
returns c = λ class size at l v leaves places bytes is long fits placed has. leaves_seen class size at l v is leaves places bytes long fits placed has
