use Rattle.gsl_sound_code.proofs.Looks.{kept}
use Rattle.gsl_shown.proofs.Branching.{branch_shown}
use Rattle.gsl_shown.proofs.laws.branches_are_shown.Goals as goal

pub returns : goal.returns
returns c m input f callers slots words buffers choices state label at valid good shows found = branch_shown m (kept m valid) input f callers slots words buffers choices state good shows label at found
