use Rattle.gsl_sound_code.proofs.Looks.{kept}
use Rattle.gsl_shown.proofs.Giving.{given_shown}
use Rattle.gsl_shown.proofs.laws.values_are_shown.Goals as goal

pub returns : goal.returns
returns c m input f callers slots words buffers choices later state p more id type held valid good shows comes gives result_is size =
    given_shown m (kept m valid) input f callers slots words buffers choices later state good shows p more comes id type held gives result_is size
