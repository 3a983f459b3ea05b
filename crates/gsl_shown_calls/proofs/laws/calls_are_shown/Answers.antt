use Rattle.gsl_sound_code.proofs.Looks.{kept}
use Rattle.gsl_shown_calls.proofs.Called.{call_leads}
use Rattle.gsl_shown_calls.proofs.Entered.{once}
use Rattle.gsl_shown_calls.proofs.laws.calls_are_shown.Goals as goal

pub returns : goal.returns
returns c m input f callers slots words buffers choices state p more type id function given held body first valid good typed shows comes is result_is stand at found room =
    call_leads m (kept m valid) (once m valid) input f callers slots words buffers choices state good typed shows p more comes type id function given is result_is held stand body first at found room
