use Rattle.gsl_step_calls.proofs.Called.{call_entered}
use Rattle.gsl_step_calls.proofs.laws.calls_are_entered.Goals as goal

pub returns : goal.returns
returns c m input machine next state p more type id function given held body first valid good typed shown comes is result_is stand at found room enters =
    call_entered m input machine next state p more type id function given held body first valid good typed shown comes is result_is stand at found room enters
