use Rattle.gsl_sound_code.proofs.Looks.{kept}
use Rattle.gsl_sound_types.proofs.Beginning.{globals_begin}
use Rattle.gsl_shown_calls.proofs.Entered.{once}
use Rattle.gsl_shown_calls.proofs.Started.{start_shown}
use Rattle.gsl_shown_calls.proofs.laws.runs_begin.Goals as goal

pub returns : goal.returns
returns c m input slots words function first body valid ranges fit shows entry at found room =
    let k = kept m valid in start_shown m k (once m valid) input (globals_begin m k input ranges fit) slots words shows function body first entry at found room
