use Rattle.gsl_lower_frames.proofs.Starts.{main_entered}
use Rattle.gsl_lower_frames.proofs.laws.modules_enter_main.Goals as goal

pub returns : goal.returns
returns c = λ s main local_size set is. main_entered s main local_size set is
