use Rattle.gsl_lower_frames.proofs.Starts.{started}
use Rattle.gsl_lower_frames.proofs.laws.modules_start.Goals as goal

pub returns : goal.returns
returns c = λ m input id code once entry s. started m input id code once entry s
