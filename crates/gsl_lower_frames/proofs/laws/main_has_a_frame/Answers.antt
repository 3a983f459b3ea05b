use Rattle.gsl_lower_frames.proofs.Main.{main_framed}
use Rattle.gsl_lower_frames.proofs.laws.main_has_a_frame.Goals as goal

pub returns : goal.returns
returns c = λ input whole main local_size code place stages e. main_framed input whole main local_size code place stages e
