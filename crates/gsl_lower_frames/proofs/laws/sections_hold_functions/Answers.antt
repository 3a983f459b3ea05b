use Rattle.gsl_lower_frames.proofs.Found.{section_held}
use Rattle.gsl_lower_frames.proofs.laws.sections_hold_functions.Goals as goal

pub returns : goal.returns
returns c = λ s main local_size before code behind id returned control function_type is ends. section_held s main local_size before code behind id returned control function_type is ends
