use Rattle.gsl_lower_frames.proofs.Numbers.{number_is_position}
use Rattle.gsl_lower_frames.proofs.laws.numbers_are_positions.Goals as goal

pub returns : goal.returns
returns c = λ m code id number is. number_is_position m code id number is
