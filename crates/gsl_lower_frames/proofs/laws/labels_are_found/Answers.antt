use Rattle.gsl_lower_frames.proofs.Found.{label_found}
use Rattle.gsl_lower_frames.proofs.laws.labels_are_found.Goals as goal

pub returns : goal.returns
returns c = λ m id code first once s front rest label is. label_found m id code first once s front rest label is
