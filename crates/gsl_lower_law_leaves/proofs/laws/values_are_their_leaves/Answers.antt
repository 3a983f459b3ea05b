use Rattle.gsl_lower_law_leaves.proofs.Structs.{values_agree}
use Rattle.gsl_lower_law_leaves.proofs.laws.values_are_their_leaves.Goals as goal

pub returns-clause-has : goal.returns-clause-has
returns-clause-has c = λ structs ty v are is fits. (values_agree structs ty are is v v fits fits).0

pub returns-clause-same : goal.returns-clause-same
returns-clause-same c = λ structs ty v w are is fits_v fits_w. (values_agree structs ty are is v w fits_v fits_w).1
