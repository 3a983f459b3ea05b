use Rattle.gsl_fold.proofs.Drawn.{never_gives}
use Rattle.gsl_fold.proofs.laws.not_constant_by_form_or_index.Goals as goal

pub returns : goal.returns
returns c = never_gives
