use Rattle.gsl_lower_law_built.proofs.Selected.{selected_gives}
use Rattle.gsl_lower_law_built.proofs.laws.selected_gives.Goals as goal

pub returns : goal.returns
returns c = selected_gives
