use Rattle.gsl_link_alone.proofs.Once.{joined_once}
use Rattle.gsl_link_alone.proofs.laws.joined_programs_stand_once.Goals as goal

pub returns : goal.returns
returns c = joined_once
