use Rattle.gsl_lower_follows.proofs.Meeting.{does_join}
use Rattle.gsl_lower_follows.proofs.laws.ways_meet.Goals as goal

pub returns : goal.returns
returns c = does_join
