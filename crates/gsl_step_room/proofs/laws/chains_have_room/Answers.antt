use Rattle.gsl_step_room.proofs.Down.{has_room}
use Rattle.gsl_step_room.proofs.laws.chains_have_room.Goals as goal

pub returns : goal.returns
returns c m machine entry function body valid room called found = has_room m machine entry function body valid room called found
