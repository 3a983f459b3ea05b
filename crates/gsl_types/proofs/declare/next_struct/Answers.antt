use Rattle.gsl_types.proofs.Longer.{longer_known}
use Rattle.gsl_types.proofs.declare.next_struct.Goals as goal

pub returns-clause-known : goal.returns-clause-known
returns-clause-known c = longer_known c.args.structs.now c.requires.known _ c.requires.some c.requires.sound c.leaves_of_all-leaves.ensures
