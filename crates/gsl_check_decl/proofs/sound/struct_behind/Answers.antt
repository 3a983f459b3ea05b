use Rattle.gsl_check_decl.proofs.Longer.{next_is}
use Rattle.gsl_check_decl.proofs.sound.struct_behind.Goals as goal

pub returns-clause-is : goal.returns-clause-is
returns-clause-is c =
    next_is c.args.all.now c.next_struct.result c.args.name c.args.members c.next_struct.ensures.name c.next_struct.ensures.members c.next_struct.ensures.known
