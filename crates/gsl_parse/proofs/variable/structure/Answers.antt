use Rattle.gsl_parse.proofs.Shrinking.{struct_member_takes}
use Rattle.gsl_parse.proofs.variable.structure.Goals as goal

pub some_of-requires : goal.some_of-requires
some_of-requires c = struct_member_takes _
