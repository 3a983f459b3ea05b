use Rattle.gsl_parse.proofs.Shrinking.{member_takes}
use Rattle.gsl_parse.proofs.unit.block.Goals as goal

pub some_of-requires : goal.some_of-requires
some_of-requires c = member_takes _
