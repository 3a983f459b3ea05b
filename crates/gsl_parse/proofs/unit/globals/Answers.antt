use Rattle.gsl_parse.proofs.Shrinking.{global_takes}
use Rattle.gsl_parse.proofs.unit.globals.Goals as goal

pub row_of-requires : goal.row_of-requires
row_of-requires c = global_takes _
