use Rattle.gsl_parse.proofs.Shrinking.{qual_takes}
use Rattle.gsl_parse.proofs.qualifier.qualifiers.Goals as goal

pub row_of-requires : goal.row_of-requires
row_of-requires c = qual_takes _
