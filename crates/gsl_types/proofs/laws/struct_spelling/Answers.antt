use Rattle.gsl_types.proofs.Shapes.{struct_spelled}
use Rattle.gsl_types.proofs.laws.struct_spelling.Goals as goal

pub returns : goal.returns
returns c structs number struct known found = struct_spelled structs known number struct found
