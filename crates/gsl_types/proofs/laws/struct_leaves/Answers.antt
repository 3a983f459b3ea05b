use Rattle.std.proofs.Common.{◌∙◌}
use Rattle.gsl_types.specs.Leaves.{counting}
use Rattle.gsl_types.specs.Structs.{numbered}
use Rattle.gsl_types.proofs.Layers.{over_struct}
use Rattle.gsl_types.proofs.Structs.{numbered_is}
use Rattle.gsl_types.proofs.laws.struct_leaves.Goals as goal

pub returns : goal.returns
returns c structs number struct known found = over_struct counting (numbered counting structs) number ∙ numbered_is counting structs number struct found (known number struct found).earlier
