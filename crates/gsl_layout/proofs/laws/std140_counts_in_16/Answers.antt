use Rattle.gsl_layout.proofs.Sixteens.{strides, struct_align}
use Rattle.gsl_layout.proofs.laws.std140_counts_in_16.Goals as goal

pub returns-clause-strides : goal.returns-clause-strides
returns-clause-strides c = strides

pub returns-clause-structs : goal.returns-clause-structs
returns-clause-structs c = struct_align
