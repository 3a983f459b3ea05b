use Rattle.gsl_operations_law.proofs.Lanes.{binary_drawn, binary_flat, builtin_flat, unary_flat}
use Rattle.gsl_operations_law.proofs.laws.operations_give_words.Goals as goal

pub returns-clause-unary : goal.returns-clause-unary
returns-clause-unary c = unary_flat

pub returns-clause-binary : goal.returns-clause-binary
returns-clause-binary c = binary_flat

pub returns-clause-drawn : goal.returns-clause-drawn
returns-clause-drawn c = binary_drawn

pub returns-clause-builtin : goal.returns-clause-builtin
returns-clause-builtin c = builtin_flat
