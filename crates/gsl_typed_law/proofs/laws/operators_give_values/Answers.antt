use Rattle.gsl_typed_law.proofs.Operators.{binary_typed, unary_typed, undrawn_typed}
use Rattle.gsl_typed_law.proofs.laws.operators_give_values.Goals as goal

pub returns-clause-unary : goal.returns-clause-unary
returns-clause-unary c = unary_typed

pub returns-clause-binary : goal.returns-clause-binary
returns-clause-binary c = binary_typed

pub returns-clause-undrawn : goal.returns-clause-undrawn
returns-clause-undrawn c = undrawn_typed
