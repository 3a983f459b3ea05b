use Rattle.gsl_typed_law.proofs.Zeros.{declared_plain, zero_typed}
use Rattle.gsl_typed_law.proofs.laws.zeros_are_values.Goals as goal

pub returns-clause-zero : goal.returns-clause-zero
returns-clause-zero c structs t are plain = zero_typed structs are plain t

pub returns-clause-declared : goal.returns-clause-declared
returns-clause-declared c = declared_plain
