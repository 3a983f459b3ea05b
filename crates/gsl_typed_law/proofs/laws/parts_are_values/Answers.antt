use Rattle.gsl_typed_law.proofs.Parts.{swizzle_typed, value_typed, with_value_typed}
use Rattle.gsl_typed_law.proofs.laws.parts_are_values.Goals as goal

pub returns-clause-part : goal.returns-clause-part
returns-clause-part c structs base path t v are = value_typed structs are base path t v

pub returns-clause-with : goal.returns-clause-with
returns-clause-with c structs base path t v new are = with_value_typed structs are base path t v new

pub returns-clause-swizzle : goal.returns-clause-swizzle
returns-clause-swizzle c = swizzle_typed
