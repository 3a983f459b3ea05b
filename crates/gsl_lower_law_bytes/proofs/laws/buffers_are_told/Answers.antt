use Rattle.std.proofs.Common.{refl}
use Rattle.gsl_lower_law_bytes.proofs.Buffers.{value_bytes, value_set}
use Rattle.gsl_lower_law_bytes.proofs.laws.buffers_are_told.Goals as goal

pub returns-clause-bytes : goal.returns-clause-bytes
returns-clause-bytes c = λ structs blocks number block vs v buffers given own stands only there has. value_bytes structs block.set block.binding block (own, refl, refl) given blocks number vs v buffers stands only there has

pub returns-clause-set : goal.returns-clause-set
returns-clause-set c = λ structs blocks number block vs v new buffers given own stands only there has. value_set structs block.set block.binding block (own, refl, refl) given blocks number vs v new buffers stands only there has
