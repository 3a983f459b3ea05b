-- What is asked of the types of arrays and structs that are constructed.
use Rattle.std.specs.Prelude.{◌≡◌, ℕ, false, Some}
use Rattle.gsl_types.specs.declared.ty.Ty.{Ty}
use Rattle.gsl_words.specs.declared.module.Module.{Module}
use Rattle.gsl_valid.specs.Kinds.{shape_of}
use Rattle.gsl_valid.specs.OperandRules.{is_vector}
use Rattle.gsl_valid.specs.Types.{defined_as}
use Rattle.gsl_lower_holders.specs.Flow.{find_type}
use Rattle.gsl_lower_holders.specs.declared.place.FlowPlace.{FlowPlace}

-- The type that stands for one of the program is no vector in the module.
abbrev pub NoVector : Module → Ty → FlowPlace → Type 0
NoVector m ty place = (id : ℕ) → find_type ty place.composites ≡ Some id → is_vector (shape_of (defined_as m id)) ≡ false
