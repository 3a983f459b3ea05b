-- What a module says of zeros: of its constants of null, and of types (SPIR-V 1.0, 3.32.7).
use Rattle.std.specs.Prelude.{◌≡◌, ℕ, List, replicate, Some}
use Rattle.std.specs.List.{Contains}
use Rattle.gsl_types.specs.declared.ty.Scalar.{Scalar}
use Rattle.gsl_types.specs.declared.ty.StructType.{StructType}
use Rattle.gsl_types.specs.declared.ty.Ty.{Ty}
use Rattle.gsl_words.specs.declared.module.Module.{Module}
use Rattle.gsl_values.specs.declared.value.Value.TheVariants.{Word, Many}
use Rattle.gsl_tree.specs.Values.{zero_value}
use Rattle.gsl_machine.specs.Constants.{constant, zeros}
use Rattle.gsl_machine.specs.State.{Ids}
use Rattle.gsl_spv.specs.Declarations as d
use Rattle.gsl_spv.specs.Declarations.{defining}
use Rattle.gsl_spv.specs.Sections.{Sections}
use Rattle.gsl_spv.specs.declared.plain.PlainType.TheVariants as plain
use Rattle.gsl_lower_values.specs.Types.{plain_scalar}
use Rattle.gsl_lower_law.specs.Values.{Stands}
use Rattle.gsl_lower_holders.specs.Flow.{find_type}
use Rattle.gsl_lower_holders.specs.declared.place.FlowPlace.{FlowPlace}

-- In a module with the types and constants of some sections, in a function where these are the ids that last: a constant of null stands for the zeros of its
-- type, a variable with it as initialiser begins as them, and the zeros of scalars and vectors are what they are.
pub record Nulls (m : Module) (sections : Sections) (own : Ids) : Type 0 where
  pub null : (type id : ℕ) → Contains sections.globals (defining (d.null type) id) → Stands own id (zeros m type)
  pub begins : (type id : ℕ) → Contains sections.globals (defining (d.null type) id) → constant m id ≡ zeros m type
  pub scalar : (s : Scalar) (id : ℕ) → Contains sections.globals (defining (d.plain_type (plain_scalar s)) id) → zeros m id ≡ Word 0
  pub vector : (component count id : ℕ) → Contains sections.globals (defining (d.plain_type (plain.Vector component count)) id) → zeros m id ≡ Many (replicate count (zeros m component))

-- The zeros of what stands for an array or a struct of the program are its zeros.
abbrev pub KnowsZeros : Module → List StructType → Ty → FlowPlace → Type 0
KnowsZeros m structs t place = (id : ℕ) → find_type t place.composites ≡ Some id → zeros m id ≡ zero_value structs t
