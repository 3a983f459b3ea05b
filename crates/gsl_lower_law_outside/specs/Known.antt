-- What a module says of the types that stand for arrays and structs of the program (SPIR-V 1.0, 3.32.6 and 3.32.7).
use Rattle.std.specs.Prelude.{◌≡◌, ℕ, false, IsTrue, List, length, Some}
use Rattle.gsl_types.specs.Known.{IsSound, is_plain}
use Rattle.gsl_types.specs.declared.ty.StructType.{StructType}
use Rattle.gsl_types.specs.declared.ty.Ty.{Ty}
use Rattle.gsl_words.specs.declared.module.Module.{Module}
use Rattle.gsl_tree.specs.Values.{zero_value}
use Rattle.gsl_valid.specs.Kinds.{shape_of}
use Rattle.gsl_valid.specs.OperandRules.{is_vector}
use Rattle.gsl_valid.specs.Types.{defined_as}
use Rattle.gsl_machine.specs.Constants.{zeros}
use Rattle.gsl_lower_holders.specs.Flow.{find_type}
use Rattle.gsl_lower_types.specs.Known.{Known}

-- The zeros of the type that stands for one of the program are the zeros of that one, where it is the type of a variable; and it is no vector.
pub record AreTold (m : Module) (structs : List StructType) (known : Known) : Type 0 where
  pub zeros : (t : Ty) (id : ℕ) → find_type t known ≡ Some id → IsSound (length structs) t → IsTrue (is_plain t) → zeros m id ≡ zero_value structs t
  pub vectors : (t : Ty) (id : ℕ) → find_type t known ≡ Some id → is_vector (shape_of (defined_as m id)) ≡ false
