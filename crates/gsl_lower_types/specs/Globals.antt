-- Global variables of a program as variables of a module, each with a constant that it begins with (SPIR-V 1.0, 3.32.7 and 3.32.8).
use Rattle.std.specs.Prelude.{ℕ, ◌+◌, List, [], ◌∷◌, slice_get, Option, Some, None}
use Rattle.gsl_instr.specs.declared.enumerant.storage_class.TheConstants as storage_class
use Rattle.gsl_types.specs.declared.ty.StructType.{StructType}
use Rattle.gsl_types.specs.declared.ty.Ty.{Ty}
use Rattle.gsl_types.specs.declared.ty.Ty.TheOpen.{Ty-F}
use Rattle.gsl_types.specs.declared.ty.Ty.TheVariants as ty
use Rattle.gsl_types.specs.declared.ty.Ty.TheViews.{out-Ty}
use Rattle.gsl_values.specs.declared.value.Value.{Value}
use Rattle.gsl_values.specs.declared.value.Value.TheFolds.{fold-Value}
use Rattle.gsl_values.specs.declared.value.Value.TheOpen.{Value-F}
use Rattle.gsl_tree.specs.declared.unit.GlobalVar.{GlobalVar}
use Rattle.gsl_spv.specs.Calls as call
use Rattle.gsl_spv.specs.declared.plain.PlainConst.TheVariants as of
use Rattle.gsl_lower_values.specs.Building.{◌>>=◌, given, id_by}
use Rattle.gsl_lower_values.specs.Types.{composed, scalar_constant}
use Rattle.gsl_lower_types.specs.Declaring.{variable_in}
use Rattle.gsl_lower_types.specs.Known.{Put, aside, each, lacking}
use Rattle.gsl_lower_types.specs.Laid.{types_in}
use Rattle.gsl_lower_types.specs.Values.{value_type}

-- ---- constants of every type

-- a word of a scalar type
abbrev pub word_of : Ty-F Ty → ℕ → Put ℕ
word_of (Ty-F.One s) word known = aside (scalar_constant s word) known
word_of _ word known = lacking

abbrev pub part_layer : List StructType → Ty-F Ty → ℕ → Option Ty
part_layer structs (Ty-F.Vector s n) number = Some (ty.One s)
part_layer structs (Ty-F.Array element n) number = Some element
part_layer structs (Ty-F.Struct which) number = slice_get (types_in (slice_get structs which)) number
part_layer structs _ number = None

-- the type of a component, element or member, by its number
unfoldable pub part_type : List StructType → Ty → ℕ → Option Ty
part_type structs t number = part_layer structs (out-Ty t) number

abbrev pub of_type : Option Ty → (Ty → Put ℕ) → Put ℕ
of_type None put known = lacking
of_type (Some t) put known = put t known

-- what puts the parts of a value of a type, numbered from one on
unfoldable pub parts_put : List StructType → Ty → ℕ → List (Ty → Put ℕ) → Put (List ℕ)
parts_put structs t number [] known = given ([], known)
parts_put structs t number (put ∷ puts) known =
    of_type (part_type structs t number) put known >>= (λ r. parts_put structs t (number + 1) puts r.1 >>= (λ rs. given (r.0 ∷ rs.0, rs.1)))

-- parts together
abbrev pub composed_as : Ty → List ℕ → Put ℕ
composed_as t parts known = value_type t known >>= (λ r. aside (composed parts r.0) r.1)

abbrev pub constant_layer : List StructType → Value-F (Ty → Put ℕ) → Ty → Put ℕ
constant_layer structs (Value-F.Word word) t known = word_of (out-Ty t) word known
constant_layer structs (Value-F.Many puts) t known = parts_put structs t 0 puts known >>= (λ r. composed_as t r.0 r.1)

-- the constant that is a value of a type
abbrev pub constant_of : List StructType → Value → Ty → Put ℕ
constant_of structs = fold-Value (Ty → Put ℕ) (constant_layer structs)

-- ---- variables

-- a variable begins with the value of its initialiser, and without one with zeros
abbrev pub beginning : List StructType → Ty → ℕ → Option Value → Put ℕ
beginning structs t type None = aside (id_by (call.constant (of.Null type)))
beginning structs t type (Some v) = constant_of structs v t

abbrev pub variable_of : List StructType → GlobalVar → ℕ → Put ℕ
variable_of structs g type known = beginning structs g.ty type g.value known >>= (λ r. aside (variable_in storage_class.PRIVATE type (Some r.0)) r.1)

-- a global variable
unfoldable pub global_put : List StructType → GlobalVar → Put ℕ
global_put structs g known = value_type g.ty known >>= (λ r. variable_of structs g r.0 r.1)

-- global variables, in their order
abbrev pub globals_put : List StructType → List GlobalVar → Put (List ℕ)
globals_put structs globals = each (global_put structs) globals
