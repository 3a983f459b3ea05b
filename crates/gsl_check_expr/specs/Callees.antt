-- What calls mean: constructors, functions of the unit, and built-in functions (GLSL 4.50, 5.4 and 6.1).
use Rattle.std.specs.Prelude.{ℕ, min, List, [], ◌∷◌, length, Option, Some, None, if◌then◌else◌}
use Rattle.gsl_base.specs.Checked.{Checked}
use Rattle.gsl_base.specs.declared.fault.Place.{Place}
use Rattle.gsl_base.specs.declared.fault.Code.TheVariants.{E0401, E0402}
use Rattle.gsl_syntax.specs.declared.expr.Basic.{Basic}
use Rattle.gsl_syntax.specs.declared.expr.Basic.TheVariants as basic
use Rattle.gsl_types.specs.declared.ty.Scalar.TheVariants as scalar
use Rattle.gsl_types.specs.declared.ty.Ty.{Ty}
use Rattle.gsl_types.specs.declared.ty.Ty.TheVariants as ty
use Rattle.gsl_names.specs.declared.entry.Entry.{Entry}
use Rattle.gsl_names.specs.declared.entry.Entry.TheVariants as entry
use Rattle.gsl_names.specs.Scopes.{find, all_of}
use Rattle.gsl_typing.specs.declared.scene.Part.{Part}
use Rattle.gsl_typing.specs.Rows.{fault}
use Rattle.gsl_makers.specs.Constructors.{build}
use Rattle.gsl_calls.specs.Calls.{call, built}
use Rattle.gsl_check_expr.specs.declared.env.Env.{Env}
use Rattle.gsl_check_expr.specs.declared.brackets.Dimensions.{Dimensions}
use Rattle.gsl_check_expr.specs.Sizes.{Bracket, with_dimensions, is_plain_name}

-- the type that a keyword names
abbrev pub basic_type : Basic → Ty
basic_type basic.Void = ty.Void
basic_type basic.Bool = ty.One scalar.Bool
basic_type basic.Int = ty.One scalar.Int
basic_type basic.Uint = ty.One scalar.Uint
basic_type basic.Bvec2 = ty.Vector scalar.Bool 2
basic_type basic.Bvec3 = ty.Vector scalar.Bool 3
basic_type basic.Bvec4 = ty.Vector scalar.Bool 4
basic_type basic.Ivec2 = ty.Vector scalar.Int 2
basic_type basic.Ivec3 = ty.Vector scalar.Int 3
basic_type basic.Ivec4 = ty.Vector scalar.Int 4
basic_type basic.Uvec2 = ty.Vector scalar.Uint 2
basic_type basic.Uvec3 = ty.Vector scalar.Uint 3
basic_type basic.Uvec4 = ty.Vector scalar.Uint 4

-- what stands before the brackets of a type or a callee
pub data Base : Type 0 where
  Keyword : Basic → Base
  Name : List ℕ → Base

-- a type or a callee as it is written
pub record Callee : Type 0 where
  pub place : Place
  pub base : Base
  pub brackets : List Bracket

-- the prototypes among what the declarations of a name stand for
abbrev pub functions_in : List Entry → List ℕ
functions_in [] = []
functions_in (entry.Function number ∷ entries) = number ∷ functions_in entries
functions_in (_ ∷ entries) = functions_in entries

-- how many arguments there are, as a word
abbrev pub count_of : List Part → ℕ
count_of args = min (length args) 4294967295

-- a constructor of a type with brackets
abbrev pub constructor : Env → Place → Dimensions → Ty → List Part → Checked Part
constructor env place dims element args = build env.scene place (with_dimensions (count_of args) dims element) args

-- a call of the functions of a name
abbrev pub functions : Env → Place → List ℕ → List Part → Checked Part
functions env place name args = call env.scene place (functions_in (all_of env.names name)) args

-- a function has no brackets
abbrev pub bare : Place → Dimensions → Checked Part → Checked Part
bare place dims node = if is_plain_name dims then node else fault place E0402

abbrev pub called_entry : Env → Place → List ℕ → Dimensions → List Part → Option Entry → Checked Part
called_entry env place name dims args None = fault place E0401
called_entry env place name dims args (Some (entry.Struct number)) = constructor env place dims (ty.Struct number) args
called_entry env place name dims args (Some (entry.Function number)) = bare place dims (functions env place name args)
called_entry env place name dims args (Some (entry.Builtin which)) = bare place dims (built env.scene place which args)
called_entry env place name dims args (Some _) = fault place E0402

abbrev pub called_base : Env → Place → Base → Dimensions → List Part → Checked Part
called_base env place (Keyword basic) dims args = constructor env place dims (basic_type basic) args
called_base env place (Name name) dims args = called_entry env place name dims args (find env.names name)

-- A call once its brackets and its arguments are known: then comes its name, and then what it means.
unfoldable pub called : Env → Place → Base → Dimensions → List Part → Checked Part
called = called_base
