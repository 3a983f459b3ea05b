-- Types as they are written: a keyword or the name of a struct, with brackets (GLSL 4.50, 4.1.8 and 4.1.9).
use Rattle.std.specs.Prelude.{ℕ, List, Option, Some, None, Ok}
use Rattle.gsl_base.specs.Checked.{Checked, ◌>>=◌}
use Rattle.gsl_base.specs.declared.fault.Place.{Place}
use Rattle.gsl_base.specs.declared.fault.Code.TheVariants.{E0401, E0402, E0603}
use Rattle.gsl_syntax.specs.declared.expr.TypeSpec.{TypeSpec}
use Rattle.gsl_types.specs.declared.ty.Ty.{Ty}
use Rattle.gsl_types.specs.declared.ty.Ty.TheVariants as ty
use Rattle.gsl_names.specs.declared.entry.Entry.{Entry}
use Rattle.gsl_names.specs.declared.entry.Entry.TheVariants as entry
use Rattle.gsl_names.specs.Scopes.{find}
use Rattle.gsl_typing.specs.Rows.{fault}
use Rattle.gsl_check_expr.specs.declared.brackets.Dimensions.{Dimensions}
use Rattle.gsl_check_expr.specs.declared.brackets.Dimensions.TheVariants.{Plain, Sized}
use Rattle.gsl_check_expr.specs.declared.env.Env.{Env}
use Rattle.gsl_check_expr.specs.declared.writing.Written.{Written}
use Rattle.gsl_check_expr.specs.declared.writing.Written.TheVariants.{Whole, Open}
use Rattle.gsl_check_expr.specs.Sizes.{Bracket, dimensions, arrayed}
use Rattle.gsl_check_expr.specs.Callees.{Base, Keyword, Name, Callee, basic_type}
use Rattle.gsl_check_expr.specs.Expressions.{callee}

-- ---- what stands before the brackets

abbrev pub struct_named : Place → Option Entry → Checked Ty
struct_named place None = fault place E0401
struct_named place (Some (entry.Struct number)) = Ok (ty.Struct number)
struct_named place (Some _) = fault place E0402

abbrev pub base_by : Env → Place → Base → Checked Ty
base_by env place (Keyword basic) = Ok (basic_type basic)
base_by env place (Name name) = struct_named place (find env.names name)

-- the type of a keyword, or the struct of a name
unfoldable pub base_type : Env → Place → Base → Checked Ty
base_type = base_by

-- ---- brackets around a type

-- an array of a size, or one whose size is left out
abbrev pub array_of : Place → Option ℕ → Ty → Written
array_of place (Some size) element = Whole (ty.Array element size)
array_of place None element = Open place element

-- a type with its brackets, the first of which is the outermost
abbrev pub bracketed : Dimensions → Ty → Written
bracketed Plain t = Whole t
bracketed (Sized place size rest) t = array_of place size (arrayed rest t)

-- ---- types of declarations

-- a type as it is written: its brackets, and then what stands before them
unfoldable pub written_by : Env → Callee → Checked Written
written_by env c = dimensions c.brackets >>= (λ dims. base_type env c.place c.base >>= (λ t. Ok (bracketed dims t)))

abbrev pub written_type : Env → TypeSpec → Checked Written
written_type env t = written_by env (callee env t)

-- Brackets behind a name stand around those of the type, which then has all of its sizes.
abbrev pub named_by : Dimensions → Written → Checked Written
named_by Plain base = Ok base
named_by (Sized place size rest) (Whole t) = Ok (bracketed (Sized place size rest) t)
named_by (Sized place size rest) (Open missing t) = fault missing E0603

-- the type of a name that is declared with brackets, where this one stands before it: `int[2] a[3]` has three elements of `int[2]`
unfoldable pub declared : List Bracket → Written → Checked Written
declared brackets base = dimensions brackets >>= (λ dims. named_by dims base)

-- a type with all of its sizes
unfoldable pub whole_type : Written → Checked Ty
whole_type (Whole t) = Ok t
whole_type (Open place element) = fault place E0603
