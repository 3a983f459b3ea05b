-- Calls of functions over typed arguments, with the faults of their nodes (GLSL 4.50, 6.1).
use Rattle.std.specs.Prelude.{ℕ, Bool, false, not, ◌||◌, List, [], ◌∷◌, map, slice_get, slice_index_or, Option, Some, None, Result, Ok, Err}
use Rattle.std.specs.List.{list_any}
use Rattle.gsl_base.specs.Checked.{Checked}
use Rattle.gsl_base.specs.declared.fault.Place.{Place}
use Rattle.gsl_base.specs.declared.fault.Code.TheVariants.{E0501, E0502, E0507}
use Rattle.gsl_overload.specs.Best.{Signature, Param, chosen}
use Rattle.gsl_overload.specs.declared.choice.Choice.{Choice}
use Rattle.gsl_overload.specs.declared.choice.Choice.TheVariants.{NoMatch, Ambiguous}
use Rattle.gsl_types.specs.declared.ty.Direction.{Direction}
use Rattle.gsl_types.specs.declared.ty.Direction.TheVariants.{In, Out, InOut}
use Rattle.gsl_types.specs.declared.ty.Ty.{Ty}
use Rattle.gsl_types.specs.declared.ty.Ty.TheVariants as ty
use Rattle.gsl_values.specs.declared.function.Builtin.{Builtin}
use Rattle.gsl_tree.specs.declared.expr.Expr.{Expr}
use Rattle.gsl_tree.specs.declared.expr.ExprKind.TheVariants as kind
use Rattle.gsl_tree.specs.declared.unit.Prototype.{Prototype}
use Rattle.gsl_tree.specs.Shapes.{Shape, of_shape, built_shape}
use Rattle.gsl_tree.specs.Paths.{params_at}
use Rattle.gsl_tree.specs.Expressions.{shapes_of}
use Rattle.gsl_typing.specs.declared.scene.Scene.{Scene}
use Rattle.gsl_typing.specs.declared.scene.Part.{Part}
use Rattle.gsl_typing.specs.Rows.{fault, unless}
use Rattle.gsl_typing.specs.Scene.{type_in, made}
use Rattle.gsl_typing.specs.Conversions.{as_type}
use Rattle.gsl_typing.specs.Uses.{is_unread, is_writable}
use Rattle.gsl_calls.specs.Candidates.{candidates}

-- the types of arguments
abbrev pub types_in : List Part → List Ty
types_in args = map type_in args

-- ---- arguments where parameters are

-- What goes in is converted to the parameter's type; what comes out is converted where it comes back.
abbrev pub as_argument : Param → Expr → Expr
as_argument (In, t) arg = as_type t arg
as_argument (Out, t) arg = arg
as_argument (InOut, t) arg = arg

abbrev pub as_arguments : List Param → List Part → List Expr
as_arguments (param ∷ params) (arg ∷ args) = as_argument param arg.expr ∷ as_arguments params args
as_arguments _ _ = []

-- an argument that may not be used so: what goes in is read, and what comes out is written
abbrev pub is_misused : Scene → Direction → Part → Bool
is_misused scene In arg = is_unread scene arg
is_misused scene Out arg = not (is_writable scene arg)
is_misused scene InOut arg = not (is_writable scene arg) || is_unread scene arg

abbrev pub any_misused : Scene → List Param → List Part → Bool
any_misused scene (param ∷ params) (arg ∷ args) = is_misused scene param.0 arg || any_misused scene params args
any_misused scene _ _ = false

-- ---- a function of the unit

-- the parameters of the function of a prototype
abbrev pub params_of : Scene → ℕ → Signature
params_of scene number = params_at (slice_get scene.prototypes number)

abbrev pub result_at : Option Prototype → Ty
result_at None = ty.Void
result_at (Some prototype) = prototype.result

-- the type of a call of the function of a prototype
abbrev pub result_of : Scene → ℕ → Ty
result_of scene number = result_at (slice_get scene.prototypes number)

-- a call of the function of a prototype, which fits
unfoldable pub call_of : Scene → Place → ℕ → List Part → Checked Part
call_of scene place number args = unless place ((E0507, any_misused scene (params_of scene number) args) ∷ [])
    (Ok (made place (result_of scene number) (kind.Call number (as_arguments (params_of scene number) args))))

abbrev pub call_by : Scene → Place → List ℕ → List Part → Result ℕ Choice → Checked Part
call_by scene place numbers args (Err NoMatch) = fault place E0501
call_by scene place numbers args (Err Ambiguous) = fault place E0502
call_by scene place numbers args (Ok chosen_at) = call_of scene place (slice_index_or numbers chosen_at 0) args

-- A call of one of the functions of a name, by the numbers of their prototypes: that which the types of the arguments choose.
unfoldable pub call : Scene → Place → List ℕ → List Part → Checked Part
call scene place numbers args = call_by scene place numbers args (chosen (map (params_of scene) numbers) (types_in args))

-- ---- a built-in function

abbrev pub type_of_shape : Option Shape → Ty
type_of_shape None = ty.Void
type_of_shape (Some shape) = of_shape shape

abbrev pub built_type_by : Builtin → Option (List Shape) → Ty
built_type_by which None = ty.Void
built_type_by which (Some shapes) = type_of_shape (built_shape which shapes)

-- the type of a call of a built-in function on arguments that are converted
abbrev pub built_type : Builtin → List Expr → Ty
built_type which args = built_type_by which (shapes_of args)

-- a call of a built-in function with these parameters, which fit
unfoldable pub built_of : Scene → Place → Builtin → Signature → List Part → Checked Part
built_of scene place which params args = unless place ((E0507, any_misused scene params args) ∷ [])
    (Ok (made place (built_type which (as_arguments params args)) (kind.Built which (as_arguments params args))))

abbrev pub built_by : Scene → Place → Builtin → List Part → Result ℕ Choice → Checked Part
built_by scene place which args (Err NoMatch) = fault place E0501
built_by scene place which args (Err Ambiguous) = fault place E0502
built_by scene place which args (Ok chosen_at) = built_of scene place which (slice_index_or (candidates which) chosen_at []) args

-- A call of a built-in function: the types of the arguments choose among its candidates.
unfoldable pub built : Scene → Place → Builtin → List Part → Checked Part
built scene place which args = built_by scene place which args (chosen (candidates which) (types_in args))
