-- Variables at the top of a unit: global ones, inputs and outputs (GLSL 4.50, 4.3).
use Rattle.std.specs.Prelude.{Bool, true, false, not, ◌||◌, List, [], ◌∷◌, map, Option, Some, None, is_none, unwrap_or, Ok, if◌then◌else◌}
use Rattle.gsl_base.specs.Checked.{Checked, ◌>>=◌}
use Rattle.gsl_base.specs.declared.fault.Code.TheVariants.{E0403, E0404, E0504, E0507, E0510, E0601, E0602, E0702, E0703, E0706, E0908}
use Rattle.gsl_base.specs.declared.stage.Stage.{Stage}
use Rattle.gsl_base.specs.declared.stage.Stage.TheVariants.{Vertex, Fragment, Compute}
use Rattle.gsl_syntax.specs.declared.declaration.Name.{Name}
use Rattle.gsl_syntax.specs.declared.declaration.Declarator.{Declarator}
use Rattle.gsl_syntax.specs.declared.declaration.Declarator.TheVariants as declarator_of
use Rattle.gsl_types.specs.declared.ty.Ty.{Ty}
use Rattle.gsl_values.specs.declared.value.Value.{Value}
use Rattle.gsl_tree.specs.declared.expr.Expr.{Expr}
use Rattle.gsl_tree.specs.declared.folded.Folded.{Folded}
use Rattle.gsl_tree.specs.declared.folded.Folded.TheVariants.{Known, NotConstant, Free}
use Rattle.gsl_tree.specs.declared.unit.GlobalVar.{GlobalVar}
use Rattle.gsl_tree.specs.Constants.{constant_of}
use Rattle.gsl_tree.specs.Shapes.{shape_of}
use Rattle.gsl_typing.specs.declared.scene.Part.{Part}
use Rattle.gsl_typing.specs.Rows.{fault, unless}
use Rattle.gsl_typing.specs.Conversions.{as_type}
use Rattle.gsl_typing.specs.Uses.{is_unread, integral_by}
use Rattle.gsl_check_expr.specs.declared.env.Env.{Env}
use Rattle.gsl_check_expr.specs.declared.writing.Written.{Written}
use Rattle.gsl_check_expr.specs.Sizes.{is_not_constant, is_left_open}
use Rattle.gsl_check_expr.specs.Expressions.{bracket}
use Rattle.gsl_check_expr.specs.Written.{declared, whole_type}
use Rattle.gsl_check_expr.specs.Initialisers.{initial, begun_type}
use Rattle.gsl_check_decl.specs.Declaring.{is_declared, is_reserved, may_be_had, is_high}
use Rattle.gsl_check_decl.specs.Locals.{may_be_plain, begun_as}
use Rattle.gsl_check_decl.specs.Globals.{with_global, with_interface}
use Rattle.gsl_qualifiers.specs.declared.qualified.Role.{Role}
use Rattle.gsl_qualifiers.specs.declared.qualified.Role.TheVariants.{Variable, Input, Output, Uniform, Buffer, Push, Member, Size, Nothing}
use Rattle.gsl_qualifiers.specs.declared.qualified.Qualified.{Qualified}

-- A declaration at the top of a unit: what is declared behind it, or its first fault.
abbrev pub Declares : Type 0
Declares = Env → Checked Env

-- one after the other
abbrev pub all_declared : List Declares → Env → Checked Env
all_declared [] env = Ok env
all_declared (one ∷ more) env = one env >>= all_declared more

-- ---- global variables

abbrev pub plain_global : Name → Ty → GlobalVar
plain_global name t = record { name = name.text; ty = t; constant = false; init = None; value = None; place = name.place }

-- a global variable that begins as zeros
unfoldable pub plain_variable : Bool → Name → Ty → Declares
plain_variable fixed name t env = may_be_plain fixed name t env >>= (λ _. Ok (with_global (plain_global name t) NotConstant env))

-- The type of a global variable that may begin as this value, which is a constant expression.
unfoldable pub may_begin : Name → Written → Part → Env → Checked Ty
may_begin name t x env = unless name.place (
    (E0403, is_declared env name.text)
    ∷ (E0404, is_reserved name.text)
    ∷ (E0504, is_none (begun_type t x))
    ∷ (E0507, is_unread env.scene x)
    ∷ (E0510, not (may_be_had env.scene (begun_as t x)))
    ∷ (E0601, is_not_constant (constant_of env.scene.consts x.expr))
    ∷ (E0602, is_left_open (constant_of env.scene.consts x.expr))
    ∷ (E0908, is_high env.scene (begun_as t x))
    ∷ []
    )
    (Ok (begun_as t x))

abbrev pub value_in : Folded → Option Value
value_in (Known v) = Some v
value_in NotConstant = None
value_in Free = None

-- what is known of a variable: of a `const` one its value
abbrev pub known_of : Bool → Folded → Folded
known_of fixed folded = if fixed then folded else NotConstant

-- a global variable of a type that begins as a value of its type
unfoldable pub set_variable : Bool → Name → Ty → Expr → Declares
set_variable fixed name t e env =
    let folded = constant_of env.scene.consts e in
    Ok (with_global (record { name = name.text; ty = t; constant = fixed; init = Some e; value = value_in folded; place = name.place }) (known_of fixed folded) env)

-- a global variable that begins as a value, which is converted to its type
unfoldable pub begun_variable : Bool → Name → Written → Part → Declares
begun_variable fixed name written x env = may_begin name written x env >>= (λ t. set_variable fixed name t (as_type t x.expr) env)

-- ---- inputs and outputs

-- an integer scalar or vector
abbrev pub is_integer_type : Ty → Bool
is_integer_type t = integral_by (shape_of t)

-- inputs of a fragment shader are `flat`
abbrev pub lacks_flat : Stage → Bool → Bool → Bool
lacks_flat Vertex output flat = false
lacks_flat Fragment true flat = false
lacks_flat Fragment false flat = not flat
lacks_flat Compute output flat = false

abbrev pub is_compute : Stage → Bool
is_compute Vertex = false
is_compute Fragment = false
is_compute Compute = true

-- a stage that has none of these, a type that they may not have, or no `flat`
unfoldable pub is_no_interface : Stage → Bool → Qualified → Ty → Bool
is_no_interface stage output q t = is_compute stage || not (is_integer_type t) || lacks_flat stage output q.flat

-- an input or output may be declared
unfoldable pub may_be_interface : Bool → Qualified → Name → Ty → Env → Checked (Unit {0})
may_be_interface output q name t env = unless name.place (
    (E0403, is_declared env name.text)
    ∷ (E0404, is_reserved name.text)
    ∷ (E0510, not (may_be_had env.scene t))
    ∷ (E0702, is_no_interface env.scene.stage output q t)
    ∷ (E0706, is_none q.location)
    ∷ []
    )
    (Ok tt)

unfoldable pub interface : Bool → Qualified → Name → Ty → Declares
interface output q name t env = may_be_interface output q name t env
    >>= (λ _. Ok (with_interface (record { name = name.text; ty = t; output = output; flat = q.flat; location = unwrap_or q.location 0; place = name.place }) env))

-- An input or output has no initialiser; what else is against its declaration comes first.
unfoldable pub begun_interface : Bool → Qualified → Name → Written → Part → Declares
begun_interface output q name t x env = unless name.place (
    (E0403, is_declared env name.text)
    ∷ (E0404, is_reserved name.text)
    ∷ (E0504, is_none (begun_type t x))
    ∷ (E0507, is_unread env.scene x)
    ∷ (E0510, not (may_be_had env.scene (begun_as t x)))
    ∷ (E0702, is_no_interface env.scene.stage output q (begun_as t x))
    ∷ []
    )
    (fault name.place E0703)

-- ---- one variable

-- by what variables are declared
abbrev pub plain_by : Role → Qualified → Name → Ty → Declares
plain_by Variable q name t = plain_variable q.fixed name t
plain_by Input q name t = interface false q name t
plain_by Output q name t = interface true q name t
plain_by Uniform q name t = plain_variable q.fixed name t
plain_by Buffer q name t = plain_variable q.fixed name t
plain_by Push q name t = plain_variable q.fixed name t
plain_by (Member in_buffer) q name t = plain_variable q.fixed name t
plain_by Size q name t = plain_variable q.fixed name t
plain_by Nothing q name t = plain_variable q.fixed name t

abbrev pub begun_by : Role → Qualified → Name → Written → Part → Declares
begun_by Variable q name t x = begun_variable q.fixed name t x
begun_by Input q name t x = begun_interface false q name t x
begun_by Output q name t x = begun_interface true q name t x
begun_by Uniform q name t x = begun_variable q.fixed name t x
begun_by Buffer q name t x = begun_variable q.fixed name t x
begun_by Push q name t x = begun_variable q.fixed name t x
begun_by (Member in_buffer) q name t x = begun_variable q.fixed name t x
begun_by Size q name t x = begun_variable q.fixed name t x
begun_by Nothing q name t x = begun_variable q.fixed name t x

-- One variable: its brackets, its initialiser, and then the variable, whose name is declared behind them.
abbrev pub declarator_by : Role → Qualified → Written → Declarator → Declares
declarator_by role q base (declarator_of.Plain name dims) env =
    declared (map (bracket env) dims) base >>= (λ t. whole_type t >>= (λ whole. plain_by role q name whole env))
declarator_by role q base (declarator_of.Initialised name dims init) env =
    declared (map (bracket env) dims) base >>= (λ t. initial env t init >>= (λ x. begun_by role q name t x env))

unfoldable pub declarator : Role → Qualified → Written → Declarator → Declares
declarator = declarator_by
