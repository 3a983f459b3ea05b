-- Local variables (GLSL 4.50, 4.1 and 4.3): their qualifiers, their types, and what they begin as.
use Rattle.std.specs.Prelude.{ℕ, Bool, true, false, not, List, [], ◌∷◌, ◌++◌, map, length, Some, None, is_none, unwrap_or, Ok, if◌then◌else◌}
use Rattle.gsl_base.specs.Checked.{Checked, ◌>>=◌}
use Rattle.gsl_base.specs.declared.fault.Place.{Place}
use Rattle.gsl_base.specs.declared.fault.Code.TheVariants.{E0403, E0404, E0504, E0507, E0510, E0601, E0602, E0604, E0701, E0704, E0908}
use Rattle.gsl_syntax.specs.declared.declaration.Name.{Name}
use Rattle.gsl_syntax.specs.declared.declaration.Lay.{Lay}
use Rattle.gsl_syntax.specs.declared.declaration.Lay.TheVariants as lay
use Rattle.gsl_syntax.specs.declared.declaration.Qual.{Qual}
use Rattle.gsl_syntax.specs.declared.declaration.Qual.TheVariants as qual
use Rattle.gsl_syntax.specs.declared.declaration.Declarator.{Declarator}
use Rattle.gsl_syntax.specs.declared.declaration.Declarator.TheVariants as declarator_of
use Rattle.gsl_types.specs.declared.ty.Ty.{Ty}
use Rattle.gsl_types.specs.declared.ty.Ty.TheVariants as ty
use Rattle.gsl_names.specs.declared.entry.Entry.TheVariants as entry
use Rattle.gsl_names.specs.Scopes.{declare}
use Rattle.gsl_tree.specs.declared.expr.Expr.{Expr}
use Rattle.gsl_tree.specs.declared.folded.Folded.{Folded}
use Rattle.gsl_tree.specs.declared.folded.Folded.TheVariants.{NotConstant}
use Rattle.gsl_tree.specs.declared.stmt.Stmt.TheVariants as stmt
use Rattle.gsl_tree.specs.Constants.{constant_of}
use Rattle.gsl_typing.specs.declared.scene.Scene.{Scene}
use Rattle.gsl_typing.specs.declared.scene.Part.{Part}
use Rattle.gsl_typing.specs.Rows.{fault, unless}
use Rattle.gsl_typing.specs.Conversions.{as_type}
use Rattle.gsl_typing.specs.Uses.{is_unread}
use Rattle.gsl_check_expr.specs.declared.env.Env.{Env}
use Rattle.gsl_check_expr.specs.declared.writing.Written.{Written}
use Rattle.gsl_check_expr.specs.Sizes.{is_not_constant, is_left_open}
use Rattle.gsl_check_expr.specs.Expressions.{bracket, taken_expression}
use Rattle.gsl_check_expr.specs.Written.{declared, whole_type}
use Rattle.gsl_check_expr.specs.Initialisers.{initial, begun_type}
use Rattle.gsl_check_decl.specs.Steps.{Step}
use Rattle.gsl_check_decl.specs.Declaring.{is_declared, is_reserved, may_be_had, is_high}

-- ---- qualifiers: `const` alone, and once

-- a layout value where its name may not stand; what a value owes comes first
abbrev pub refused_value : Scene → Place → Part → Checked Bool
refused_value scene place x = unless place (
    (E0507, is_unread scene x)
    ∷ (E0601, is_not_constant (constant_of scene.consts x.expr))
    ∷ (E0602, is_left_open (constant_of scene.consts x.expr))
    ∷ []
    )
    (fault place E0704)

-- No layout name may stand before a local variable; the first one is the fault.
abbrev pub refused_layout : Env → Place → List Lay → Checked Bool
refused_layout env place [] = fault place E0701
refused_layout env place (lay.Flag name ∷ items) = fault name.place E0704
refused_layout env place (lay.Value name e ∷ items) = taken_expression env e >>= (λ x. refused_value env.scene name.place x)

-- whether local variables are `const` behind one more qualifier
abbrev pub qualified_by : Env → Bool → Qual → Checked Bool
qualified_by env fixed (qual.Const place) = if fixed then fault place E0701 else Ok true
qualified_by env fixed (qual.In place) = fault place E0701
qualified_by env fixed (qual.Out place) = fault place E0701
qualified_by env fixed (qual.Inout place) = fault place E0701
qualified_by env fixed (qual.Uniform place) = fault place E0701
qualified_by env fixed (qual.Buffer place) = fault place E0701
qualified_by env fixed (qual.Flat place) = fault place E0701
qualified_by env fixed (qual.Coherent place) = fault place E0701
qualified_by env fixed (qual.Volatile place) = fault place E0701
qualified_by env fixed (qual.Restrict place) = fault place E0701
qualified_by env fixed (qual.Readonly place) = fault place E0701
qualified_by env fixed (qual.Writeonly place) = fault place E0701
qualified_by env fixed (qual.Layout place items) = refused_layout env place items

abbrev pub qualified_from : Env → Bool → List Qual → Checked Bool
qualified_from env fixed [] = Ok fixed
qualified_from env fixed (qual ∷ quals) = qualified_by env fixed qual >>= (λ so_far. qualified_from env so_far quals)

-- Whether local variables are `const`, by their qualifiers from left to right.
unfoldable pub qualified : Env → List Qual → Checked Bool
qualified env quals = qualified_from env false quals

-- ---- variables

-- what is declared behind one more local variable: its name, its type, and what is known of its value
unfoldable pub with_local : Bool → List ℕ → Ty → Folded → Env → Env
with_local fixed name t folded env = record env {
  names = declare name (entry.Local (length env.scene.locals) fixed) env.names;
  scene = record env.scene {
    locals = env.scene.locals ++ t ∷ [];
    consts = record env.scene.consts { locals = env.scene.consts.locals ++ folded ∷ [] };
  };
}

-- a variable that begins as zeros may be declared
unfoldable pub may_be_plain : Bool → Name → Ty → Env → Checked (Unit {0})
may_be_plain fixed name t env = unless name.place (
    (E0403, is_declared env name.text)
    ∷ (E0404, is_reserved name.text)
    ∷ (E0510, not (may_be_had env.scene t))
    ∷ (E0604, fixed)
    ∷ (E0908, is_high env.scene t)
    ∷ []
    )
    (Ok tt)

-- a variable that begins as zeros
unfoldable pub plain_variable : Bool → Name → Ty → Step
plain_variable fixed name t env = may_be_plain fixed name t env
    >>= (λ _. Ok (stmt.Declare (length env.scene.locals) None, with_local false name.text t NotConstant env))

-- what is known of a variable that begins as this expression
abbrev pub known_as : Scene → Bool → Expr → Folded
known_as scene fixed e = if fixed then constant_of scene.consts e else NotConstant

-- a variable of a type that begins as this value of its type
unfoldable pub set_variable : Bool → Name → Ty → Expr → Step
set_variable fixed name t e env = Ok (stmt.Declare (length env.scene.locals) (Some e), with_local fixed name.text t (known_as env.scene fixed e) env)

-- the type that a variable has by its initialiser; it is asked for where there is one
abbrev pub begun_as : Written → Part → Ty
begun_as t x = unwrap_or (begun_type t x) ty.Void

-- the type of a variable that may begin as this value
unfoldable pub may_begin : Name → Written → Part → Env → Checked Ty
may_begin name t x env = unless name.place (
    (E0403, is_declared env name.text)
    ∷ (E0404, is_reserved name.text)
    ∷ (E0504, is_none (begun_type t x))
    ∷ (E0507, is_unread env.scene x)
    ∷ (E0510, not (may_be_had env.scene (begun_as t x)))
    ∷ (E0908, is_high env.scene (begun_as t x))
    ∷ []
    )
    (Ok (begun_as t x))

-- a variable that begins as a value, which is converted to its type
unfoldable pub begun_variable : Bool → Name → Written → Part → Step
begun_variable fixed name written x env = may_begin name written x env >>= (λ t. set_variable fixed name t (as_type t x.expr) env)

-- One variable: its brackets, its initialiser, and then the variable, whose name is declared behind them. A size is left out only
-- where an initialiser follows.
abbrev pub declarator_by : Bool → Written → Declarator → Step
declarator_by fixed base (declarator_of.Plain name dims) env =
    declared (map (bracket env) dims) base >>= (λ t. whole_type t >>= (λ whole. plain_variable fixed name whole env))
declarator_by fixed base (declarator_of.Initialised name dims init) env =
    declared (map (bracket env) dims) base >>= (λ t. initial env t init >>= (λ x. begun_variable fixed name t x env))

unfoldable pub declarator : Bool → Written → Declarator → Step
declarator = declarator_by
