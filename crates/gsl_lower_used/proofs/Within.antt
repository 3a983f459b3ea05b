-- What holds of all parts holds of those that are lowered.
use Rattle.std.proofs.Common.{◌≡◌, refl, ap, ◌∙◌, ℕ, Bool, true, false, if◌then◌else◌, List, [], ◌∷◌, ◌++◌, slice_get}
use Rattle.std.specs.List.{AllByRecursion}
use Rattle.gsl_types.specs.declared.ty.Direction.{Direction}
use Rattle.gsl_types.specs.declared.ty.Ty.{Ty}
use Rattle.gsl_tree.specs.Around.{Around}
use Rattle.gsl_tree.specs.Expressions.{AreArguments, IsCall}
use Rattle.gsl_tree.specs.Trees.{Along, AlongAll, Exits, Placed, Throughout, ThroughoutAll, bodies, body_of, in_switch, inner_of, parts_of, with_exits}
use Rattle.gsl_tree.specs.Weights.{params_of}
use Rattle.gsl_tree.specs.declared.expr.Expr.{Expr}
use Rattle.gsl_tree.specs.declared.expr.ExprKind.{ExprKind}
use Rattle.gsl_tree.specs.declared.expr.ExprKind.TheOpen.{ExprKind-F}
use Rattle.gsl_tree.specs.declared.stmt.Arm.{Arm}
use Rattle.gsl_tree.specs.declared.stmt.Stmt.{Stmt}
use Rattle.gsl_tree.specs.declared.stmt.Stmt.TheOpen.{Stmt-F}
use Rattle.gsl_tree.specs.declared.unit.Prototype.{Prototype}
use Rattle.gsl_lower_needs.specs.Bodies.{leaves}
use Rattle.gsl_lower_used.specs.Lowered.{lowered_bodies, lowered_inner, lowered_parts, passed, up_to_jump}

-- ---- expressions

passed_all : (P : Expr → Type 0) (args : List Expr) (params : List (Direction × Ty)) → AllByRecursion P args → AllByRecursion P (passed args params)
passed_all P [] params all = tt
passed_all P (arg ∷ args) [] all = tt
passed_all P (arg ∷ args) (param ∷ params) all = (all.0, passed_all P args params all.1)

pub parts_all : (s : List Prototype) (P : Expr → Type 0) (form : ExprKind-F ExprKind Expr) → AllByRecursion P (parts_of form) → AllByRecursion P (lowered_parts s form)
parts_all s P (ExprKind-F.Length a) all = tt
parts_all s P (ExprKind-F.Call number args) all = passed_all P args (params_of (slice_get s number)) all
parts_all s P form all = all

pub each : (P : Expr → Type 0) (es : List Expr) → ThroughoutAll P es → AllByRecursion (Throughout P) es
each P _ ThroughoutAll.none = tt
each P _ (ThroughoutAll.more e es is rest) = (is, each P es rest)

in_row : (P : Expr → Type 0) (es : List Expr) → AllByRecursion (Throughout P) es → ThroughoutAll P es
in_row P [] all = ThroughoutAll.none
in_row P (e ∷ es) all = ThroughoutAll.more e es all.0 (in_row P es all.1)

pub parts_throughout : (s : List Prototype) (P : Expr → Type 0) (form : ExprKind-F ExprKind Expr) → ThroughoutAll P (parts_of form) → ThroughoutAll P (lowered_parts s form)
parts_throughout s P form all = in_row P (lowered_parts s form) (parts_all s (Throughout P) form (each P (parts_of form) all))

pub tops : (P : Expr → Type 0) (es : List Expr) → ThroughoutAll P es → AllByRecursion P es
tops P _ ThroughoutAll.none = tt
tops P _ (ThroughoutAll.more _ es (Throughout.whole e is parts) rest) = (is, tops P es rest)

-- a well typed call has a parameter for each argument
all_passed : (around : Around) (params : List (Direction × Ty)) (args : List Expr) → AreArguments around params args → passed args params ≡ args
all_passed around [] [] are = refl
all_passed around [] (arg ∷ args) are = absurd are
all_passed around (param ∷ params) [] are = absurd are
all_passed around (param ∷ params) (arg ∷ args) are = ap (λ rest. arg ∷ rest) (all_passed around params args are.1)

pub call_passed : (around : Around) (number : ℕ) (args : List Expr) (t : Ty) → IsCall around number args t → passed args (params_of (slice_get around.prototypes number)) ≡ args
call_passed around number args t is = ap (λ o. passed args (params_of o)) is.1 ∙ all_passed around is.0.params args is.3

-- ---- statements

cut_all : (P : Placed → Type 0) (exits : Exits) (left : Bool) (ss : List Stmt) → AllByRecursion P (with_exits exits ss) → AllByRecursion P (with_exits exits (if left then [] else ss))
cut_all P exits true ss all = tt
cut_all P exits false ss all = all

pub up_to_all : (P : Placed → Type 0) (exits : Exits) (ss : List Stmt) → AllByRecursion P (with_exits exits ss) → AllByRecursion P (with_exits exits (up_to_jump ss))
up_to_all P exits [] all = tt
up_to_all P exits (one ∷ ss) all = (all.0, cut_all P exits (leaves one) (up_to_jump ss) (up_to_all P exits ss all.1))

firsts : (P : Placed → Type 0) (exits : Exits) (ss more : List Stmt) → AllByRecursion P (with_exits exits (ss ++ more)) → AllByRecursion P (with_exits exits ss)
firsts P exits [] more all = tt
firsts P exits (s ∷ ss) more all = (all.0, firsts P exits ss more all.1)

lasts : (P : Placed → Type 0) (exits : Exits) (ss more : List Stmt) → AllByRecursion P (with_exits exits (ss ++ more)) → AllByRecursion P (with_exits exits more)
lasts P exits [] more all = all
lasts P exits (s ∷ ss) more all = lasts P exits ss more all.1

both : (P : Placed → Type 0) (exits : Exits) (ss more : List Stmt) → AllByRecursion P (with_exits exits ss) → AllByRecursion P (with_exits exits more) → AllByRecursion P (with_exits exits (ss ++ more))
both P exits [] more first second = second
both P exits (s ∷ ss) more first second = (first.0, both P exits ss more first.1 second)

bodies_all : (P : Placed → Type 0) (exits : Exits) (arms : List Arm) → AllByRecursion P (with_exits exits (bodies arms)) → AllByRecursion P (with_exits exits (lowered_bodies arms))
bodies_all P exits [] all = tt
bodies_all P exits (arm ∷ arms) all =
    both P exits (up_to_jump (body_of arm)) (lowered_bodies arms) (up_to_all P exits (body_of arm) (firsts P exits (body_of arm) (bodies arms) all)) (bodies_all P exits arms (lasts P exits (body_of arm) (bodies arms) all))

pub inner_all : (P : Placed → Type 0) (exits : Exits) (form : Stmt-F Stmt Arm) → AllByRecursion P (inner_of exits form) → AllByRecursion P (lowered_inner exits form)
inner_all P exits (Stmt-F.Group ss) all = up_to_all P exits ss all
inner_all P exits (Stmt-F.Switch selector arms) all = bodies_all P (in_switch exits) arms all
inner_all P exits form all = all

abbrev At : (Exits → Stmt → Type 0) → Placed → Type 0
At P placed = Along P placed.0 placed.1

each_along : (P : Exits → Stmt → Type 0) (placed : List Placed) → AlongAll P placed → AllByRecursion (At P) placed
each_along P _ AlongAll.none = tt
each_along P _ (AlongAll.more one rest is more) = (is, each_along P rest more)

along_row : (P : Exits → Stmt → Type 0) (placed : List Placed) → AllByRecursion (At P) placed → AlongAll P placed
along_row P [] all = AlongAll.none
along_row P (one ∷ rest) all = AlongAll.more one rest all.0 (along_row P rest all.1)

pub inner_along : (P : Exits → Stmt → Type 0) (exits : Exits) (form : Stmt-F Stmt Arm) → AlongAll P (inner_of exits form) → AlongAll P (lowered_inner exits form)
inner_along P exits form all = along_row P (lowered_inner exits form) (inner_all (At P) exits form (each_along P (inner_of exits form) all))

pub body_along : (P : Exits → Stmt → Type 0) (exits : Exits) (ss : List Stmt) → AlongAll P (with_exits exits ss) → AlongAll P (with_exits exits (up_to_jump ss))
body_along P exits ss all = along_row P (with_exits exits (up_to_jump ss)) (up_to_all (At P) exits ss (each_along P (with_exits exits ss) all))
