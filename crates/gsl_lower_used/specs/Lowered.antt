-- What of bodies is lowered (GLSL 4.50, 4.1.9, 6.1 and 6.4).
use Rattle.std.specs.Prelude.{if◌then◌else◌, List, [], ◌∷◌, ◌++◌, slice_get}
use Rattle.gsl_types.specs.declared.ty.Direction.{Direction}
use Rattle.gsl_types.specs.declared.ty.Ty.{Ty}
use Rattle.gsl_tree.specs.Trees.{Exits, Placed, body_of, form_of, in_switch, inner_of, parts_of, with_exits}
use Rattle.gsl_tree.specs.Weights.{params_of}
use Rattle.gsl_tree.specs.declared.expr.Expr.{Expr}
use Rattle.gsl_tree.specs.declared.expr.ExprKind.TheOpen.{ExprKind-F}
use Rattle.gsl_tree.specs.declared.stmt.Arm.{Arm}
use Rattle.gsl_tree.specs.declared.stmt.Stmt.{Stmt, out-Stmt}
use Rattle.gsl_tree.specs.declared.stmt.Stmt.TheOpen.{Stmt-F}
use Rattle.gsl_tree.specs.declared.unit.Prototype.{Prototype}
use Rattle.gsl_lower_needs.specs.Bodies.{leaves}

-- ---- expressions

-- the arguments that there are parameters for
abbrev pub passed : {E : Type 0} → List E → List (Direction × Ty) → List E
passed [] params = []
passed (arg ∷ args) [] = []
passed (arg ∷ args) (param ∷ params) = arg ∷ passed args params

-- The parts of a form that are lowered with it, where these are the heads of functions: what `.length()` is asked of is not evaluated, and an
-- argument is where the function has a parameter for it.
abbrev pub lowered_parts : {K E : Type 0} → List Prototype → ExprKind-F K E → List E
lowered_parts s (ExprKind-F.Length a) = []
lowered_parts s (ExprKind-F.Call number args) = passed args (params_of (slice_get s number))
lowered_parts s form = parts_of form

-- Something holds of an expression and of all expressions in it that are lowered with it.
mutual
  pub data ThroughoutLowered (s : List Prototype) (P : Expr → Type 0) : Expr → Type 0 where
    whole : (e : Expr) → P e → ThroughoutAllLowered s P (lowered_parts s (form_of e)) → ThroughoutLowered s P e

  pub data ThroughoutAllLowered (s : List Prototype) (P : Expr → Type 0) : List Expr → Type 0 where
    none : ThroughoutAllLowered s P []
    more : (e : Expr) (es : List Expr) → ThroughoutLowered s P e → ThroughoutAllLowered s P es → ThroughoutAllLowered s P (e ∷ es)

-- ---- statements

-- Statements up to the first that leaves: behind a jump nothing is lowered.
abbrev pub up_to_jump : List Stmt → List Stmt
up_to_jump [] = []
up_to_jump (one ∷ ss) = one ∷ (if leaves one then [] else up_to_jump ss)

abbrev pub lowered_bodies : List Arm → List Stmt
lowered_bodies [] = []
lowered_bodies (arm ∷ arms) = up_to_jump (body_of arm) ++ lowered_bodies arms

-- the statements in a statement that are lowered with it
abbrev pub lowered_inner : Exits → Stmt-F Stmt Arm → List Placed
lowered_inner exits (Stmt-F.Group ss) = with_exits exits (up_to_jump ss)
lowered_inner exits (Stmt-F.Switch selector arms) = with_exits (in_switch exits) (lowered_bodies arms)
lowered_inner exits form = inner_of exits form

-- Something holds of a statement where it stands and of all statements in it that are lowered with it.
mutual
  pub data AlongLowered (P : Exits → Stmt → Type 0) : Exits → Stmt → Type 0 where
    whole : (exits : Exits) (one : Stmt) → P exits one → AlongAllLowered P (lowered_inner exits (out-Stmt one)) → AlongLowered P exits one

  pub data AlongAllLowered (P : Exits → Stmt → Type 0) : List Placed → Type 0 where
    none : AlongAllLowered P []
    more : (placed : Placed) (rest : List Placed) → AlongLowered P placed.0 placed.1 → AlongAllLowered P rest → AlongAllLowered P (placed ∷ rest)
