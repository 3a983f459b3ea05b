-- Typed expressions and statements, their parts, and what holds of all parts.
use Rattle.std.specs.Prelude.{Bool, true, false, List, [], ◌∷◌, ◌++◌, map, Option, Some, None}
use Rattle.gsl_base.specs.declared.fault.Place.{Place}
use Rattle.gsl_types.specs.declared.ty.Ty.{Ty}
use Rattle.gsl_tree.specs.declared.expr.Expr.{Expr, out-Expr, roll-Expr}
use Rattle.gsl_tree.specs.declared.expr.ExprKind.{ExprKind, out-ExprKind}
use Rattle.gsl_tree.specs.declared.expr.ExprKind.TheOpen.{ExprKind-F}
use Rattle.gsl_tree.specs.declared.stmt.Stmt.{Stmt, out-Stmt}
use Rattle.gsl_tree.specs.declared.stmt.Stmt.TheOpen.{Stmt-F}
use Rattle.gsl_tree.specs.declared.stmt.Arm.{Arm, out-Arm}

-- ---- expressions

-- an expression of a type, at a place
abbrev pub typed : Place → Ty → ExprKind → Expr
typed place ty kind = roll-Expr (record { ty = ty; place = place; kind = kind })

abbrev pub type_of : Expr → Ty
type_of e = (out-Expr e).ty

abbrev pub place_of : Expr → Place
place_of e = (out-Expr e).place

-- what an expression is, with its parts
abbrev pub form_of : Expr → ExprKind-F ExprKind Expr
form_of e = out-ExprKind (out-Expr e).kind

-- the parts of a form, whatever stands for an expression
abbrev pub parts_of : {K E : Type 0} → ExprKind-F K E → List E
parts_of (ExprKind-F.Const v) = []
parts_of (ExprKind-F.Local number) = []
parts_of (ExprKind-F.Global number) = []
parts_of (ExprKind-F.Param number) = []
parts_of (ExprKind-F.BlockMember block number) = []
parts_of (ExprKind-F.Stage var) = []
parts_of (ExprKind-F.Interface number) = []
parts_of (ExprKind-F.Member a number) = a ∷ []
parts_of (ExprKind-F.Index a i) = a ∷ i ∷ []
parts_of (ExprKind-F.Swizzle a lanes) = a ∷ []
parts_of (ExprKind-F.Length a) = a ∷ []
parts_of (ExprKind-F.Unary op a) = a ∷ []
parts_of (ExprKind-F.Binary op a b) = a ∷ b ∷ []
parts_of (ExprKind-F.Logic op a b) = a ∷ b ∷ []
parts_of (ExprKind-F.Choose test a b) = test ∷ a ∷ b ∷ []
parts_of (ExprKind-F.Assign a b) = a ∷ b ∷ []
parts_of (ExprKind-F.Update op a b) = a ∷ b ∷ []
parts_of (ExprKind-F.Step op a) = a ∷ []
parts_of (ExprKind-F.Call number args) = args
parts_of (ExprKind-F.Built which args) = args
parts_of (ExprKind-F.Build args) = args
parts_of (ExprKind-F.Convert a) = a ∷ []
parts_of (ExprKind-F.Comma items) = items

-- Something holds of an expression and of all expressions in it.
mutual
  pub data Throughout (P : Expr → Type 0) : Expr → Type 0 where
    whole : (e : Expr) → P e → ThroughoutAll P (parts_of (form_of e)) → Throughout P e

  pub data ThroughoutAll (P : Expr → Type 0) : List Expr → Type 0 where
    none : ThroughoutAll P []
    more : (e : Expr) (es : List Expr) → Throughout P e → ThroughoutAll P es → ThroughoutAll P (e ∷ es)

-- ---- statements

-- an arm as it is read
abbrev pub body_of : Arm → List Stmt
body_of arm = (out-Arm arm).body

-- which jumps a statement may make
pub record Exits : Type 0 where
  pub breaks : Bool
  pub continues : Bool

-- a function's body has nothing to leave but the function
abbrev pub outside : Exits
outside = record { breaks = false; continues = false }

abbrev pub in_loop : Exits
in_loop = record { breaks = true; continues = true }

-- `break` leaves a `switch`, and `continue` goes to the loop around it
abbrev pub in_switch : Exits → Exits
in_switch exits = record { breaks = true; continues = exits.continues }

-- a statement with the jumps that it may make
abbrev pub Placed : Type 0
Placed = Exits × Stmt

abbrev pub or_nothing : {A : Type 0} → Option A → List A
or_nothing None = []
or_nothing (Some a) = a ∷ []

abbrev pub bodies : List Arm → List Stmt
bodies [] = []
bodies (arm ∷ arms) = body_of arm ++ bodies arms

abbrev pub with_exits : Exits → List Stmt → List Placed
with_exits exits stmts = map (λ s. (exits, s)) stmts

-- the statements that a statement has as its parts
abbrev pub inner_of : Exits → Stmt-F Stmt Arm → List Placed
inner_of exits (Stmt-F.Group stmts) = with_exits exits stmts
inner_of exits (Stmt-F.If test then None) = with_exits exits (then ∷ [])
inner_of exits (Stmt-F.If test then (Some other)) = with_exits exits (then ∷ other ∷ [])
inner_of exits (Stmt-F.Loop test step body test_last) = with_exits in_loop (body ∷ [])
inner_of exits (Stmt-F.Switch selector arms) = with_exits (in_switch exits) (bodies arms)
inner_of exits _ = []

-- the expressions that a statement has as its parts
abbrev pub exprs_of : {S A : Type 0} → Stmt-F S A → List Expr
exprs_of (Stmt-F.Eval e) = e ∷ []
exprs_of (Stmt-F.Declare number init) = or_nothing init
exprs_of (Stmt-F.If test then other) = test ∷ []
exprs_of (Stmt-F.Loop test step body test_last) = or_nothing test ++ or_nothing step
exprs_of (Stmt-F.Switch selector arms) = selector ∷ []
exprs_of (Stmt-F.Return value) = or_nothing value
exprs_of _ = []

-- Something holds of a statement where it stands and of all statements in it.
mutual
  pub data Along (P : Exits → Stmt → Type 0) : Exits → Stmt → Type 0 where
    whole : (exits : Exits) (s : Stmt) → P exits s → AlongAll P (inner_of exits (out-Stmt s)) → Along P exits s

  pub data AlongAll (P : Exits → Stmt → Type 0) : List Placed → Type 0 where
    none : AlongAll P []
    more : (placed : Placed) (rest : List Placed) → Along P placed.0 placed.1 → AlongAll P rest → AlongAll P (placed ∷ rest)
