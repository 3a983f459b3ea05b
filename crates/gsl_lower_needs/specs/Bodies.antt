-- Whether statements leave, and what is asked for at them (GLSL 4.50, chapter 6).
use Rattle.std.specs.Prelude.{Bool, true, false, ◌||◌, List, [], ◌∷◌, map, Option, Some, None}
use Rattle.gsl_tree.specs.declared.expr.Expr.{Expr}
use Rattle.gsl_tree.specs.declared.stmt.Arm.{Arm}
use Rattle.gsl_tree.specs.declared.stmt.Stmt.{Stmt}
use Rattle.gsl_tree.specs.declared.stmt.Stmt.TheOpen.{Stmt-F, Arm-F}
use Rattle.gsl_tree.specs.declared.stmt.Stmt.TheFolds.{fold-Stmt, fold-Arm, map-Stmt}
use Rattle.gsl_tree.specs.declared.unit.Prototype.{Prototype}
use Rattle.gsl_lower_needs.specs.Asking.{Ask, ◌>>=◌, given}
use Rattle.gsl_lower_needs.specs.Needs.{asks}

-- ---- whether a statement leaves

abbrev pub any_leaves : List Bool → Bool
any_leaves [] = false
any_leaves (one ∷ more) = one || any_leaves more

-- Nothing that stands behind a jump is reached. Behind an `if`, a loop or a `switch` code goes on, whatever stands in it.
abbrev pub leaves_by : Stmt-F Bool Bool → Bool
leaves_by Stmt-F.Break = true
leaves_by Stmt-F.Continue = true
leaves_by (Stmt-F.Return e) = true
leaves_by Stmt-F.Discard = true
leaves_by (Stmt-F.Group ss) = any_leaves ss
leaves_by _ = false

abbrev pub arm_leaves_by : Arm-F Bool Bool → Bool
arm_leaves_by arm = any_leaves arm.body

-- whether a statement leaves
unfoldable pub leaves : Stmt → Bool
leaves = fold-Stmt Bool Bool leaves_by arm_leaves_by

-- ---- what is asked for

pub record AskingStmt : Type 0 where
  pub leaves : Bool
  pub asked : Ask (Unit {0})

-- what stands behind a statement that leaves is dropped
abbrev pub unless : Bool → Ask (Unit {0}) → Ask (Unit {0})
unless true rest = given tt
unless false rest = rest

unfoldable pub in_turn : List AskingStmt → Ask (Unit {0})
in_turn [] = given tt
in_turn (s ∷ ss) = s.asked >>= (λ done. unless s.leaves (in_turn ss))

unfoldable pub arms_in_turn : List (Ask (Unit {0})) → Ask (Unit {0})
arms_in_turn [] = given tt
arms_in_turn (arm ∷ arms) = arm >>= (λ done. arms_in_turn arms)

abbrev pub evaluated : List Prototype → Expr → Ask (Unit {0})
evaluated s e = (asks s e).value

abbrev pub if_any : List Prototype → Option Expr → Ask (Unit {0})
if_any s None = given tt
if_any s (Some e) = evaluated s e

abbrev pub or_none : Option AskingStmt → Ask (Unit {0})
or_none None = given tt
or_none (Some s) = s.asked

-- the parts of a loop in the order in which they stand
abbrev pub looped : List Prototype → Option Expr → Option Expr → AskingStmt → Bool → Ask (Unit {0})
looped s test step body true = body.asked >>= (λ a. if_any s step >>= (λ b. if_any s test))
looped s test step body false = if_any s test >>= (λ a. body.asked >>= (λ b. if_any s step))

abbrev pub stmt_asked : List Prototype → Stmt-F AskingStmt (Ask (Unit {0})) → Ask (Unit {0})
stmt_asked s Stmt-F.Empty = given tt
stmt_asked s (Stmt-F.Eval e) = evaluated s e
stmt_asked s (Stmt-F.Declare number init) = if_any s init
stmt_asked s (Stmt-F.Group ss) = in_turn ss
stmt_asked s (Stmt-F.If test first other) = evaluated s test >>= (λ a. first.asked >>= (λ b. or_none other))
stmt_asked s (Stmt-F.Loop test step body test_last) = looped s test step body test_last
stmt_asked s (Stmt-F.Switch e arms) = evaluated s e >>= (λ a. arms_in_turn arms)
stmt_asked s Stmt-F.Break = given tt
stmt_asked s Stmt-F.Continue = given tt
stmt_asked s (Stmt-F.Return e) = if_any s e
stmt_asked s Stmt-F.Discard = given tt

abbrev pub stmt_by : List Prototype → Stmt-F AskingStmt (Ask (Unit {0})) → AskingStmt
stmt_by s layer = record { leaves = leaves_by (map-Stmt _ _ _ _ (λ (x : AskingStmt). x.leaves) (λ arm. false) layer); asked = stmt_asked s layer }

abbrev pub arm_by : Arm-F AskingStmt (Ask (Unit {0})) → Ask (Unit {0})
arm_by arm = in_turn arm.body

abbrev pub asking : List Prototype → Stmt → AskingStmt
asking s = fold-Stmt AskingStmt (Ask (Unit {0})) (stmt_by s) arm_by

-- ---- in words of which each is one call of the code

-- at a statement, and whether it leaves
unfoldable pub statement : List Prototype → Stmt → Ask Bool
statement s one = (asking s one).asked >>= (λ done. given (asking s one).leaves)

-- at statements one behind the other, and whether one of them leaves
unfoldable pub row : List Prototype → List Stmt → Ask Bool
row s ss = in_turn (map (asking s) ss) >>= (λ done. given (any_leaves (map (λ (x : AskingStmt). x.leaves) (map (asking s) ss))))

unfoldable pub arms : List Prototype → List Arm → Ask (Unit {0})
arms s all = arms_in_turn (map (fold-Arm AskingStmt (Ask (Unit {0})) (stmt_by s) arm_by) all)

unfoldable pub any_value : List Prototype → Option Expr → Ask (Unit {0})
any_value s e = if_any s e

unfoldable pub loops : List Prototype → Option Expr → Option Expr → Stmt → Bool → Ask (Unit {0})
loops s test step body test_last = looped s test step (asking s body) test_last
