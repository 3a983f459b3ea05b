-- The typed statement that a statement stands for, and what is declared behind it; or its first fault (GLSL 4.50, chapter 6).
use Rattle.std.specs.Prelude.{ℕ, is_some, true, false, List, [], ◌∷◌, map, Option, Some, None, Ok, if◌then◌else◌}
use Rattle.gsl_base.specs.Checked.{Checked, ◌>>=◌}
use Rattle.gsl_base.specs.declared.fault.Place.{Place}
use Rattle.gsl_base.specs.declared.fault.Code.{Code}
use Rattle.gsl_syntax.specs.declared.expr.Expr.{Expr as Phrase}
use Rattle.gsl_syntax.specs.declared.declaration.Decl.{Decl}
use Rattle.gsl_syntax.specs.declared.statement.Stmt.{Stmt as Syntax}
use Rattle.gsl_syntax.specs.declared.statement.Stmt.TheOpen.{Stmt-F}
use Rattle.gsl_syntax.specs.declared.statement.Stmt.TheFolds.{fold-Stmt}
use Rattle.gsl_syntax.specs.declared.statement.ForInit.{ForInit}
use Rattle.gsl_syntax.specs.declared.statement.ForInit.TheVariants as for_init
use Rattle.gsl_types.specs.declared.ty.Ty.{Ty}
use Rattle.gsl_tree.specs.declared.expr.Expr.{Expr}
use Rattle.gsl_tree.specs.declared.stmt.Stmt.{Stmt}
use Rattle.gsl_tree.specs.declared.stmt.Stmt.TheVariants as stmt
use Rattle.gsl_typing.specs.declared.scene.Part.{Part}
use Rattle.gsl_typing.specs.Scene.{type_in}
use Rattle.gsl_check_expr.specs.declared.env.Env.{Env}
use Rattle.gsl_check_expr.specs.Expressions.{expression, taken_expression}
use Rattle.gsl_check_decl.specs.Steps.{Step, in_turn, opened, closed, scoped}
use Rattle.gsl_check_decl.specs.Declarations.{declaration}
use Rattle.gsl_check_stmt.specs.declared.within.Within.{Within}
use Rattle.gsl_check_stmt.specs.declared.gathered.Gathered.{Gathered}
use Rattle.gsl_check_stmt.specs.Rules.{alone, condition_fault, unless_wrong, broken, continued, discarded, returned, returned_value}
use Rattle.gsl_check_stmt.specs.Switches.{nothing, with_case, with_stmt, case_word, default_label, misplaced_case, misplaced_default, switched}

-- ---- what may stand where

-- among other statements
abbrev pub in_row : Within → Within
in_row within = record within { shared = false }

-- as a part of another statement, in a scope that is open for it
abbrev pub in_part : Within → Within
in_part within = record within { shared = true }

abbrev pub in_loop : Within
in_loop = record { breaks = true; continues = true; shared = true }

abbrev pub in_switch : Within → Within
in_switch within = record { breaks = true; continues = within.continues; shared = false }

-- ---- what stands for the parts of a tree

-- a label of a `switch`
pub data Label : Type 0 where
  Case : Place → Phrase → Label
  Default : Place → Label

-- What a statement does, by what may stand where it stands; and the label that it is, where it stands in the body of a `switch`.
pub record Answer : Type 0 where
  pub step : Within → Step
  pub label : Option Label

-- a statement that is no label
abbrev pub plain : (Within → Step) → Answer
plain step = record { step = step; label = None }

-- a statement that leaves everything as it was
abbrev pub still : Checked Stmt → Step
still answer env = answer >>= (λ s. Ok (s, env))

-- ---- groups

-- statements in a row
abbrev pub group : List Step → Step
group steps env = in_turn steps env >>= (λ done. Ok (stmt.Group done.0, done.1))

-- A group has a scope of its own, where none is open for it.
unfoldable pub block : List Step → Within → Step
block steps within = if within.shared then group steps else scoped (group steps)

-- ---- branches and loops: their parts from left to right, and then their conditions

-- a condition: its expression, and its fault if it has one
abbrev pub Test : Type 0
Test = Expr × Option Code

unfoldable pub tested : Phrase → Env → Checked Test
tested e env = taken_expression env e >>= (λ x. Ok (x.expr, condition_fault env.scene x))

-- a condition that may be missing
unfoldable pub tested_if : Option Phrase → Env → Checked (Option Test)
tested_if None env = Ok None
tested_if (Some e) env = tested e env >>= (λ test. Ok (Some test))

-- an expression that stands alone
unfoldable pub eval : Phrase → Env → Checked Expr
eval e env = expression env e >>= (λ x. alone env.scene x >>= (λ y. Ok y.expr))

unfoldable pub eval_if : Option Phrase → Env → Checked (Option Expr)
eval_if None env = Ok None
eval_if (Some e) env = eval e env >>= (λ x. Ok (Some x))

unfoldable pub evaluated : Phrase → Step
evaluated e env = eval e env >>= (λ x. Ok (stmt.Eval x, env))

-- a `case` outside the body of a `switch`, or in a statement of it
unfoldable pub stray_case : Place → Phrase → Step
stray_case place e env = taken_expression env e >>= (λ x. still (misplaced_case env.scene place x) env)

unfoldable pub return_with : Ty → Place → Phrase → Step
return_with result place e env = taken_expression env e >>= (λ x. still (returned_value env.scene result place x) env)

-- what stands first in the header of a `for`
unfoldable pub header : ForInit → Env → Checked (Option Stmt × Env)
header (for_init.Empty place) env = Ok (None, env)
header (for_init.Expr e) env = eval e env >>= (λ x. Ok (Some (stmt.Eval x), env))
header (for_init.Decl d) env = declaration d env >>= (λ done. Ok (Some done.0, done.1))

-- a loop behind what stands first in its header
abbrev pub behind_header : Option Stmt → Stmt → Stmt
behind_header None loop = loop
behind_header (Some first) loop = stmt.Group (first ∷ loop ∷ [])

-- the header of a loop: what stands first, the test, the step, and what is declared behind them in a scope of its own
abbrev pub Head : Type 0
Head = Option Stmt × Option Test × Option Expr × Env

-- what stands first, the test, and the step
abbrev pub Parts : Type 0
Parts = Option Stmt × Option Test × Option Expr

unfoldable pub while_head : Phrase → Env → Checked Head
while_head test env = tested test (opened env) >>= (λ t. Ok (None, Some t, None, opened env))

unfoldable pub for_head : ForInit → Option Phrase → Option Phrase → Env → Checked Head
for_head init test step env = header init (opened env)
    >>= (λ first. tested_if test first.1 >>= (λ t. eval_if step first.1 >>= (λ s. Ok (first.0, t, s, first.1))))

-- a loop whose test comes first, if it has one
unfoldable pub loop_of : Place → Option Test → Option Expr → Stmt → Checked Stmt
loop_of place None step body = Ok (stmt.Loop None step body false)
loop_of place (Some test) step body = unless_wrong place test.1 (Ok (stmt.Loop (Some test.0) step body false))

unfoldable pub loop_done : Place → Option Stmt → Option Test → Option Expr → Stmt → Step
loop_done place first test step body env = loop_of place test step body >>= (λ s. Ok (behind_header first s, closed env))

-- a loop behind its header, whose scope its body shares
unfoldable pub looped : Place → (Within → Step) → Head → Checked (Stmt × Env)
looped place body head = body in_loop head.3 >>= (λ done. loop_done place head.0 head.1 head.2 done.0 done.1)

-- a loop whose test comes last, behind its body
unfoldable pub behind_body : Place → Phrase → Stmt → Step
behind_body place test body env = tested test env >>= (λ t. unless_wrong place t.1 (Ok (stmt.Loop (Some t.0) None body true, env)))

unfoldable pub do_loop : Place → (Within → Step) → Phrase → Step
do_loop place body test env = body in_loop (opened env) >>= (λ done. behind_body place test done.0 (closed done.1))

-- the condition of an `if`, and the scope of what stands behind it
unfoldable pub if_head : Phrase → Env → Checked (Test × Env)
if_head test env = tested test env >>= (λ t. Ok (t, opened env))

unfoldable pub if_done : Place → Test → Stmt → Option Stmt → Step
if_done place test body other env = unless_wrong place test.1 (Ok (stmt.If test.0 body other, closed env))

-- Each part of an `if` has a scope of its own.
unfoldable pub branch : Place → Phrase → (Within → Step) → Within → Step
branch place test body within env = if_head test env >>= (λ head. body (in_part within) head.1 >>= (λ done. if_done place head.0 done.0 None done.1))

unfoldable pub branches : Place → Phrase → (Within → Step) → (Within → Step) → Within → Step
branches place test body other within env = if_head test env >>= (λ head. body (in_part within) head.1
    >>= (λ done. other (in_part within) (opened (closed done.1)) >>= (λ last. if_done place head.0 done.0 (Some last.0) last.1)))

-- ---- the body of a `switch`

-- the word of a `case`
abbrev pub word_of_case : Ty → Place → Phrase → Gathered → Env → Checked ℕ
word_of_case selector place e g env = taken_expression env e >>= case_word env.scene selector g place

unfoldable pub case_label : Ty → Place → Phrase → Gathered → Env → Checked Gathered
case_label selector place e g env = taken_expression env e >>= (λ x. case_word env.scene selector g place x >>= (λ word. Ok (with_case g word)))

-- behind a label, if it is one
unfoldable pub labelled : Ty → Option Label → Gathered → Env → Checked Gathered
labelled selector None g env = Ok g
labelled selector (Some (Case place e)) g env = case_label selector place e g env
labelled selector (Some (Default place)) g env = default_label g place

-- behind a statement
unfoldable pub stated : Within → (Within → Step) → Gathered → Env → Checked (Gathered × Env)
stated within step g env = step within env >>= (λ done. Ok (with_stmt g done.0, done.1))

-- a label, or a statement behind labels
abbrev pub item : Within → Ty → Answer → Gathered → Env → Checked (Gathered × Env)
item within selector a g env = if is_some a.label then labelled selector a.label g env >>= (λ more. Ok (more, env)) else stated within a.step g env

abbrev pub items : Within → Ty → List Answer → Gathered → Env → Checked (Gathered × Env)
items within selector [] g env = Ok (g, env)
items within selector (a ∷ answers) g env = item within selector a g env >>= (λ done. items within selector answers done.0 done.1)

-- a `switch` behind its selector and its body
unfoldable pub arms : Place → Part → Gathered → Step
arms place selector g env = switched env.scene place selector g >>= (λ s. Ok (s, closed env))

-- the selector of a `switch`, and the scope of its body
unfoldable pub switch_head : Phrase → Env → Checked (Part × Env)
switch_head e env = taken_expression env e >>= (λ selector. Ok (selector, opened env))

unfoldable pub switch : Place → Phrase → List Answer → Within → Step
switch place e answers within env = switch_head e env
    >>= (λ head. items (in_switch within) (type_in head.0) answers nothing head.1 >>= (λ done. arms place head.0 done.0 done.1))

-- ---- each form, from what its parts stand for, in a function of this result

abbrev pub by_parts : Ty → Stmt-F Answer → Answer
by_parts result (Stmt-F.Empty place) = plain (λ within env. Ok (stmt.Empty, env))
by_parts result (Stmt-F.Block place answers) = plain (λ within. block (map (λ (a : Answer). a.step (in_row within)) answers) within)
by_parts result (Stmt-F.Decl d) = plain (λ within. declaration d)
by_parts result (Stmt-F.Expr e) = plain (λ within. evaluated e)
by_parts result (Stmt-F.If place test body) = plain (branch place test body.step)
by_parts result (Stmt-F.IfElse place test body other) = plain (branches place test body.step other.step)
by_parts result (Stmt-F.Switch place e answers) = plain (switch place e answers)
by_parts result (Stmt-F.Case place e) = record { step = λ within. stray_case place e; label = Some (Case place e) }
by_parts result (Stmt-F.Default place) = record { step = λ within. still (misplaced_default place); label = Some (Default place) }
by_parts result (Stmt-F.While place test body) = plain (λ within env. while_head test env >>= looped place body.step)
by_parts result (Stmt-F.Do place body test) = plain (λ within. do_loop place body.step test)
by_parts result (Stmt-F.For place init test step body) = plain (λ within env. for_head init test step env >>= looped place body.step)
by_parts result (Stmt-F.Break place) = plain (λ within. still (broken within place))
by_parts result (Stmt-F.Continue place) = plain (λ within. still (continued within place))
by_parts result (Stmt-F.Discard place) = plain (λ within env. still (discarded env.scene.stage place) env)
by_parts result (Stmt-F.Return place) = plain (λ within. still (returned result place))
by_parts result (Stmt-F.ReturnValue place e) = plain (λ within. return_with result place e)

-- what a statement stands for
unfoldable pub answer : Ty → Syntax → Answer
answer result = fold-Stmt Answer (by_parts result)

-- the typed statement of a statement, and what is declared behind it; or its first fault
abbrev pub statement : Ty → Syntax → Within → Step
statement result s = (answer result s).step

-- Statements one after the other, as the body of a function has them: each in the scope of those before it.
abbrev pub statements : Ty → List Syntax → Within → Env → Checked (List Stmt × Env)
statements result all within = in_turn (map (λ s. statement result s within) all)
