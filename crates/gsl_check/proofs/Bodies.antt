-- The statements of a body leave what stands around it as it was.
use Rattle.std.proofs.Common.{◌≡◌, refl, sym, subst, ◌<◌, true, false, cond, List, [], ◌∷◌, length, map, Option, Some, None, Ok, arith}
use Rattle.std.specs.Prelude.{is_some}
use Rattle.std.specs.List.{AllByRecursion}
use Rattle.gsl_base.specs.Checked.{Checked, ◌>>=◌}
use Rattle.gsl_base.specs.declared.fault.Code.{Code}
use Rattle.gsl_base.specs.declared.fault.Place.{Place}
use Rattle.gsl_syntax.specs.declared.expr.Expr.{Expr as Phrase}
use Rattle.gsl_syntax.specs.declared.statement.ForInit.{ForInit}
use Rattle.gsl_syntax.specs.declared.statement.ForInit.TheVariants as for_init
use Rattle.gsl_syntax.specs.declared.statement.Stmt.{Stmt as Syntax}
use Rattle.gsl_syntax.specs.declared.statement.Stmt.TheOpen.{Stmt-F}
use Rattle.gsl_syntax.specs.declared.statement.Stmt.TheViews.{roll-Stmt}
use Rattle.gsl_syntax.specs.declared.statement.Stmt.TheFolds.{fold-Stmt, fold-roll-Stmt, ind-Stmt, map-Stmt}
use Rattle.gsl_types.specs.declared.ty.Ty.{Ty}
use Rattle.gsl_tree.specs.declared.expr.Expr.{Expr}
use Rattle.gsl_tree.specs.declared.stmt.Stmt.{Stmt}
use Rattle.gsl_tree.specs.declared.stmt.Stmt.TheVariants as stmt
use Rattle.gsl_typing.specs.declared.scene.Part.{Part}
use Rattle.gsl_typing.specs.Scene.{type_in}
use Rattle.gsl_check_expr.specs.declared.env.Env.{Env}
use Rattle.gsl_check_expr.specs.Expressions.{taken_expression}
use Rattle.gsl_check_decl.specs.Steps.{Step, in_turn, opened, closed, scoped}
use Rattle.gsl_check_decl.specs.Declarations.{declaration}
use Rattle.gsl_check_decl.proofs.Gathering.{Holds, holds_then, holds_after}
use Rattle.gsl_check_stmt.specs.declared.within.Within.{Within}
use Rattle.gsl_check_stmt.specs.declared.gathered.Gathered.{Gathered}
use Rattle.gsl_check_stmt.specs.Rules.{unless_wrong, broken, continued, discarded, returned, returned_value}
use Rattle.gsl_check_stmt.specs.Switches.{nothing, with_stmt, misplaced_case, misplaced_default, switched}
use Rattle.gsl_check_stmt.specs.Statements.{Answer, Head, Test, still, group, block, tested, tested_if, eval, eval_if, evaluated, stray_case, return_with, header, while_head, for_head, loop_of, loop_done, looped, behind_body, do_loop, if_head, if_done, branch, branches, labelled, stated, item, items, arms, switch_head, switch, by_parts, answer, statements, in_row, in_part, in_loop, in_switch, behind_header}
use Rattle.gsl_check.proofs.Keeping.{Keeps, Stays, Steady, after_one, after_all, same, then_keeps, so_holds, still_open, closes, turns, scoped_steady, declaration_steady}

abbrev Kept : Env → Stmt × Env → Type 0
Kept env done = Keeps env done.1

-- ---- single statements

still_steady : (given : Checked Stmt) → Steady (still given)
still_steady given env some = holds_then (Kept env) given (λ s. Ok (s, env)) (λ s. same env)

evaluated_steady : (e : Phrase) → Steady (evaluated e)
unfolding evaluated
evaluated_steady e env some = holds_then (Kept env) (eval e env) (λ x. Ok (stmt.Eval x, env)) (λ x. same env)

stray_steady : (place : Place) (e : Phrase) → Steady (stray_case place e)
unfolding stray_case
stray_steady place e env some =
    holds_then (Kept env) (taken_expression env e) (λ x. still (misplaced_case env.scene place x) env) (λ x. still_steady (misplaced_case env.scene place x) env some)

return_steady : (result : Ty) (place : Place) (e : Phrase) → Steady (return_with result place e)
unfolding return_with
return_steady result place e env some =
    holds_then (Kept env) (taken_expression env e) (λ x. still (returned_value env.scene result place x) env) (λ x. still_steady (returned_value env.scene result place x) env some)

group_steady : (steps : List Step) → AllByRecursion Steady steps → Steady (group steps)
group_steady steps all env some =
    holds_after (λ (done : List Stmt × Env). Keeps env done.1) (Kept env) (in_turn steps env) (λ done. Ok (stmt.Group done.0, done.1)) (turns steps all env some) (λ done kept. kept)

block_steady : (steps : List Step) (within : Within) → AllByRecursion Steady steps → Steady (block steps within)
unfolding block
block_steady steps within all =
    elim within.shared as (λ b. Steady (cond b (group steps) (scoped (group steps)))) [
      | true ↦ group_steady steps all
      | false ↦ scoped_steady (group steps) (group_steady steps all)
    ]

-- ---- branches

unless_holds : {A : Type 0} (P : A → Type 0) (place : Place) (code : Option Code) (node : Checked A) → Holds P node → Holds P (unless_wrong place code node)
unless_holds P place None node is = is
unless_holds P place (Some code) node is = tt

abbrev Begun : {A : Type 0} → Env → A × Env → Type 0
Begun env head = head.1 ≡ opened env

if_head_opens : (test : Phrase) (env : Env) → Holds (λ (head : Test × Env). head.1 ≡ opened env) (if_head test env)
unfolding if_head
if_head_opens test env = holds_then (λ (head : Test × Env). head.1 ≡ opened env) (tested test env) (λ t. Ok (t, opened env)) (λ t. refl)

if_done_closes : (place : Place) (test : Test) (body : Stmt) (other : Option Stmt) (env inner : Env) → Keeps env (closed inner) → Stays after_one env (if_done place test body other inner)
unfolding if_done
if_done_closes place test body other env inner kept = unless_holds (Kept env) place test.1 (Ok (stmt.If test.0 body other, closed inner)) kept

module _ (body : Within → Step) (steady : (within : Within) → Steady (body within)) where
  -- a part in a scope that is opened for it
  pub in_scope : (within : Within) (env head : Env) → 0 < length env.names → head ≡ opened env → Holds (λ (done : Stmt × Env). Keeps (opened env) done.1) (body within head)
  in_scope within env head some is = subst (λ (h : Env). Holds (λ (done : Stmt × Env). Keeps (opened env) done.1) (body within h)) (sym is) (steady within (opened env) (omega (arith, some)))

  branch_steady : (place : Place) (test : Phrase) (within : Within) → Steady (branch place test body within)
  unfolding branch
  branch_steady place test within env some =
      holds_after (λ (head : Test × Env). head.1 ≡ opened env) (Kept env) (if_head test env)
      (λ head. body (in_part within) head.1 >>= (λ done. if_done place head.0 done.0 None done.1)) (if_head_opens test env)
      (λ head is. holds_after (λ (done : Stmt × Env). Keeps (opened env) done.1) (Kept env) (body (in_part within) head.1) (λ done. if_done place head.0 done.0 None done.1)
      (in_scope (in_part within) env head.1 some is) (λ done kept. if_done_closes place head.0 done.0 None env done.1 (closes env done.1 some kept)))

  do_steady : (place : Place) (test : Phrase) → Steady (do_loop place body test)
  unfolding do_loop behind_body
  do_steady place test env some =
      holds_after (λ (done : Stmt × Env). Keeps (opened env) done.1) (Kept env) (body in_loop (opened env)) (λ done. behind_body place test done.0 (closed done.1))
      (in_scope in_loop env (opened env) some refl)
      (λ done kept. holds_then (Kept env) (tested test (closed done.1)) (λ t. unless_wrong place t.1 (Ok (stmt.Loop (Some t.0) None done.0 true, closed done.1)))
      (λ t. unless_holds (Kept env) place t.1 (Ok (stmt.Loop (Some t.0) None done.0 true, closed done.1)) (closes env done.1 some kept)))

  loop_closes : (place : Place) (first : Option Stmt) (test : Option Test) (step : Option Expr) (s : Stmt) (env inner : Env) → Keeps env (closed inner)
      → Stays after_one env (loop_done place first test step s inner)
  unfolding loop_done
  loop_closes place first test step s env inner kept =
      holds_then (Kept env) (loop_of place test step s) (λ l. Ok (behind_header first l, closed inner)) (λ l. kept)

  -- a loop behind its header
  looped_stays : (place : Place) (head : Head) (env : Env) → 0 < length env.names → Keeps (opened env) head.3 → Stays after_one env (looped place body head)
  unfolding looped
  looped_stays place head env some begun =
      holds_after (λ (done : Stmt × Env). Keeps head.3 done.1) (Kept env) (body in_loop head.3) (λ done. loop_done place head.0 head.1 head.2 done.0 done.1)
      (steady in_loop head.3 (still_open (opened env) head.3 begun (omega (arith, some))))
      (λ done kept. loop_closes place head.0 head.1 head.2 done.0 env done.1 (closes env done.1 some (then_keeps (opened env) head.3 done.1 begun kept)))

branches_steady : (place : Place) (test : Phrase) (body other : Within → Step) → ((within : Within) → Steady (body within)) → ((within : Within) → Steady (other within)) → (within : Within)
    → Steady (branches place test body other within)
unfolding branches
branches_steady place test body other bodies others within env some =
    holds_after (λ (head : Test × Env). head.1 ≡ opened env) (Kept env) (if_head test env)
    (λ head. body (in_part within) head.1 >>= (λ done. other (in_part within) (opened (closed done.1)) >>= (λ last. if_done place head.0 done.0 (Some last.0) last.1))) (if_head_opens test env)
    (λ head is. holds_after (λ (done : Stmt × Env). Keeps (opened env) done.1) (Kept env) (body (in_part within) head.1)
    (λ done. other (in_part within) (opened (closed done.1)) >>= (λ last. if_done place head.0 done.0 (Some last.0) last.1)) (in_scope body bodies (in_part within) env head.1 some is)
    (λ done kept. let first = closes env done.1 some kept in
    holds_after (λ (last : Stmt × Env). Keeps (opened (closed done.1)) last.1) (Kept env) (other (in_part within) (opened (closed done.1))) (λ last. if_done place head.0 done.0 (Some last.0) last.1)
    (in_scope other others (in_part within) (closed done.1) (opened (closed done.1)) (still_open env (closed done.1) first some) refl)
    (λ last more. if_done_closes place head.0 done.0 (Some last.0) env last.1
    (then_keeps env (closed done.1) (closed last.1) first (closes (closed done.1) last.1 (still_open env (closed done.1) first some) more)))))

-- ---- headers of loops

abbrev HeadKept : Env → Head → Type 0
HeadKept env head = Keeps (opened env) head.3

while_head_keeps : (test : Phrase) (env : Env) → Holds (HeadKept env) (while_head test env)
unfolding while_head
while_head_keeps test env = holds_then (HeadKept env) (tested test (opened env)) (λ t. Ok (None, Some t, None, opened env)) (λ t. same (opened env))

header_stays : (init : ForInit) (env : Env) → 0 < length env.names → Holds (λ (done : Option Stmt × Env). Keeps env done.1) (header init env)
unfolding header
header_stays (for_init.Empty place) env some = same env
header_stays (for_init.Expr e) env some =
    holds_then (λ (done : Option Stmt × Env). Keeps env done.1) (eval e env) (λ x. Ok (Some (stmt.Eval x), env)) (λ x. same env)
header_stays (for_init.Decl d) env some =
    holds_after (Kept env) (λ (done : Option Stmt × Env). Keeps env done.1) (declaration d env) (λ done. Ok (Some done.0, done.1)) (declaration_steady d env some) (λ done kept. kept)

for_head_keeps : (init : ForInit) (test step : Option Phrase) (env : Env) → 0 < length env.names → Holds (HeadKept env) (for_head init test step env)
unfolding for_head
for_head_keeps init test step env some =
    holds_after (λ (done : Option Stmt × Env). Keeps (opened env) done.1) (HeadKept env) (header init (opened env))
    (λ first. tested_if test first.1 >>= (λ t. eval_if step first.1 >>= (λ s. Ok (first.0, t, s, first.1)))) (header_stays init (opened env) (omega (arith, some)))
    (λ first kept. holds_then (HeadKept env) (tested_if test first.1) (λ t. eval_if step first.1 >>= (λ s. Ok (first.0, t, s, first.1)))
    (λ t. holds_then (HeadKept env) (eval_if step first.1) (λ s. Ok (first.0, t, s, first.1)) (λ s. kept)))

-- ---- the body of a `switch`

abbrev GatheredKept : Env → Gathered × Env → Type 0
GatheredKept env done = Keeps env done.1

-- a statement or label whatever may stand where it stands
abbrev pub Even : Answer → Type 0
Even a = (within : Within) → Steady (a.step within)

stated_stays : (within : Within) (step : Within → Step) → ((inner : Within) → Steady (step inner)) → (g : Gathered) (env : Env) → 0 < length env.names → Holds (GatheredKept env) (stated within step g env)
unfolding stated
stated_stays within step steady g env some =
    holds_after (Kept env) (GatheredKept env) (step within env) (λ done. Ok (with_stmt g done.0, done.1)) (steady within env some) (λ done kept. kept)

item_stays : (within : Within) (selector : Ty) (a : Answer) → Even a → (g : Gathered) (env : Env) → 0 < length env.names → Holds (GatheredKept env) (item within selector a g env)
item_stays within selector a even g env some =
    elim (is_some a.label) as (λ b. Holds (GatheredKept env) (cond b (labelled selector a.label g env >>= (λ more. Ok (more, env))) (stated within a.step g env))) [
      | true ↦ holds_then (GatheredKept env) (labelled selector a.label g env) (λ more. Ok (more, env)) (λ more. same env)
      | false ↦ stated_stays within a.step even g env some
    ]

items_stay : (within : Within) (selector : Ty) (answers : List Answer) → AllByRecursion Even answers → (g : Gathered) (env : Env) → 0 < length env.names
    → Holds (GatheredKept env) (items within selector answers g env)
items_stay within selector [] all g env some = same env
items_stay within selector (a ∷ answers) all g env some =
    holds_after (GatheredKept env) (GatheredKept env) (item within selector a g env) (λ done. items within selector answers done.0 done.1) (item_stays within selector a all.0 g env some)
    (λ done kept. so_holds (GatheredKept done.1) (GatheredKept env) (items within selector answers done.0 done.1)
    (items_stay within selector answers all.1 done.0 done.1 (still_open env done.1 kept some)) (λ last more. then_keeps env done.1 last.1 kept more))

switch_opens : (e : Phrase) (env : Env) → Holds (λ (head : Part × Env). head.1 ≡ opened env) (switch_head e env)
unfolding switch_head
switch_opens e env = holds_then (λ (head : Part × Env). head.1 ≡ opened env) (taken_expression env e) (λ selector. Ok (selector, opened env)) (λ selector. refl)

arms_close : (place : Place) (selector : Part) (g : Gathered) (env inner : Env) → Keeps env (closed inner) → Stays after_one env (arms place selector g inner)
unfolding arms
arms_close place selector g env inner kept = holds_then (Kept env) (switched inner.scene place selector g) (λ s. Ok (s, closed inner)) (λ s. kept)

switch_steady : (place : Place) (e : Phrase) (answers : List Answer) → AllByRecursion Even answers → (within : Within) → Steady (switch place e answers within)
unfolding switch
switch_steady place e answers all within env some =
    holds_after (λ (head : Part × Env). head.1 ≡ opened env) (Kept env) (switch_head e env)
    (λ head. items (in_switch within) (type_in head.0) answers nothing head.1 >>= (λ done. arms place head.0 done.0 done.1)) (switch_opens e env)
    (λ head is. holds_after (GatheredKept (opened env)) (Kept env) (items (in_switch within) (type_in head.0) answers nothing head.1) (λ done. arms place head.0 done.0 done.1)
    (subst (λ (h : Env). Holds (GatheredKept (opened env)) (items (in_switch within) (type_in head.0) answers nothing h)) (sym is)
    (items_stay (in_switch within) (type_in head.0) answers all nothing (opened env) (omega (arith, some))))
    (λ done kept. arms_close place head.0 done.0 env done.1 (closes env done.1 some kept)))

-- ---- all statements

module _ (result : Ty) where
  abbrev into : Syntax → Answer
  into = fold-Stmt Answer (by_parts result)

  abbrev Leaves : Syntax → Type 0
  Leaves s = Even (into s)

  abbrev Child : Type 0
  Child = (s : Syntax) × Leaves s

  abbrev tree : Child → Syntax
  tree c = c.0

  all_even : (children : List Child) → AllByRecursion Even (map into (map tree children))
  all_even [] = tt
  all_even (c ∷ children) = (c.1, all_even children)

  rows_steady : (within : Within) (children : List Child) → AllByRecursion Steady (map (λ (a : Answer). a.step within) (map into (map tree children)))
  rows_steady within [] = tt
  rows_steady within (c ∷ children) = (c.1 within, rows_steady within children)

  rolled : (x : Stmt-F Syntax) → Even (by_parts result (map-Stmt Syntax Answer into x)) → Leaves (roll-Stmt x)
  rolled x is = subst Even (sym (fold-roll-Stmt Answer (by_parts result) x)) is

  by_layer : (y : Stmt-F Child) → Leaves (roll-Stmt (map-Stmt Child Syntax tree y))
  by_layer (Stmt-F.Empty place) = rolled (Stmt-F.Empty place) (λ within env some. same env)
  by_layer (Stmt-F.Block place children) = rolled (Stmt-F.Block place (map tree children))
      (λ within. block_steady (map (λ (a : Answer). a.step (in_row within)) (map into (map tree children))) within (rows_steady (in_row within) children))
  by_layer (Stmt-F.Decl d) = rolled (Stmt-F.Decl d) (λ within. declaration_steady d)
  by_layer (Stmt-F.Expr e) = rolled (Stmt-F.Expr e) (λ within. evaluated_steady e)
  by_layer (Stmt-F.If place test body) = rolled (Stmt-F.If place test body.0) (branch_steady (into body.0).step body.1 place test)
  by_layer (Stmt-F.IfElse place test body other) = rolled (Stmt-F.IfElse place test body.0 other.0) (branches_steady place test (into body.0).step (into other.0).step body.1 other.1)
  by_layer (Stmt-F.Switch place e children) = rolled (Stmt-F.Switch place e (map tree children)) (switch_steady place e (map into (map tree children)) (all_even children))
  by_layer (Stmt-F.Case place e) = rolled (Stmt-F.Case place e) (λ within. stray_steady place e)
  by_layer (Stmt-F.Default place) = rolled (Stmt-F.Default place) (λ within. still_steady (misplaced_default place))
  by_layer (Stmt-F.While place test body) = rolled (Stmt-F.While place test body.0)
      (λ within env some. holds_after (HeadKept env) (Kept env) (while_head test env) (looped place (into body.0).step) (while_head_keeps test env)
      (λ head kept. looped_stays (into body.0).step body.1 place head env some kept))
  by_layer (Stmt-F.Do place body test) = rolled (Stmt-F.Do place body.0 test) (λ within. do_steady (into body.0).step body.1 place test)
  by_layer (Stmt-F.For place init test step body) = rolled (Stmt-F.For place init test step body.0)
      (λ within env some. holds_after (HeadKept env) (Kept env) (for_head init test step env) (looped place (into body.0).step) (for_head_keeps init test step env some)
      (λ head kept. looped_stays (into body.0).step body.1 place head env some kept))
  by_layer (Stmt-F.Break place) = rolled (Stmt-F.Break place) (λ within. still_steady (broken within place))
  by_layer (Stmt-F.Continue place) = rolled (Stmt-F.Continue place) (λ within. still_steady (continued within place))
  by_layer (Stmt-F.Discard place) = rolled (Stmt-F.Discard place) (λ within env some. still_steady (discarded env.scene.stage place) env some)
  by_layer (Stmt-F.Return place) = rolled (Stmt-F.Return place) (λ within. still_steady (returned result place))
  by_layer (Stmt-F.ReturnValue place e) = rolled (Stmt-F.ReturnValue place e) (λ within. return_steady result place e)

  statement_even : (s : Syntax) → Even (answer result s)
  unfolding answer
  statement_even s = ind-Stmt Leaves (λ x y is. subst (λ z. Leaves (roll-Stmt z)) is (by_layer y)) s

  all_statements : (within : Within) (all : List Syntax) → AllByRecursion Steady (map (λ s. (answer result s).step within) all)
  all_statements within [] = tt
  all_statements within (s ∷ all) = (statement_even s within, all_statements within all)

  -- Behind statements the scopes around theirs, and the lists of the unit but for the structs, are as before.
  pub statements_keep : (all : List Syntax) (within : Within) (env : Env) → 0 < length env.names → Stays after_all env (statements result all within env)
  statements_keep all within env some = turns (map (λ s. (answer result s).step within) all) (all_statements within all) env some
