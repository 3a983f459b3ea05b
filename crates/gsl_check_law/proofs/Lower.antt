-- Loops and `switch`es are no deeper than their syntax trees, and so are all statements.
use Rattle.std.proofs.Common.{◌≡◌, sym, subst, ℕ, ◌+◌, ◌≤◌, max, List, [], ◌∷◌, ◌++◌, map, Option, Some, None, is_some, Bool, true, false, not, ◌&&◌, Ok, arith, if◌then◌else◌}
use Rattle.std.specs.List.{AllByRecursion}
use Rattle.gsl_base.specs.Checked.{◌>>=◌}
use Rattle.gsl_base.specs.declared.fault.Code.TheVariants.{E0507, E0511, E0908}
use Rattle.gsl_base.specs.declared.fault.Place.{Place}
use Rattle.gsl_syntax.specs.declared.expr.Expr.{Expr as Phrase}
use Rattle.gsl_syntax.specs.declared.statement.ForInit.{ForInit}
use Rattle.gsl_syntax.specs.declared.statement.ForInit.TheVariants as for_init
use Rattle.gsl_syntax.specs.declared.statement.Stmt.{Stmt as Syntax}
use Rattle.gsl_syntax.specs.declared.statement.Stmt.TheOpen.{Stmt-F}
use Rattle.gsl_syntax.specs.declared.statement.Stmt.TheViews.{roll-Stmt}
use Rattle.gsl_syntax.specs.declared.statement.Stmt.TheFolds.{fold-roll-Stmt, ind-Stmt, map-Stmt}
use Rattle.gsl_types.specs.declared.ty.Ty.{Ty}
use Rattle.gsl_tree.specs.declared.expr.Expr.{Expr}
use Rattle.gsl_tree.specs.declared.stmt.Stmt.{Stmt}
use Rattle.gsl_tree.specs.declared.stmt.Stmt.TheVariants as stmt
use Rattle.gsl_tree.specs.declared.stmt.Stmt.TheFolds.{fold-Arm, fold-roll-Arm}
use Rattle.gsl_tree.specs.declared.stmt.Arm.{Arm, roll-Arm}
use Rattle.gsl_tree.specs.Statements.{deepest, expr_depth, depth_in, stmt_depth, stmt_depth_by, arm_depth_by}
use Rattle.gsl_tree.proofs.StmtFolds as at
use Rattle.gsl_typing.specs.declared.scene.Part.{Part}
use Rattle.gsl_typing.specs.Scene.{type_in}
use Rattle.gsl_typing.specs.Uses.{is_unread}
use Rattle.gsl_makers.specs.Paths.{is_index}
use Rattle.gsl_check_expr.specs.declared.env.Env.{Env}
use Rattle.gsl_check_expr.specs.Expressions.{taken_expression}
use Rattle.gsl_check_decl.specs.Steps.{Step, opened, closed}
use Rattle.gsl_check_decl.specs.Declarations.{declaration}
use Rattle.gsl_check_decl.specs.Declaring.{is_empty}
use Rattle.gsl_check_decl.proofs.Gathering.{Holds, holds_after, holds_then}
use Rattle.gsl_check_stmt.specs.declared.within.Within.{Within}
use Rattle.gsl_check_stmt.specs.declared.gathered.Gathered.{Gathered}
use Rattle.gsl_check_stmt.specs.Rules.{unless_wrong, broken, continued, discarded, returned}
use Rattle.gsl_check_stmt.specs.Switches.{nothing, last_arm, behind_arm, at_label, with_case, with_default, with_stmt, is_blank, all_arms, case_word, default_label, misplaced_default, are_arms, has_many, switched}
use Rattle.gsl_check_stmt.specs.Statements.{Label, Case, Default, Answer, in_row, in_loop, in_switch, Test, tested, tested_if, eval, eval_if, header, behind_header, Head, while_head, for_head, loop_of, loop_done, looped, behind_body, do_loop, case_label, labelled, stated, item, items, arms, switch_head, switch, by_parts, answer, statement, statements}
use Rattle.gsl_formed.specs.Nested.{expr_arms, arms_if, init_part_arms, stmt_arms_by, stmt_arms}
use Rattle.gsl_check_law.proofs.Rows.{so}
use Rattle.gsl_check_law.proofs.Deep.{skip, At}
use Rattle.gsl_check_law.proofs.Depths.{taken_expression_deep}
use Rattle.gsl_check_law.proofs.Shallows.{Low, LowAll, Lows, low_turns, declaration_low}
use Rattle.gsl_check_law.proofs.Lows.{wrong_skip, still_low, broken_low, continued_low, discarded_low, returned_low, misplaced_low, stray_low, return_low, eval_low, eval_if_low, eval_depth, evaluated_low, block_low, TestAt, tested_low, TestIf, tested_if_low, Stands, depth_or_stmt, branch_low, branches_low}
use Rattle.gsl_typing.specs.Rows.{unless}

-- ---- loops

abbrev HeadAt : ℕ → ℕ → ℕ → Head → Type 0
HeadAt i t s head = (depth_or_stmt head.0 ≤ i) × TestIf t head.1 × (depth_in head.2 ≤ s)

abbrev whole_loop : ℕ → ℕ → ℕ → ℕ → ℕ
whole_loop i t s b = max i (1 + max t (max s b))

loop_depth : (test step : Option Expr) (body : Stmt) (last : Bool) → stmt_depth (stmt.Loop test step body last) ≡ 1 + max (depth_in test) (max (depth_in step) (stmt_depth body))
loop_depth test step body last = at.at-Loop ℕ ℕ stmt_depth_by arm_depth_by test step body last

loop_low : (place : Place) (test : Option Test) (step : Option Expr) (body : Stmt) (t s b : ℕ) → TestIf t test → depth_in step ≤ s → stmt_depth body ≤ b → Holds (λ (l : Stmt). stmt_depth l ≤ 1 + max t (max s b)) (loop_of place test step body)
unfolding loop_of
loop_low place None step body t s b first second third = let is = loop_depth None step body false in omega (arith, is, second, third)
loop_low place (Some test) step body t s b first second third =
    wrong_skip (λ (l : Stmt). stmt_depth l ≤ 1 + max t (max s b)) place test.1 (Ok (stmt.Loop (Some test.0) step body false)) (let is = loop_depth (Some test.0) step body false in omega (arith, is, first, second, third))

header_depth : (first : Option Stmt) (l : Stmt) (i n : ℕ) → depth_or_stmt first ≤ i → stmt_depth l ≤ n → stmt_depth (behind_header first l) ≤ max i n
header_depth None l i n first second = omega (arith, second)
header_depth (Some f) l i n first second = let is = at.at-Group ℕ ℕ stmt_depth_by arm_depth_by (f ∷ l ∷ []) in omega (arith, is, first, second)

done_low : (place : Place) (first : Option Stmt) (test : Option Test) (step : Option Expr) (body : Stmt) (i t s b : ℕ) → depth_or_stmt first ≤ i → TestIf t test → depth_in step ≤ s → stmt_depth body ≤ b → Lows (whole_loop i t s b) (loop_done place first test step body)
unfolding loop_done
done_low place first test step body i t s b zeroth one two three env =
    holds_after (λ (l : Stmt). stmt_depth l ≤ 1 + max t (max s b)) (Low (whole_loop i t s b)) (loop_of place test step body) (λ l. Ok (behind_header first l, closed env)) (loop_low place test step body t s b one two three)
    (λ l le. header_depth first l i (1 + max t (max s b)) zeroth le)

looped_low : (place : Place) (body : Within → Step) (head : Head) (i t s b : ℕ) → HeadAt i t s head → Stands b body → Holds (Low (whole_loop i t s b)) (looped place body head)
unfolding looped
looped_low place body head i t s b is stands =
    holds_after (Low b) (Low (whole_loop i t s b)) (body in_loop head.3) (λ done. loop_done place head.0 head.1 head.2 done.0 done.1) (stands in_loop head.3)
    (λ done le. done_low place head.0 head.1 head.2 done.0 i t s b is.0 is.1 is.2 le done.1)

while_low : (test : Phrase) (env : Env) → Holds (HeadAt 0 (expr_arms test) 0) (while_head test env)
unfolding while_head
while_low test env = holds_after (TestAt (expr_arms test)) (HeadAt 0 (expr_arms test) 0) (tested test (opened env)) (λ t. Ok (None, Some t, None, opened env)) (tested_low test (opened env)) (λ t is. (omega arith, is, omega arith))

header_low : (init : ForInit) (env : Env) → Holds (λ (first : Option Stmt × Env). depth_or_stmt first.0 ≤ init_part_arms init) (header init env)
unfolding header
header_low (for_init.Empty place) env = omega arith
header_low (for_init.Expr e) env =
    holds_after (λ (x : Expr). expr_depth x ≤ expr_arms e) (λ (first : Option Stmt × Env). depth_or_stmt first.0 ≤ expr_arms e) (eval e env) (λ x. Ok (Some (stmt.Eval x), env)) (eval_low e env) (λ x le. let is = eval_depth x in omega (arith, is, le))
header_low (for_init.Decl d) env =
    holds_after (Low (init_part_arms (for_init.Decl d))) (λ (first : Option Stmt × Env). depth_or_stmt first.0 ≤ init_part_arms (for_init.Decl d)) (declaration d env) (λ done. Ok (Some done.0, done.1)) (declaration_low env d) (λ done le. le)

for_low : (init : ForInit) (test step : Option Phrase) (env : Env) → Holds (HeadAt (init_part_arms init) (arms_if test) (arms_if step)) (for_head init test step env)
unfolding for_head
for_low init test step env =
    let P = HeadAt (init_part_arms init) (arms_if test) (arms_if step) in
    holds_after (λ (first : Option Stmt × Env). depth_or_stmt first.0 ≤ init_part_arms init) P (header init (opened env)) (λ first. tested_if test first.1 >>= (λ t. eval_if step first.1 >>= (λ s. Ok (first.0, t, s, first.1)))) (header_low init (opened env))
    (λ first zeroth. holds_after (TestIf (arms_if test)) P (tested_if test first.1) (λ t. eval_if step first.1 >>= (λ s. Ok (first.0, t, s, first.1))) (tested_if_low test first.1)
    (λ t one. holds_after (λ (x : Option Expr). depth_in x ≤ arms_if step) P (eval_if step first.1) (λ s. Ok (first.0, t, s, first.1)) (eval_if_low step first.1) (λ s two. (zeroth, one, two))))

behind_low : (place : Place) (test : Phrase) (body : Stmt) (b : ℕ) → stmt_depth body ≤ b → Lows (1 + max b (expr_arms test)) (behind_body place test body)
unfolding behind_body
behind_low place test body b le env =
    let n = expr_arms test in
    holds_after (TestAt n) (Low (1 + max b n)) (tested test env) (λ t. unless_wrong place t.1 (Ok (stmt.Loop (Some t.0) None body true, env))) (tested_low test env)
    (λ t first. wrong_skip (Low (1 + max b n)) place t.1 (Ok (stmt.Loop (Some t.0) None body true, env)) (let is = loop_depth (Some t.0) None body true in omega (arith, is, first, le)))

do_low : (place : Place) (body : Within → Step) (test : Phrase) (b : ℕ) → Stands b body → Lows (1 + max b (expr_arms test)) (do_loop place body test)
unfolding do_loop
do_low place body test b stands env =
    holds_after (Low b) (Low (1 + max b (expr_arms test))) (body in_loop (opened env)) (λ done. behind_body place test done.0 (closed done.1)) (stands in_loop (opened env)) (λ done le. behind_low place test done.0 b le (closed done.1))

-- ---- the body of a `switch`

abbrev arm_depth : Arm → ℕ
arm_depth = fold-Arm ℕ ℕ stmt_depth_by arm_depth_by

arm_is : (labels : List ℕ) (d : Bool) (body : List Stmt) → arm_depth (roll-Arm (record { labels = labels; is_default = d; body = body })) ≡ 1 + deepest (map stmt_depth body)
arm_is labels d body = fold-roll-Arm ℕ ℕ stmt_depth_by arm_depth_by (record { labels = labels; is_default = d; body = body })

-- arms so far
abbrev Gathers : ℕ → Gathered → Type 0
Gathers n g = (deepest (map arm_depth g.arms) ≤ 1 + n) × (deepest (map stmt_depth g.body) ≤ n)

deepest_push : {A : Type 0} (f : A → ℕ) (xs : List A) (x : A) (n : ℕ) → deepest (map f xs) ≤ n → f x ≤ n → deepest (map f (xs ++ x ∷ [])) ≤ n
deepest_push f [] x n all le = omega (arith, le)
deepest_push f (y ∷ xs) x n all le = let rest = deepest_push f xs x n (omega (arith, all)) le in omega (arith, all, rest)

module _ (n : ℕ) where
  arm_behind : (g : Gathered) → Gathers n g → Gathers n (behind_arm g)
  arm_behind g is = let same = arm_is g.labels g.is_default g.body in let body = is.1 in (deepest_push arm_depth g.arms (last_arm g) (1 + n) is.0 (omega (arith, same, body)), omega arith)

  reach : (g : Gathered) → Gathers n g → Gathers n (at_label g)
  reach g is = by_test (is_empty g.body)
    where
      by_test : (b : Bool) → Gathers n (if b then g else behind_arm g)
      by_test true = is
      by_test false = arm_behind g is

  case_more : (g : Gathered) (word : ℕ) → Gathers n g → Gathers n (with_case g word)
  unfolding with_case
  case_more g word is = reach g is

  default_more : (g : Gathered) → Gathers n g → Gathers n (with_default g)
  unfolding with_default
  default_more g is = reach g is

  stmt_more : (g : Gathered) (s : Stmt) → stmt_depth s ≤ n → Gathers n g → Gathers n (with_stmt g s)
  unfolding with_stmt
  stmt_more g s le is = (is.0, deepest_push stmt_depth g.body s n is.1 le)

  all_under : (g : Gathered) → Gathers n g → deepest (map arm_depth (all_arms g)) ≤ 1 + n
  unfolding all_arms
  all_under g is = by_test (is_blank g)
    where
      by_test : (b : Bool) → deepest (map arm_depth (if b then g.arms else (behind_arm g).arms)) ≤ 1 + n
      by_test true = is.0
      by_test false = (arm_behind g is).0

  labelled_low : (selector : Ty) (label : Option Label) (g : Gathered) (env : Env) → Gathers n g → Holds (Gathers n) (labelled selector label g env)
  unfolding labelled case_label default_label
  labelled_low selector None g env is = is
  labelled_low selector (Some (Case place e)) g env is =
      holds_then (Gathers n) (taken_expression env e) (λ x. case_word env.scene selector g place x >>= (λ word. Ok (with_case g word)))
      (λ x. holds_then (Gathers n) (case_word env.scene selector g place x) (λ word. Ok (with_case g word)) (λ word. case_more g word is))
  labelled_low selector (Some (Default place)) g env is = skip (Gathers n) place ((E0511, g.has_default) ∷ []) (Ok (with_default g)) (default_more g is)

  abbrev ItemDone : Gathered × Env → Type 0
  ItemDone done = Gathers n done.0

  item_low : (within : Within) (selector : Ty) (a : Answer) (g : Gathered) (env : Env) → Stands n a.step → Gathers n g → Holds ItemDone (item within selector a g env)
  unfolding stated
  item_low within selector a g env stands is = by_test (is_some a.label)
    where
      by_test : (b : Bool) → Holds ItemDone (if b then labelled selector a.label g env >>= (λ more. Ok (more, env)) else a.step within env >>= (λ done. Ok (with_stmt g done.0, done.1)))
      by_test true = holds_after (Gathers n) ItemDone (labelled selector a.label g env) (λ more. Ok (more, env)) (labelled_low selector a.label g env is) (λ more so. so)
      by_test false = holds_after (Low n) ItemDone (a.step within env) (λ done. Ok (with_stmt g done.0, done.1)) (stands within env) (λ done le. stmt_more g done.0 le is)

  items_low : (within : Within) (selector : Ty) (answers : List Answer) (g : Gathered) (env : Env) → AllByRecursion (λ (a : Answer). Stands n a.step) answers → Gathers n g → Holds ItemDone (items within selector answers g env)
  items_low within selector [] g env all is = is
  items_low within selector (a ∷ answers) g env all is =
      holds_after ItemDone ItemDone (item within selector a g env) (λ done. items within selector answers done.0 done.1) (item_low within selector a g env all.0 is) (λ done so. items_low within selector answers done.0 done.1 all.1 so)

  arms_low : (place : Place) (x : Part) (m : ℕ) (g : Gathered) → At m x → Gathers n g → Lows (max m (1 + n)) (arms place x g)
  unfolding arms switched
  arms_low place x m g first is env =
      let P = λ (s : Stmt). stmt_depth s ≤ max m (1 + n) in
      holds_after P (Low (max m (1 + n))) (unless place ((E0507, is_unread env.scene x) ∷ (E0511, not (is_index x && are_arms (all_arms g))) ∷ (E0908, has_many g.words g.has_default) ∷ []) (Ok (stmt.Switch x.expr (all_arms g)))) (λ s. Ok (s, closed env))
      (skip P place ((E0507, is_unread env.scene x) ∷ (E0511, not (is_index x && are_arms (all_arms g))) ∷ (E0908, has_many g.words g.has_default) ∷ []) (Ok (stmt.Switch x.expr (all_arms g)))
      (let whole = at.at-Switch ℕ ℕ stmt_depth_by arm_depth_by x.expr (all_arms g) in let under = all_under g is in omega (arith, whole, first, under)))
      (λ s le. le)

  switch_low : (place : Place) (e : Phrase) (answers : List Answer) → AllByRecursion (λ (a : Answer). Stands n a.step) answers → Stands (max (expr_arms e) (1 + n)) (switch place e answers)
  unfolding switch switch_head
  switch_low place e answers all within env =
      let m = expr_arms e in
      holds_after (λ (head : Part × Env). At m head.0) (Low (max m (1 + n))) (taken_expression env e >>= (λ selector. Ok (selector, opened env)))
      (λ head. items (in_switch within) (type_in head.0) answers nothing head.1 >>= (λ done. arms place head.0 done.0 done.1))
      (holds_after (At m) (λ (head : Part × Env). At m head.0) (taken_expression env e) (λ selector. Ok (selector, opened env)) (taken_expression_deep env e) (λ x is. is))
      (λ head first. holds_after ItemDone (Low (max m (1 + n))) (items (in_switch within) (type_in head.0) answers nothing head.1) (λ done. arms place head.0 done.0 done.1)
      (items_low (in_switch within) (type_in head.0) answers nothing head.1 all (omega arith, omega arith)) (λ done is. arms_low place head.0 m done.0 first is done.1))

-- ---- all statements

more_low : (n m : ℕ) (step : Within → Step) → n ≤ m → Stands n step → Stands m step
more_low n m step le stands within env = so (Low n) (Low m) (step within env) (stands within env) (λ done is. omega (arith, is, le))

module _ (result : Ty) where
  abbrev Fits : Syntax → Type 0
  Fits s = Stands (stmt_arms s) (answer result s).step

  abbrev Child : Type 0
  Child = (s : Syntax) × Fits s

  abbrev tree_of : Child → Syntax
  tree_of c = c.0

  counts : (x : Stmt-F Syntax) → stmt_arms (roll-Stmt x) ≡ stmt_arms_by (map-Stmt Syntax ℕ stmt_arms x)
  unfolding stmt_arms
  counts x = fold-roll-Stmt ℕ stmt_arms_by x

  answer_at : (x : Stmt-F Syntax) → answer result (roll-Stmt x) ≡ by_parts result (map-Stmt Syntax Answer (answer result) x)
  unfolding answer
  answer_at x = fold-roll-Stmt Answer (by_parts result) x

  opens : (x : Stmt-F Syntax) → Stands (stmt_arms_by (map-Stmt Syntax ℕ stmt_arms x)) (by_parts result (map-Stmt Syntax Answer (answer result) x)).step → Fits (roll-Stmt x)
  opens x is = subst (λ n. Stands n (answer result (roll-Stmt x)).step) (sym (counts x)) (subst (λ (a : Answer). Stands (stmt_arms_by (map-Stmt Syntax ℕ stmt_arms x)) a.step) (sym (answer_at x)) is)

  rows : (m : ℕ) (within : Within) (children : List Child) → deepest (map stmt_arms (map tree_of children)) ≤ m → AllByRecursion (Lows m) (map (λ (a : Answer). a.step (in_row within)) (map (answer result) (map tree_of children)))
  rows m within [] le = tt
  rows m within (c ∷ children) le = (more_low (stmt_arms c.0) m (answer result c.0).step (omega (arith, le)) c.1 (in_row within), rows m within children (omega (arith, le)))

  all_stand : (m : ℕ) (children : List Child) → deepest (map stmt_arms (map tree_of children)) ≤ m → AllByRecursion (λ (a : Answer). Stands m a.step) (map (answer result) (map tree_of children))
  all_stand m [] le = tt
  all_stand m (c ∷ children) le = (more_low (stmt_arms c.0) m (answer result c.0).step (omega (arith, le)) c.1, all_stand m children (omega (arith, le)))

  by_layer : (y : Stmt-F Child) → Fits (roll-Stmt (map-Stmt Child Syntax tree_of y))
  by_layer (Stmt-F.Empty place) = opens (Stmt-F.Empty place) (λ within env. let is = at.at-Empty ℕ ℕ stmt_depth_by arm_depth_by in omega (arith, is))
  by_layer (Stmt-F.Block place children) =
      let n = deepest (map stmt_arms (map tree_of children)) in
      opens (Stmt-F.Block place (map tree_of children)) (λ within. block_low n (map (λ (a : Answer). a.step (in_row within)) (map (answer result) (map tree_of children))) (rows n within children (omega arith)) within)
  by_layer (Stmt-F.Decl d) = opens (Stmt-F.Decl d) (λ within env. declaration_low env d)
  by_layer (Stmt-F.Expr e) = opens (Stmt-F.Expr e) (λ within. evaluated_low e)
  by_layer (Stmt-F.If place test body) = opens (Stmt-F.If place test body.0) (branch_low place test (stmt_arms body.0) (answer result body.0).step body.1)
  by_layer (Stmt-F.IfElse place test body other) =
      opens (Stmt-F.IfElse place test body.0 other.0) (branches_low place test (stmt_arms body.0) (stmt_arms other.0) (answer result body.0).step (answer result other.0).step body.1 other.1)
  by_layer (Stmt-F.Switch place e children) =
      let n = deepest (map stmt_arms (map tree_of children)) in
      opens (Stmt-F.Switch place e (map tree_of children)) (switch_low n place e (map (answer result) (map tree_of children)) (all_stand n children (omega arith)))
  by_layer (Stmt-F.Case place e) = opens (Stmt-F.Case place e) (λ within. stray_low place e)
  by_layer (Stmt-F.Default place) = opens (Stmt-F.Default place) (λ within. still_low 0 (misplaced_default place) (misplaced_low place))
  by_layer (Stmt-F.While place test body) =
      let t = expr_arms test in let b = stmt_arms body.0 in
      opens (Stmt-F.While place test body.0) (λ within env. so (Low (whole_loop 0 t 0 b)) (Low (1 + max t b)) (while_head test env >>= looped place (answer result body.0).step)
      (holds_after (HeadAt 0 t 0) (Low (whole_loop 0 t 0 b)) (while_head test env) (looped place (answer result body.0).step) (while_low test env) (λ head is. looped_low place (answer result body.0).step head 0 t 0 b is body.1))
      (λ done is. omega (arith, is)))
  by_layer (Stmt-F.Do place body test) = opens (Stmt-F.Do place body.0 test) (λ within. do_low place (answer result body.0).step test (stmt_arms body.0) body.1)
  by_layer (Stmt-F.For place init test step body) =
      let i = init_part_arms init in let t = arms_if test in let s = arms_if step in let b = stmt_arms body.0 in
      opens (Stmt-F.For place init test step body.0) (λ within env. holds_after (HeadAt i t s) (Low (whole_loop i t s b)) (for_head init test step env) (looped place (answer result body.0).step) (for_low init test step env)
      (λ head is. looped_low place (answer result body.0).step head i t s b is body.1))
  by_layer (Stmt-F.Break place) = opens (Stmt-F.Break place) (λ within. still_low 0 (broken within place) (broken_low within place))
  by_layer (Stmt-F.Continue place) = opens (Stmt-F.Continue place) (λ within. still_low 0 (continued within place) (continued_low within place))
  by_layer (Stmt-F.Discard place) = opens (Stmt-F.Discard place) (λ within env. still_low 0 (discarded env.scene.stage place) (discarded_low env.scene.stage place) env)
  by_layer (Stmt-F.Return place) = opens (Stmt-F.Return place) (λ within. still_low 0 (returned result place) (returned_low result place))
  by_layer (Stmt-F.ReturnValue place e) = opens (Stmt-F.ReturnValue place e) (λ within. return_low result place e)

  statement_low : (s : Syntax) → Fits s
  statement_low = ind-Stmt Fits (λ x y is. subst (λ z. Fits (roll-Stmt z)) is (by_layer y))

  all_low : (n : ℕ) (within : Within) (all : List Syntax) → deepest (map stmt_arms all) ≤ n → AllByRecursion (Lows n) (map (λ s. statement result s within) all)
  all_low n within [] le = tt
  all_low n within (s ∷ all) le = (more_low (stmt_arms s) n (answer result s).step (omega (arith, le)) (statement_low s) within, all_low n within all (omega (arith, le)))

  -- statements are no deeper than their syntax trees
  pub statements_low : (all : List Syntax) (within : Within) (env : Env) → Holds (LowAll (deepest (map stmt_arms all))) (statements result all within env)
  statements_low all within env = low_turns (deepest (map stmt_arms all)) (map (λ s. statement result s within) all) (all_low (deepest (map stmt_arms all)) within all (omega arith)) env
