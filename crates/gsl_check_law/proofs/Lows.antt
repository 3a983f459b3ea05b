-- Typed statements are no deeper than their syntax trees.
use Rattle.std.proofs.Common.{◌≡◌, ℕ, ◌+◌, ◌≤◌, max, List, [], ◌∷◌, Option, Some, None, Bool, true, false, not, ◌&&◌, Ok, arith, if◌then◌else◌}
use Rattle.std.specs.List.{AllByRecursion}
use Rattle.gsl_base.specs.Checked.{Checked, ◌>>=◌}
use Rattle.gsl_base.specs.declared.fault.Code.{Code}
use Rattle.gsl_base.specs.declared.fault.Code.TheVariants.{E0504, E0507, E0510, E0511, E0512, E0513, E0514}
use Rattle.gsl_base.specs.declared.fault.Place.{Place}
use Rattle.gsl_syntax.specs.declared.expr.Expr.{Expr as Phrase}
use Rattle.gsl_types.specs.declared.ty.Ty.{Ty}
use Rattle.gsl_tree.specs.declared.expr.Expr.{Expr}
use Rattle.gsl_tree.specs.declared.stmt.Stmt.{Stmt}
use Rattle.gsl_tree.specs.declared.stmt.Stmt.TheVariants as stmt
use Rattle.gsl_tree.specs.Statements.{expr_depth, depth_in, stmt_depth, stmt_depth_by, arm_depth_by}
use Rattle.gsl_tree.proofs.StmtFolds as at
use Rattle.gsl_typing.specs.Conversions.{serves_as, as_type}
use Rattle.gsl_typing.specs.Scene.{type_in}
use Rattle.gsl_typing.specs.Uses.{is_unread, is_runtime, whole}
use Rattle.gsl_check_expr.specs.declared.env.Env.{Env}
use Rattle.gsl_check_expr.specs.Expressions.{expression, taken_expression}
use Rattle.gsl_check_decl.specs.Steps.{Step, in_turn, opened, closed, scoped}
use Rattle.gsl_check_decl.proofs.Gathering.{Holds, holds_after, holds_then}
use Rattle.gsl_check_stmt.specs.declared.within.Within.{Within}
use Rattle.gsl_check_stmt.specs.Rules.{alone, condition_fault, unless_wrong, broken, continued, discarded, returned, returned_value, is_fragment}
use Rattle.gsl_check_stmt.specs.Switches.{misplaced_case, misplaced_default}
use Rattle.gsl_check_stmt.specs.Statements.{in_part, still, group, block, Test, tested, tested_if, eval, eval_if, evaluated, stray_case, return_with, if_head, if_done, branch, branches}
use Rattle.gsl_formed.specs.Nested.{expr_arms, arms_if}
use Rattle.gsl_check_law.proofs.Deep.{skip, At, whole_deep, as_type_depth}
use Rattle.gsl_check_law.proofs.Depths.{expression_deep, taken_expression_deep}
use Rattle.gsl_check_law.proofs.Shallows.{Low, LowAll, Lows, low_turns}
use Rattle.gsl_base.specs.declared.stage.Stage.{Stage}
use Rattle.gsl_typing.specs.Rows.{unless, fault}
use Rattle.gsl_tree.specs.Trees.{place_of}
use Rattle.gsl_check_decl.specs.Declaring.{is_void}

pub wrong_skip : {A : Type 0} (P : A → Type 0) (place : Place) (o : Option Code) (node : Checked A) → Holds P node → Holds P (unless_wrong place o node)
wrong_skip P place None node is = is
wrong_skip P place (Some c) node is = tt

-- ---- single statements

pub still_low : (n : ℕ) (given : Checked Stmt) → Holds (λ (s : Stmt). stmt_depth s ≤ n) given → Lows n (still given)
still_low n given is env = holds_after (λ (s : Stmt). stmt_depth s ≤ n) (Low n) given (λ s. Ok (s, env)) is (λ s le. le)

abbrev Flat : Stmt → Type 0
Flat s = stmt_depth s ≤ 0

pub broken_low : (within : Within) (place : Place) → Holds Flat (broken within place)
unfolding broken
broken_low within place = skip Flat place ((E0512, not within.breaks) ∷ []) (Ok stmt.Break) (let is = at.at-Break ℕ ℕ stmt_depth_by arm_depth_by in omega (arith, is))

pub continued_low : (within : Within) (place : Place) → Holds Flat (continued within place)
unfolding continued
continued_low within place = skip Flat place ((E0512, not within.continues) ∷ []) (Ok stmt.Continue) (let is = at.at-Continue ℕ ℕ stmt_depth_by arm_depth_by in omega (arith, is))

pub discarded_low : (stage : Stage) (place : Place) → Holds Flat (discarded stage place)
unfolding discarded
discarded_low stage place = skip Flat place ((E0514, not (is_fragment stage)) ∷ []) (Ok stmt.Discard) (let is = at.at-Discard ℕ ℕ stmt_depth_by arm_depth_by in omega (arith, is))

pub returned_low : (result : Ty) (place : Place) → Holds Flat (returned result place)
unfolding returned
returned_low result place = skip Flat place ((E0513, not (is_void result)) ∷ []) (Ok (stmt.Return None)) (let is = at.at-Return ℕ ℕ stmt_depth_by arm_depth_by None in omega (arith, is))

pub misplaced_low : (place : Place) → Holds Flat (misplaced_default place)
unfolding misplaced_default
misplaced_low place = tt

pub stray_low : (place : Place) (e : Phrase) → Lows 0 (stray_case place e)
unfolding stray_case misplaced_case
stray_low place e env = holds_then (Low 0) (taken_expression env e) (λ x. still (unless place ((E0507, is_unread env.scene x) ∷ []) (fault place E0511)) env)
    (λ x. still_low 0 (unless place ((E0507, is_unread env.scene x) ∷ []) (fault place E0511)) (skip Flat place ((E0507, is_unread env.scene x) ∷ []) (fault place E0511) tt) env)

pub return_low : (result : Ty) (place : Place) (e : Phrase) → Lows (expr_arms e) (return_with result place e)
unfolding return_with returned_value
return_low result place e env =
    let n = expr_arms e in
    holds_after (At n) (Low n) (taken_expression env e) (λ x. still (returned_value env.scene result place x) env) (taken_expression_deep env e)
    (λ x is. still_low n (returned_value env.scene result place x)
    (skip (λ (s : Stmt). stmt_depth s ≤ n) place ((E0504, not (is_void result) && not (serves_as (type_in x) result)) ∷ (E0507, is_unread env.scene x) ∷ (E0513, is_void result) ∷ []) (Ok (stmt.Return (Some (as_type result x.expr))))
    (let same = at.at-Return ℕ ℕ stmt_depth_by arm_depth_by (Some (as_type result x.expr)) in let kept = as_type_depth result x.expr in omega (arith, same, kept, is))) env)

-- an expression that stands alone
pub eval_low : (e : Phrase) (env : Env) → Holds (λ (x : Expr). expr_depth x ≤ expr_arms e) (eval e env)
unfolding eval alone
eval_low e env =
    let n = expr_arms e in
    holds_after (At n) (λ (x : Expr). expr_depth x ≤ n) (expression env e) (λ x. alone env.scene x >>= (λ y. Ok y.expr)) (expression_deep env e)
    (λ x is. holds_after (At n) (λ (y : Expr). expr_depth y ≤ n) (alone env.scene x) (λ y. Ok y.expr)
    (skip (At n) (place_of x.expr) ((E0507, is_unread env.scene x) ∷ (E0510, is_runtime x) ∷ []) (whole env.scene x) (whole_deep env.scene (place_of x.expr) n x is)) (λ y le. le))

pub eval_if_low : (o : Option Phrase) (env : Env) → Holds (λ (x : Option Expr). depth_in x ≤ arms_if o) (eval_if o env)
unfolding eval_if
eval_if_low None env = omega arith
eval_if_low (Some e) env = holds_after (λ (x : Expr). expr_depth x ≤ expr_arms e) (λ (x : Option Expr). depth_in x ≤ expr_arms e) (eval e env) (λ x. Ok (Some x)) (eval_low e env) (λ x le. le)

pub eval_depth : (e : Expr) → stmt_depth (stmt.Eval e) ≡ expr_depth e
eval_depth e = at.at-Eval ℕ ℕ stmt_depth_by arm_depth_by e

pub evaluated_low : (e : Phrase) → Lows (expr_arms e) (evaluated e)
unfolding evaluated
evaluated_low e env = holds_after (λ (x : Expr). expr_depth x ≤ expr_arms e) (Low (expr_arms e)) (eval e env) (λ x. Ok (stmt.Eval x, env)) (eval_low e env) (λ x le. let is = eval_depth x in omega (arith, is, le))

-- ---- groups

group_low : (n : ℕ) (steps : List Step) → AllByRecursion (Lows n) steps → Lows n (group steps)
group_low n steps all env = holds_after (LowAll n) (Low n) (in_turn steps env) (λ done. Ok (stmt.Group done.0, done.1)) (low_turns n steps all env) (λ done le. let is = at.at-Group ℕ ℕ stmt_depth_by arm_depth_by done.0 in omega (arith, is, le))

scoped_low : (n : ℕ) (step : Step) → Lows n step → Lows n (scoped step)
scoped_low n step is env = holds_after (Low n) (Low n) (step (opened env)) (λ done. Ok (done.0, closed done.1)) (is (opened env)) (λ done le. le)

pub block_low : (n : ℕ) (steps : List Step) → AllByRecursion (Lows n) steps → (within : Within) → Lows n (block steps within)
unfolding block
block_low n steps all within = by_test within.shared
  where
    by_test : (b : Bool) → Lows n (if b then group steps else scoped (group steps))
    by_test true = group_low n steps all
    by_test false = scoped_low n (group steps) (group_low n steps all)

-- ---- conditions

abbrev pub TestAt : ℕ → Test → Type 0
TestAt n t = expr_depth t.0 ≤ n

pub tested_low : (e : Phrase) (env : Env) → Holds (TestAt (expr_arms e)) (tested e env)
unfolding tested
tested_low e env = holds_after (At (expr_arms e)) (TestAt (expr_arms e)) (taken_expression env e) (λ x. Ok (x.expr, condition_fault env.scene x)) (taken_expression_deep env e) (λ x is. is)

abbrev pub TestIf : ℕ → Option Test → Type 0
TestIf n None = Unit {0}
TestIf n (Some t) = TestAt n t

pub tested_if_low : (o : Option Phrase) (env : Env) → Holds (TestIf (arms_if o)) (tested_if o env)
unfolding tested_if
tested_if_low None env = tt
tested_if_low (Some e) env = holds_after (TestAt (expr_arms e)) (TestIf (expr_arms e)) (tested e env) (λ t. Ok (Some t)) (tested_low e env) (λ t is. is)

-- ---- branches

-- what may stand where it stands changes nothing
abbrev pub Stands : ℕ → (Within → Step) → Type 0
Stands n step = (within : Within) → Lows n (step within)

abbrev pub depth_or_stmt : Option Stmt → ℕ
depth_or_stmt None = 0
depth_or_stmt (Some s) = stmt_depth s

if_depth : (t : Expr) (a : Stmt) (b : Option Stmt) (l n : ℕ) → expr_depth t ≤ l → stmt_depth a ≤ n → (depth_or_stmt b ≤ n) → stmt_depth (stmt.If t a b) ≤ max l (1 + n)
if_depth t a None l n first second third = let is = at.at-If ℕ ℕ stmt_depth_by arm_depth_by t a None in omega (arith, is, first, second)
if_depth t a (Some b) l n first second third = let is = at.at-If ℕ ℕ stmt_depth_by arm_depth_by t a (Some b) in omega (arith, is, first, second, third)

head_low : (test : Phrase) (env : Env) → Holds (λ (head : Test × Env). TestAt (expr_arms test) head.0) (if_head test env)
unfolding if_head
head_low test env = holds_after (TestAt (expr_arms test)) (λ (head : Test × Env). TestAt (expr_arms test) head.0) (tested test env) (λ t. Ok (t, opened env)) (tested_low test env) (λ t is. is)

done_low : (place : Place) (t : Test) (a : Stmt) (b : Option Stmt) (env : Env) (l n : ℕ) → TestAt l t → stmt_depth a ≤ n → depth_or_stmt b ≤ n → Holds (Low (max l (1 + n))) (if_done place t a b env)
unfolding if_done
done_low place t a b env l n first second third = wrong_skip (Low (max l (1 + n))) place t.1 (Ok (stmt.If t.0 a b, closed env)) (if_depth t.0 a b l n first second third)

pub branch_low : (place : Place) (test : Phrase) (n : ℕ) (body : Within → Step) → Stands n body → Stands (max (expr_arms test) (1 + n)) (branch place test body)
unfolding branch
branch_low place test n body stands within env =
    let l = expr_arms test in
    holds_after (λ (head : Test × Env). TestAt l head.0) (Low (max l (1 + n))) (if_head test env) (λ head. body (in_part within) head.1 >>= (λ done. if_done place head.0 done.0 None done.1)) (head_low test env)
    (λ head first. holds_after (Low n) (Low (max l (1 + n))) (body (in_part within) head.1) (λ done. if_done place head.0 done.0 None done.1) (stands (in_part within) head.1)
    (λ done second. done_low place head.0 done.0 None done.1 l n first second (omega arith)))

pub branches_low : (place : Place) (test : Phrase) (n m : ℕ) (body other : Within → Step) → Stands n body → Stands m other → Stands (max (expr_arms test) (1 + max n m)) (branches place test body other)
unfolding branches
branches_low place test n m body other stands also within env =
    let l = expr_arms test in
    let all = max l (1 + max n m) in
    holds_after (λ (head : Test × Env). TestAt l head.0) (Low all) (if_head test env)
    (λ head. body (in_part within) head.1 >>= (λ done. other (in_part within) (opened (closed done.1)) >>= (λ last. if_done place head.0 done.0 (Some last.0) last.1))) (head_low test env)
    (λ head first. holds_after (Low n) (Low all) (body (in_part within) head.1) (λ done. other (in_part within) (opened (closed done.1)) >>= (λ last. if_done place head.0 done.0 (Some last.0) last.1)) (stands (in_part within) head.1)
    (λ done second. holds_after (Low m) (Low all) (other (in_part within) (opened (closed done.1))) (λ last. if_done place head.0 done.0 (Some last.0) last.1) (also (in_part within) (opened (closed done.1)))
    (λ last third. done_low place head.0 done.0 (Some last.0) last.1 l (max n m) first (omega (arith, second)) (omega (arith, third)))))
