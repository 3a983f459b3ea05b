-- Calls in an expression and a statement, from those in their parts.
use Rattle.std.proofs.Common.{◌≡◌, refl, sym, ap, ◌∙◌, ℕ, Bool, List, [], ◌∷◌, ◌++◌, map, append_assoc, append-nil}
use Rattle.std.specs.Prelude.{Option, Some, None}
use Rattle.std.specs.List.{flat_map}
use Rattle.std.proofs.lemmas.List.Concat.{flat_map-cons}
use Rattle.gsl_base.specs.declared.fault.Place.{Place}
use Rattle.gsl_values.specs.declared.value.Value.{Value}
use Rattle.gsl_values.specs.declared.lane.Lanes.{Lanes}
use Rattle.gsl_values.specs.declared.op.UnaryOp.{UnaryOp}
use Rattle.gsl_values.specs.declared.op.BinaryOp.{BinaryOp}
use Rattle.gsl_values.specs.declared.function.Builtin.{Builtin}
use Rattle.gsl_tree.specs.declared.expr.Expr.{Expr, out-Expr}
use Rattle.gsl_tree.specs.declared.expr.LogicOp.{LogicOp}
use Rattle.gsl_tree.specs.declared.expr.StepOp.{StepOp}
use Rattle.gsl_tree.specs.declared.expr.StageVar.{StageVar}
use Rattle.gsl_tree.specs.declared.expr.ExprKind.TheVariants as kind
use Rattle.gsl_tree.specs.declared.expr.ExprKind.TheFolds.{fold-Expr, fold-ExprKind, fold-roll-Expr}
use Rattle.gsl_tree.specs.declared.expr.ExprKind.TheViews.{roll-out-Expr}
use Rattle.gsl_tree.specs.declared.stmt.Stmt.{Stmt}
use Rattle.gsl_tree.specs.declared.stmt.Arm.{Arm, out-Arm}
use Rattle.gsl_tree.specs.declared.stmt.Stmt.TheVariants as s
use Rattle.gsl_tree.specs.declared.stmt.Stmt.TheFolds.{fold-Stmt, fold-Arm, fold-roll-Arm}
use Rattle.gsl_tree.specs.declared.stmt.Stmt.TheViews.{roll-out-Arm}
use Rattle.gsl_tree.specs.Trees.{or_nothing}
use Rattle.gsl_tree.specs.Weights as weights
use Rattle.gsl_tree.proofs.Folds as at
use Rattle.gsl_tree.proofs.StmtFolds as stmt_at
use Rattle.gsl_tree.specs.declared.unit.Function.{Function}
use Rattle.gsl_tree.specs.declared.unit.GlobalVar.{GlobalVar}
use Rattle.gsl_link_calls.specs.Calls.{global_calls, function_calls, Call, calls_kind, calls_part, with_call, expr_calls, stmt_calls, stmt_calls_by, arm_calls_by, together}
use Rattle.gsl_link_calls.specs.Gathering.{global_gathered, function_gathered, in_turn, gathered, kind_gathered, any_gathered, stmt_gathered, arm_gathered}
use Rattle.gsl_link_calls.proofs.Lists as lists

pub gather_opens : (calls : List Call) (e : Expr) → gathered calls e ≡ kind_gathered calls (out-Expr e).place (out-Expr e).kind
unfolding gathered kind_gathered
gather_opens calls e = ap (λ l. calls ++ l) (ap expr_calls (sym (roll-out-Expr e)) ∙ fold-roll-Expr (Option ℕ × List Call) (List Call) calls_kind calls_part (out-Expr e))

-- parts one after the other
all_of : (calls : List Call) (es : List Expr) → in_turn gathered calls es ≡ calls ++ flat_map expr_calls es
unfolding gathered
all_of calls es = lists.in_turn_is expr_calls gathered (λ l e. refl) calls es

abbrev putting : List Call → List Call → List Call
putting calls l = calls ++ l

pub gather-Const : (calls : List Call) (place : Place) (v : Value) → kind_gathered calls place (kind.Const v) ≡ calls
unfolding kind_gathered gathered
gather-Const calls place v = ap (λ (p : Option ℕ × List Call). calls ++ with_call place p.0 p.1) (at.at-Const (Option ℕ × List Call) (List Call) calls_kind calls_part v) ∙ append-nil calls

pub gather-Local : (calls : List Call) (place : Place) (n : ℕ) → kind_gathered calls place (kind.Local n) ≡ calls
unfolding kind_gathered gathered
gather-Local calls place n = ap (λ (p : Option ℕ × List Call). calls ++ with_call place p.0 p.1) (at.at-Local (Option ℕ × List Call) (List Call) calls_kind calls_part n) ∙ append-nil calls

pub gather-Global : (calls : List Call) (place : Place) (n : ℕ) → kind_gathered calls place (kind.Global n) ≡ calls
unfolding kind_gathered gathered
gather-Global calls place n = ap (λ (p : Option ℕ × List Call). calls ++ with_call place p.0 p.1) (at.at-Global (Option ℕ × List Call) (List Call) calls_kind calls_part n) ∙ append-nil calls

pub gather-Param : (calls : List Call) (place : Place) (n : ℕ) → kind_gathered calls place (kind.Param n) ≡ calls
unfolding kind_gathered gathered
gather-Param calls place n = ap (λ (p : Option ℕ × List Call). calls ++ with_call place p.0 p.1) (at.at-Param (Option ℕ × List Call) (List Call) calls_kind calls_part n) ∙ append-nil calls

pub gather-BlockMember : (calls : List Call) (place : Place) (b : ℕ) (n : ℕ) → kind_gathered calls place (kind.BlockMember b n) ≡ calls
unfolding kind_gathered gathered
gather-BlockMember calls place b n = ap (λ (p : Option ℕ × List Call). calls ++ with_call place p.0 p.1) (at.at-BlockMember (Option ℕ × List Call) (List Call) calls_kind calls_part b n) ∙ append-nil calls

pub gather-Stage : (calls : List Call) (place : Place) (v : StageVar) → kind_gathered calls place (kind.Stage v) ≡ calls
unfolding kind_gathered gathered
gather-Stage calls place v = ap (λ (p : Option ℕ × List Call). calls ++ with_call place p.0 p.1) (at.at-Stage (Option ℕ × List Call) (List Call) calls_kind calls_part v) ∙ append-nil calls

pub gather-Interface : (calls : List Call) (place : Place) (n : ℕ) → kind_gathered calls place (kind.Interface n) ≡ calls
unfolding kind_gathered gathered
gather-Interface calls place n = ap (λ (p : Option ℕ × List Call). calls ++ with_call place p.0 p.1) (at.at-Interface (Option ℕ × List Call) (List Call) calls_kind calls_part n) ∙ append-nil calls

pub gather-Member : (calls : List Call) (place : Place) (a : Expr) (n : ℕ) → kind_gathered calls place (kind.Member a n) ≡ gathered calls a
unfolding kind_gathered gathered
gather-Member calls place a n = ap (λ (p : Option ℕ × List Call). calls ++ with_call place p.0 p.1) (at.at-Member (Option ℕ × List Call) (List Call) calls_kind calls_part a n) ∙ ap (putting calls) (lists.one (expr_calls a))

pub gather-Index : (calls : List Call) (place : Place) (a : Expr) (i : Expr) → kind_gathered calls place (kind.Index a i) ≡ gathered (gathered calls a) i
unfolding kind_gathered gathered
gather-Index calls place a i = ap (λ (p : Option ℕ × List Call). calls ++ with_call place p.0 p.1) (at.at-Index (Option ℕ × List Call) (List Call) calls_kind calls_part a i) ∙ lists.two calls (expr_calls a) (expr_calls i)

pub gather-Swizzle : (calls : List Call) (place : Place) (a : Expr) (l : Lanes) → kind_gathered calls place (kind.Swizzle a l) ≡ gathered calls a
unfolding kind_gathered gathered
gather-Swizzle calls place a l = ap (λ (p : Option ℕ × List Call). calls ++ with_call place p.0 p.1) (at.at-Swizzle (Option ℕ × List Call) (List Call) calls_kind calls_part a l) ∙ ap (putting calls) (lists.one (expr_calls a))

pub gather-Length : (calls : List Call) (place : Place) (a : Expr) → kind_gathered calls place (kind.Length a) ≡ gathered calls a
unfolding kind_gathered gathered
gather-Length calls place a = ap (λ (p : Option ℕ × List Call). calls ++ with_call place p.0 p.1) (at.at-Length (Option ℕ × List Call) (List Call) calls_kind calls_part a) ∙ ap (putting calls) (lists.one (expr_calls a))

pub gather-Unary : (calls : List Call) (place : Place) (o : UnaryOp) (a : Expr) → kind_gathered calls place (kind.Unary o a) ≡ gathered calls a
unfolding kind_gathered gathered
gather-Unary calls place o a = ap (λ (p : Option ℕ × List Call). calls ++ with_call place p.0 p.1) (at.at-Unary (Option ℕ × List Call) (List Call) calls_kind calls_part o a) ∙ ap (putting calls) (lists.one (expr_calls a))

pub gather-Binary : (calls : List Call) (place : Place) (o : BinaryOp) (a : Expr) (b : Expr) → kind_gathered calls place (kind.Binary o a b) ≡ gathered (gathered calls a) b
unfolding kind_gathered gathered
gather-Binary calls place o a b = ap (λ (p : Option ℕ × List Call). calls ++ with_call place p.0 p.1) (at.at-Binary (Option ℕ × List Call) (List Call) calls_kind calls_part o a b) ∙ lists.two calls (expr_calls a) (expr_calls b)

pub gather-Logic : (calls : List Call) (place : Place) (o : LogicOp) (a : Expr) (b : Expr) → kind_gathered calls place (kind.Logic o a b) ≡ gathered (gathered calls a) b
unfolding kind_gathered gathered
gather-Logic calls place o a b = ap (λ (p : Option ℕ × List Call). calls ++ with_call place p.0 p.1) (at.at-Logic (Option ℕ × List Call) (List Call) calls_kind calls_part o a b) ∙ lists.two calls (expr_calls a) (expr_calls b)

pub gather-Choose : (calls : List Call) (place : Place) (t : Expr) (a : Expr) (b : Expr) → kind_gathered calls place (kind.Choose t a b) ≡ gathered (gathered (gathered calls t) a) b
unfolding kind_gathered gathered
gather-Choose calls place t a b = ap (λ (p : Option ℕ × List Call). calls ++ with_call place p.0 p.1) (at.at-Choose (Option ℕ × List Call) (List Call) calls_kind calls_part t a b) ∙ lists.three calls (expr_calls t) (expr_calls a) (expr_calls b)

pub gather-Assign : (calls : List Call) (place : Place) (a : Expr) (b : Expr) → kind_gathered calls place (kind.Assign a b) ≡ gathered (gathered calls a) b
unfolding kind_gathered gathered
gather-Assign calls place a b = ap (λ (p : Option ℕ × List Call). calls ++ with_call place p.0 p.1) (at.at-Assign (Option ℕ × List Call) (List Call) calls_kind calls_part a b) ∙ lists.two calls (expr_calls a) (expr_calls b)

pub gather-Update : (calls : List Call) (place : Place) (o : BinaryOp) (a : Expr) (b : Expr) → kind_gathered calls place (kind.Update o a b) ≡ gathered (gathered calls a) b
unfolding kind_gathered gathered
gather-Update calls place o a b = ap (λ (p : Option ℕ × List Call). calls ++ with_call place p.0 p.1) (at.at-Update (Option ℕ × List Call) (List Call) calls_kind calls_part o a b) ∙ lists.two calls (expr_calls a) (expr_calls b)

pub gather-Step : (calls : List Call) (place : Place) (o : StepOp) (a : Expr) → kind_gathered calls place (kind.Step o a) ≡ gathered calls a
unfolding kind_gathered gathered
gather-Step calls place o a = ap (λ (p : Option ℕ × List Call). calls ++ with_call place p.0 p.1) (at.at-Step (Option ℕ × List Call) (List Call) calls_kind calls_part o a) ∙ ap (putting calls) (lists.one (expr_calls a))

pub gather-Call : (calls : List Call) (place : Place) (n : ℕ) (es : List Expr) → kind_gathered calls place (kind.Call n es) ≡ in_turn gathered (calls ++ (record { head = n; place = place }) ∷ []) es
unfolding kind_gathered gathered
gather-Call calls place n es = ap (λ (p : Option ℕ × List Call). calls ++ with_call place p.0 p.1) (at.at-Call (Option ℕ × List Call) (List Call) calls_kind calls_part n es) ∙ lists.with_front calls (record { head = n; place = place }) (together (map expr_calls es)) ∙ ap (putting (calls ++ (record { head = n; place = place }) ∷ [])) (lists.together_is expr_calls es) ∙ sym (all_of (calls ++ (record { head = n; place = place }) ∷ []) es)

pub gather-Built : (calls : List Call) (place : Place) (f : Builtin) (es : List Expr) → kind_gathered calls place (kind.Built f es) ≡ in_turn gathered calls es
unfolding kind_gathered gathered
gather-Built calls place f es = ap (λ (p : Option ℕ × List Call). calls ++ with_call place p.0 p.1) (at.at-Built (Option ℕ × List Call) (List Call) calls_kind calls_part f es) ∙ ap (putting calls) (lists.together_is expr_calls es) ∙ sym (all_of calls es)

pub gather-Build : (calls : List Call) (place : Place) (es : List Expr) → kind_gathered calls place (kind.Build es) ≡ in_turn gathered calls es
unfolding kind_gathered gathered
gather-Build calls place es = ap (λ (p : Option ℕ × List Call). calls ++ with_call place p.0 p.1) (at.at-Build (Option ℕ × List Call) (List Call) calls_kind calls_part es) ∙ ap (putting calls) (lists.together_is expr_calls es) ∙ sym (all_of calls es)

pub gather-Convert : (calls : List Call) (place : Place) (a : Expr) → kind_gathered calls place (kind.Convert a) ≡ gathered calls a
unfolding kind_gathered gathered
gather-Convert calls place a = ap (λ (p : Option ℕ × List Call). calls ++ with_call place p.0 p.1) (at.at-Convert (Option ℕ × List Call) (List Call) calls_kind calls_part a) ∙ ap (putting calls) (lists.one (expr_calls a))

pub gather-Comma : (calls : List Call) (place : Place) (es : List Expr) → kind_gathered calls place (kind.Comma es) ≡ in_turn gathered calls es
unfolding kind_gathered gathered
gather-Comma calls place es = ap (λ (p : Option ℕ × List Call). calls ++ with_call place p.0 p.1) (at.at-Comma (Option ℕ × List Call) (List Call) calls_kind calls_part es) ∙ ap (putting calls) (lists.together_is expr_calls es) ∙ sym (all_of calls es)

pub ruleset gather_step = (gather_opens, gather-Const, gather-Local, gather-Global, gather-Param, gather-BlockMember, gather-Stage, gather-Interface, gather-Member, gather-Index, gather-Swizzle, gather-Length, gather-Unary, gather-Binary, gather-Logic, gather-Choose, gather-Assign, gather-Update, gather-Step, gather-Call, gather-Built, gather-Build, gather-Convert, gather-Comma)

pub any-None : (calls : List Call) → any_gathered calls None ≡ calls
unfolding any_gathered
any-None calls = append-nil calls

pub any-Some : (calls : List Call) (e : Expr) → any_gathered calls (Some e) ≡ gathered calls e
unfolding any_gathered gathered
any-Some calls e = ap (putting calls) (lists.flat_one expr_calls e)

pub ruleset any_step = (any-None, any-Some)

-- ---- statements

abbrev arm_calls : Arm → List Call
arm_calls = fold-Arm (List Call) (List Call) stmt_calls_by arm_calls_by

all_stmts : (calls : List Call) (stmts : List Stmt) → in_turn stmt_gathered calls stmts ≡ calls ++ flat_map stmt_calls stmts
unfolding stmt_gathered
all_stmts calls stmts = lists.in_turn_is stmt_calls stmt_gathered (λ l e. refl) calls stmts

all_arms : (calls : List Call) (arms : List Arm) → in_turn arm_gathered calls arms ≡ calls ++ flat_map arm_calls arms
unfolding arm_gathered
all_arms calls arms = lists.in_turn_is arm_calls arm_gathered (λ l e. refl) calls arms

pub stmt-Empty : (calls : List Call) → stmt_gathered calls s.Empty ≡ calls
unfolding stmt_gathered gathered any_gathered
stmt-Empty calls = ap (putting calls) (stmt_at.at-Empty (List Call) (List Call) stmt_calls_by arm_calls_by) ∙ append-nil calls

pub stmt-Break : (calls : List Call) → stmt_gathered calls s.Break ≡ calls
unfolding stmt_gathered gathered any_gathered
stmt-Break calls = ap (putting calls) (stmt_at.at-Break (List Call) (List Call) stmt_calls_by arm_calls_by) ∙ append-nil calls

pub stmt-Continue : (calls : List Call) → stmt_gathered calls s.Continue ≡ calls
unfolding stmt_gathered gathered any_gathered
stmt-Continue calls = ap (putting calls) (stmt_at.at-Continue (List Call) (List Call) stmt_calls_by arm_calls_by) ∙ append-nil calls

pub stmt-Discard : (calls : List Call) → stmt_gathered calls s.Discard ≡ calls
unfolding stmt_gathered gathered any_gathered
stmt-Discard calls = ap (putting calls) (stmt_at.at-Discard (List Call) (List Call) stmt_calls_by arm_calls_by) ∙ append-nil calls

pub stmt-Eval : (calls : List Call) (e : Expr) → stmt_gathered calls (s.Eval e) ≡ gathered calls e
unfolding stmt_gathered gathered any_gathered
stmt-Eval calls e = ap (putting calls) (stmt_at.at-Eval (List Call) (List Call) stmt_calls_by arm_calls_by e) ∙ ap (putting calls) (append-nil (flat_map expr_calls (e ∷ [])) ∙ lists.flat_one expr_calls e)

pub stmt-Declare : (calls : List Call) (number : ℕ) (init : Option Expr) → stmt_gathered calls (s.Declare number init) ≡ any_gathered calls init
unfolding stmt_gathered gathered any_gathered
stmt-Declare calls number init = ap (putting calls) (stmt_at.at-Declare (List Call) (List Call) stmt_calls_by arm_calls_by number init) ∙ ap (putting calls) (append-nil (flat_map expr_calls (or_nothing init)))

pub stmt-Return : (calls : List Call) (value : Option Expr) → stmt_gathered calls (s.Return value) ≡ any_gathered calls value
unfolding stmt_gathered gathered any_gathered
stmt-Return calls value = ap (putting calls) (stmt_at.at-Return (List Call) (List Call) stmt_calls_by arm_calls_by value) ∙ ap (putting calls) (append-nil (flat_map expr_calls (or_nothing value)))

pub stmt-Group : (calls : List Call) (stmts : List Stmt) → stmt_gathered calls (s.Group stmts) ≡ in_turn stmt_gathered calls stmts
unfolding stmt_gathered gathered any_gathered
stmt-Group calls stmts = ap (putting calls) (stmt_at.at-Group (List Call) (List Call) stmt_calls_by arm_calls_by stmts) ∙ ap (putting calls) (lists.together_is stmt_calls stmts) ∙ sym (all_stmts calls stmts)

pub stmt-If : (calls : List Call) (test : Expr) (first : Stmt) → stmt_gathered calls (s.If test first None) ≡ stmt_gathered (gathered calls test) first
unfolding stmt_gathered gathered any_gathered
stmt-If calls test first = ap (putting calls) (stmt_at.at-If (List Call) (List Call) stmt_calls_by arm_calls_by test first None) ∙ ap (λ l. calls ++ (l ++ (stmt_calls first ++ []))) (lists.flat_one expr_calls test) ∙ lists.if_one calls (expr_calls test) (stmt_calls first)

pub stmt-Else : (calls : List Call) (test : Expr) (first other : Stmt) → stmt_gathered calls (s.If test first (Some other)) ≡ stmt_gathered (stmt_gathered (gathered calls test) first) other
unfolding stmt_gathered gathered any_gathered
stmt-Else calls test first other = ap (putting calls) (stmt_at.at-If (List Call) (List Call) stmt_calls_by arm_calls_by test first (Some other)) ∙ ap (λ l. calls ++ (l ++ (stmt_calls first ++ stmt_calls other))) (lists.flat_one expr_calls test) ∙ lists.if_two calls (expr_calls test) (stmt_calls first) (stmt_calls other)

pub stmt-Loop : (calls : List Call) (test step : Option Expr) (body : Stmt) (last : Bool) → stmt_gathered calls (s.Loop test step body last) ≡ stmt_gathered (any_gathered (any_gathered calls test) step) body
unfolding stmt_gathered gathered any_gathered
stmt-Loop calls test step body last = ap (putting calls) (stmt_at.at-Loop (List Call) (List Call) stmt_calls_by arm_calls_by test step body last) ∙ ap (λ l. calls ++ (l ++ stmt_calls body)) (lists.flat_both expr_calls (or_nothing test) (or_nothing step)) ∙ lists.loop calls (flat_map expr_calls (or_nothing test)) (flat_map expr_calls (or_nothing step)) (stmt_calls body)

pub stmt-Switch : (calls : List Call) (e : Expr) (arms : List Arm) → stmt_gathered calls (s.Switch e arms) ≡ in_turn arm_gathered (gathered calls e) arms
unfolding stmt_gathered gathered any_gathered
stmt-Switch calls e arms = ap (putting calls) (stmt_at.at-Switch (List Call) (List Call) stmt_calls_by arm_calls_by e arms) ∙ ap (λ l. calls ++ (l ++ together (map arm_calls arms))) (lists.flat_one expr_calls e) ∙ ap (λ l. calls ++ (expr_calls e ++ l)) (lists.together_is arm_calls arms) ∙ sym (append_assoc calls (expr_calls e) (flat_map arm_calls arms)) ∙ sym (all_arms (calls ++ expr_calls e) arms)

pub arm_opens : (calls : List Call) (arm : Arm) → arm_gathered calls arm ≡ in_turn stmt_gathered calls (out-Arm arm).body
unfolding arm_gathered
arm_opens calls arm =
    ap (putting calls) (ap arm_calls (sym (roll-out-Arm arm)) ∙ fold-roll-Arm (List Call) (List Call) stmt_calls_by arm_calls_by (out-Arm arm))
    ∙ ap (putting calls) (lists.together_is stmt_calls (out-Arm arm).body) ∙ sym (all_stmts calls (out-Arm arm).body)

pub ruleset stmt_step = (stmt-Empty, stmt-Break, stmt-Continue, stmt-Discard, stmt-Eval, stmt-Declare, stmt-Return, stmt-Group, stmt-If, stmt-Else, stmt-Loop, stmt-Switch)

-- ---- declarations

pub gathered_is : (calls : List Call) (e : Expr) → gathered calls e ≡ calls ++ expr_calls e
unfolding gathered
gathered_is calls e = refl

pub global_opens : (calls : List Call) (g : GlobalVar) → global_gathered calls g ≡ any_gathered calls g.init
unfolding global_gathered any_gathered
global_opens calls g = refl

pub function_opens : (calls : List Call) (f : Function) → function_gathered calls f ≡ in_turn stmt_gathered calls f.body
unfolding function_gathered
function_opens calls f = sym (all_stmts calls f.body)

pub unit_is : (calls : List Call) (globals : List GlobalVar) (functions : List Function)
    → in_turn function_gathered (in_turn global_gathered calls globals) functions ≡ calls ++ (flat_map global_calls globals ++ flat_map function_calls functions)
unfolding function_gathered global_gathered
unit_is calls globals functions =
    lists.in_turn_is function_calls function_gathered (λ l f. refl) (in_turn global_gathered calls globals) functions
    ∙ ap (λ l. l ++ flat_map function_calls functions) (lists.in_turn_is global_calls global_gathered (λ l g. refl) calls globals)
    ∙ append_assoc calls (flat_map global_calls globals) (flat_map function_calls functions)
