-- Heads that are called in an expression and a statement, from those in their parts.
use Rattle.std.proofs.Common.{◌≡◌, refl, sym, ap, ◌∙◌, ℕ, Bool, List, [], ◌∷◌, ◌++◌, map, append_assoc, append-nil}
use Rattle.std.specs.Prelude.{Option, Some, None}
use Rattle.std.specs.List.{flat_map}
use Rattle.std.proofs.lemmas.List.Concat.{flat_map-cons}
use Rattle.gsl_base.specs.declared.fault.Place.{Place}
use Rattle.gsl_values.specs.declared.value.Value.{Value}
use Rattle.gsl_values.specs.declared.lane.Lanes.{Lanes}
use Rattle.gsl_values.specs.declared.op.UnaryOp.{UnaryOp}
use Rattle.gsl_values.specs.declared.op.BinaryOp.{BinaryOp}
use Rattle.gsl_values.specs.declared.function.Builtin.{Builtin}
use Rattle.gsl_tree.specs.declared.expr.Expr.{Expr, out-Expr}
use Rattle.gsl_tree.specs.declared.expr.LogicOp.{LogicOp}
use Rattle.gsl_tree.specs.declared.expr.StepOp.{StepOp}
use Rattle.gsl_tree.specs.declared.expr.StageVar.{StageVar}
use Rattle.gsl_tree.specs.declared.expr.ExprKind.TheVariants as kind
use Rattle.gsl_tree.specs.declared.expr.ExprKind.TheFolds.{fold-Expr, fold-ExprKind, fold-roll-Expr}
use Rattle.gsl_tree.specs.declared.expr.ExprKind.TheViews.{roll-out-Expr}
use Rattle.gsl_tree.specs.declared.stmt.Stmt.{Stmt}
use Rattle.gsl_tree.specs.declared.stmt.Arm.{Arm, out-Arm}
use Rattle.gsl_tree.specs.declared.stmt.Stmt.TheVariants as s
use Rattle.gsl_tree.specs.declared.stmt.Stmt.TheFolds.{fold-Stmt, fold-Arm, fold-roll-Arm}
use Rattle.gsl_tree.specs.declared.stmt.Stmt.TheViews.{roll-out-Arm}
use Rattle.gsl_tree.specs.Trees.{or_nothing}
use Rattle.gsl_tree.specs.Weights as weights
use Rattle.gsl_tree.proofs.Folds as at
use Rattle.gsl_tree.proofs.StmtFolds as stmt_at
use Rattle.gsl_tree.specs.declared.unit.Function.{Function}
use Rattle.gsl_link_calls.specs.Calls.{Call, calls_kind, calls_part, with_call, expr_calls, stmt_calls, stmt_calls_by, arm_calls_by, together}
use Rattle.gsl_link_calls.specs.Gathering.{in_turn, heads_gathered, kind_heads_gathered, any_heads_gathered, stmt_heads_gathered, arm_heads_gathered}
use Rattle.gsl_link_calls.proofs.Lists as lists

pub gather_opens : (calls : List ℕ) (e : Expr) → heads_gathered calls e ≡ kind_heads_gathered calls (out-Expr e).kind
unfolding heads_gathered kind_heads_gathered
gather_opens calls e = ap (λ l. calls ++ l) (ap weights.calls_in (sym (roll-out-Expr e)) ∙ fold-roll-Expr (List ℕ) (List ℕ) weights.calls_by weights.calls_part (out-Expr e))

-- parts one after the other
all_of : (calls : List ℕ) (es : List Expr) → in_turn heads_gathered calls es ≡ calls ++ flat_map weights.calls_in es
unfolding heads_gathered
all_of calls es = lists.in_turn_is weights.calls_in heads_gathered (λ l e. refl) calls es

abbrev putting : List ℕ → List ℕ → List ℕ
putting calls l = calls ++ l

pub gather-Const : (calls : List ℕ) (v : Value) → kind_heads_gathered calls (kind.Const v) ≡ calls
unfolding kind_heads_gathered heads_gathered
gather-Const calls v = ap (λ (p : List ℕ). calls ++ p) (at.at-Const (List ℕ) (List ℕ) weights.calls_by weights.calls_part v) ∙ append-nil calls

pub gather-Local : (calls : List ℕ) (n : ℕ) → kind_heads_gathered calls (kind.Local n) ≡ calls
unfolding kind_heads_gathered heads_gathered
gather-Local calls n = ap (λ (p : List ℕ). calls ++ p) (at.at-Local (List ℕ) (List ℕ) weights.calls_by weights.calls_part n) ∙ append-nil calls

pub gather-Global : (calls : List ℕ) (n : ℕ) → kind_heads_gathered calls (kind.Global n) ≡ calls
unfolding kind_heads_gathered heads_gathered
gather-Global calls n = ap (λ (p : List ℕ). calls ++ p) (at.at-Global (List ℕ) (List ℕ) weights.calls_by weights.calls_part n) ∙ append-nil calls

pub gather-Param : (calls : List ℕ) (n : ℕ) → kind_heads_gathered calls (kind.Param n) ≡ calls
unfolding kind_heads_gathered heads_gathered
gather-Param calls n = ap (λ (p : List ℕ). calls ++ p) (at.at-Param (List ℕ) (List ℕ) weights.calls_by weights.calls_part n) ∙ append-nil calls

pub gather-BlockMember : (calls : List ℕ) (b : ℕ) (n : ℕ) → kind_heads_gathered calls (kind.BlockMember b n) ≡ calls
unfolding kind_heads_gathered heads_gathered
gather-BlockMember calls b n = ap (λ (p : List ℕ). calls ++ p) (at.at-BlockMember (List ℕ) (List ℕ) weights.calls_by weights.calls_part b n) ∙ append-nil calls

pub gather-Stage : (calls : List ℕ) (v : StageVar) → kind_heads_gathered calls (kind.Stage v) ≡ calls
unfolding kind_heads_gathered heads_gathered
gather-Stage calls v = ap (λ (p : List ℕ). calls ++ p) (at.at-Stage (List ℕ) (List ℕ) weights.calls_by weights.calls_part v) ∙ append-nil calls

pub gather-Interface : (calls : List ℕ) (n : ℕ) → kind_heads_gathered calls (kind.Interface n) ≡ calls
unfolding kind_heads_gathered heads_gathered
gather-Interface calls n = ap (λ (p : List ℕ). calls ++ p) (at.at-Interface (List ℕ) (List ℕ) weights.calls_by weights.calls_part n) ∙ append-nil calls

pub gather-Member : (calls : List ℕ) (a : Expr) (n : ℕ) → kind_heads_gathered calls (kind.Member a n) ≡ heads_gathered calls a
unfolding kind_heads_gathered heads_gathered
gather-Member calls a n = ap (λ (p : List ℕ). calls ++ p) (at.at-Member (List ℕ) (List ℕ) weights.calls_by weights.calls_part a n) ∙ ap (putting calls) (lists.one_flat (weights.calls_in a))

pub gather-Index : (calls : List ℕ) (a : Expr) (i : Expr) → kind_heads_gathered calls (kind.Index a i) ≡ heads_gathered (heads_gathered calls a) i
unfolding kind_heads_gathered heads_gathered
gather-Index calls a i = ap (λ (p : List ℕ). calls ++ p) (at.at-Index (List ℕ) (List ℕ) weights.calls_by weights.calls_part a i) ∙ lists.two_flat calls (weights.calls_in a) (weights.calls_in i)

pub gather-Swizzle : (calls : List ℕ) (a : Expr) (l : Lanes) → kind_heads_gathered calls (kind.Swizzle a l) ≡ heads_gathered calls a
unfolding kind_heads_gathered heads_gathered
gather-Swizzle calls a l = ap (λ (p : List ℕ). calls ++ p) (at.at-Swizzle (List ℕ) (List ℕ) weights.calls_by weights.calls_part a l) ∙ ap (putting calls) (lists.one_flat (weights.calls_in a))

pub gather-Length : (calls : List ℕ) (a : Expr) → kind_heads_gathered calls (kind.Length a) ≡ heads_gathered calls a
unfolding kind_heads_gathered heads_gathered
gather-Length calls a = ap (λ (p : List ℕ). calls ++ p) (at.at-Length (List ℕ) (List ℕ) weights.calls_by weights.calls_part a) ∙ ap (putting calls) (lists.one_flat (weights.calls_in a))

pub gather-Unary : (calls : List ℕ) (o : UnaryOp) (a : Expr) → kind_heads_gathered calls (kind.Unary o a) ≡ heads_gathered calls a
unfolding kind_heads_gathered heads_gathered
gather-Unary calls o a = ap (λ (p : List ℕ). calls ++ p) (at.at-Unary (List ℕ) (List ℕ) weights.calls_by weights.calls_part o a) ∙ ap (putting calls) (lists.one_flat (weights.calls_in a))

pub gather-Binary : (calls : List ℕ) (o : BinaryOp) (a : Expr) (b : Expr) → kind_heads_gathered calls (kind.Binary o a b) ≡ heads_gathered (heads_gathered calls a) b
unfolding kind_heads_gathered heads_gathered
gather-Binary calls o a b = ap (λ (p : List ℕ). calls ++ p) (at.at-Binary (List ℕ) (List ℕ) weights.calls_by weights.calls_part o a b) ∙ lists.two_flat calls (weights.calls_in a) (weights.calls_in b)

pub gather-Logic : (calls : List ℕ) (o : LogicOp) (a : Expr) (b : Expr) → kind_heads_gathered calls (kind.Logic o a b) ≡ heads_gathered (heads_gathered calls a) b
unfolding kind_heads_gathered heads_gathered
gather-Logic calls o a b = ap (λ (p : List ℕ). calls ++ p) (at.at-Logic (List ℕ) (List ℕ) weights.calls_by weights.calls_part o a b) ∙ lists.two_flat calls (weights.calls_in a) (weights.calls_in b)

pub gather-Choose : (calls : List ℕ) (t : Expr) (a : Expr) (b : Expr) → kind_heads_gathered calls (kind.Choose t a b) ≡ heads_gathered (heads_gathered (heads_gathered calls t) a) b
unfolding kind_heads_gathered heads_gathered
gather-Choose calls t a b = ap (λ (p : List ℕ). calls ++ p) (at.at-Choose (List ℕ) (List ℕ) weights.calls_by weights.calls_part t a b) ∙ lists.three_flat calls (weights.calls_in t) (weights.calls_in a) (weights.calls_in b)

pub gather-Assign : (calls : List ℕ) (a : Expr) (b : Expr) → kind_heads_gathered calls (kind.Assign a b) ≡ heads_gathered (heads_gathered calls a) b
unfolding kind_heads_gathered heads_gathered
gather-Assign calls a b = ap (λ (p : List ℕ). calls ++ p) (at.at-Assign (List ℕ) (List ℕ) weights.calls_by weights.calls_part a b) ∙ lists.two_flat calls (weights.calls_in a) (weights.calls_in b)

pub gather-Update : (calls : List ℕ) (o : BinaryOp) (a : Expr) (b : Expr) → kind_heads_gathered calls (kind.Update o a b) ≡ heads_gathered (heads_gathered calls a) b
unfolding kind_heads_gathered heads_gathered
gather-Update calls o a b = ap (λ (p : List ℕ). calls ++ p) (at.at-Update (List ℕ) (List ℕ) weights.calls_by weights.calls_part o a b) ∙ lists.two_flat calls (weights.calls_in a) (weights.calls_in b)

pub gather-Step : (calls : List ℕ) (o : StepOp) (a : Expr) → kind_heads_gathered calls (kind.Step o a) ≡ heads_gathered calls a
unfolding kind_heads_gathered heads_gathered
gather-Step calls o a = ap (λ (p : List ℕ). calls ++ p) (at.at-Step (List ℕ) (List ℕ) weights.calls_by weights.calls_part o a) ∙ ap (putting calls) (lists.one_flat (weights.calls_in a))

pub gather-Call : (calls : List ℕ) (n : ℕ) (es : List Expr) → kind_heads_gathered calls (kind.Call n es) ≡ in_turn heads_gathered calls es ++ n ∷ []
unfolding kind_heads_gathered heads_gathered
gather-Call calls n es = ap (λ (p : List ℕ). calls ++ p) (at.at-Call (List ℕ) (List ℕ) weights.calls_by weights.calls_part n es) ∙ ap (λ l. calls ++ (l ++ n ∷ [])) (lists.flat_is weights.calls_in es) ∙ sym (append_assoc calls (flat_map weights.calls_in es) (n ∷ [])) ∙ ap (λ l. l ++ n ∷ []) (sym (all_of calls es))

pub gather-Built : (calls : List ℕ) (f : Builtin) (es : List Expr) → kind_heads_gathered calls (kind.Built f es) ≡ in_turn heads_gathered calls es
unfolding kind_heads_gathered heads_gathered
gather-Built calls f es = ap (λ (p : List ℕ). calls ++ p) (at.at-Built (List ℕ) (List ℕ) weights.calls_by weights.calls_part f es) ∙ ap (putting calls) (lists.flat_is weights.calls_in es) ∙ sym (all_of calls es)

pub gather-Build : (calls : List ℕ) (es : List Expr) → kind_heads_gathered calls (kind.Build es) ≡ in_turn heads_gathered calls es
unfolding kind_heads_gathered heads_gathered
gather-Build calls es = ap (λ (p : List ℕ). calls ++ p) (at.at-Build (List ℕ) (List ℕ) weights.calls_by weights.calls_part es) ∙ ap (putting calls) (lists.flat_is weights.calls_in es) ∙ sym (all_of calls es)

pub gather-Convert : (calls : List ℕ) (a : Expr) → kind_heads_gathered calls (kind.Convert a) ≡ heads_gathered calls a
unfolding kind_heads_gathered heads_gathered
gather-Convert calls a = ap (λ (p : List ℕ). calls ++ p) (at.at-Convert (List ℕ) (List ℕ) weights.calls_by weights.calls_part a) ∙ ap (putting calls) (lists.one_flat (weights.calls_in a))

pub gather-Comma : (calls : List ℕ) (es : List Expr) → kind_heads_gathered calls (kind.Comma es) ≡ in_turn heads_gathered calls es
unfolding kind_heads_gathered heads_gathered
gather-Comma calls es = ap (λ (p : List ℕ). calls ++ p) (at.at-Comma (List ℕ) (List ℕ) weights.calls_by weights.calls_part es) ∙ ap (putting calls) (lists.flat_is weights.calls_in es) ∙ sym (all_of calls es)

pub ruleset gather_step = (gather_opens, gather-Const, gather-Local, gather-Global, gather-Param, gather-BlockMember, gather-Stage, gather-Interface, gather-Member, gather-Index, gather-Swizzle, gather-Length, gather-Unary, gather-Binary, gather-Logic, gather-Choose, gather-Assign, gather-Update, gather-Step, gather-Call, gather-Built, gather-Build, gather-Convert, gather-Comma)

pub any-None : (calls : List ℕ) → any_heads_gathered calls None ≡ calls
unfolding any_heads_gathered
any-None calls = append-nil calls

pub any-Some : (calls : List ℕ) (e : Expr) → any_heads_gathered calls (Some e) ≡ heads_gathered calls e
unfolding any_heads_gathered heads_gathered
any-Some calls e = ap (putting calls) (lists.flat_one weights.calls_in e)

pub ruleset any_step = (any-None, any-Some)

-- ---- statements

abbrev arm_calls : Arm → List ℕ
arm_calls = fold-Arm (List ℕ) (List ℕ) weights.stmt_calls_by weights.arm_calls_by

all_stmts : (calls : List ℕ) (stmts : List Stmt) → in_turn stmt_heads_gathered calls stmts ≡ calls ++ flat_map weights.stmt_calls stmts
unfolding stmt_heads_gathered
all_stmts calls stmts = lists.in_turn_is weights.stmt_calls stmt_heads_gathered (λ l e. refl) calls stmts

all_arms : (calls : List ℕ) (arms : List Arm) → in_turn arm_heads_gathered calls arms ≡ calls ++ flat_map arm_calls arms
unfolding arm_heads_gathered
all_arms calls arms = lists.in_turn_is arm_calls arm_heads_gathered (λ l e. refl) calls arms

pub stmt-Empty : (calls : List ℕ) → stmt_heads_gathered calls s.Empty ≡ calls
unfolding stmt_heads_gathered heads_gathered any_heads_gathered
stmt-Empty calls = ap (putting calls) (stmt_at.at-Empty (List ℕ) (List ℕ) weights.stmt_calls_by weights.arm_calls_by) ∙ append-nil calls

pub stmt-Break : (calls : List ℕ) → stmt_heads_gathered calls s.Break ≡ calls
unfolding stmt_heads_gathered heads_gathered any_heads_gathered
stmt-Break calls = ap (putting calls) (stmt_at.at-Break (List ℕ) (List ℕ) weights.stmt_calls_by weights.arm_calls_by) ∙ append-nil calls

pub stmt-Continue : (calls : List ℕ) → stmt_heads_gathered calls s.Continue ≡ calls
unfolding stmt_heads_gathered heads_gathered any_heads_gathered
stmt-Continue calls = ap (putting calls) (stmt_at.at-Continue (List ℕ) (List ℕ) weights.stmt_calls_by weights.arm_calls_by) ∙ append-nil calls

pub stmt-Discard : (calls : List ℕ) → stmt_heads_gathered calls s.Discard ≡ calls
unfolding stmt_heads_gathered heads_gathered any_heads_gathered
stmt-Discard calls = ap (putting calls) (stmt_at.at-Discard (List ℕ) (List ℕ) weights.stmt_calls_by weights.arm_calls_by) ∙ append-nil calls

pub stmt-Eval : (calls : List ℕ) (e : Expr) → stmt_heads_gathered calls (s.Eval e) ≡ heads_gathered calls e
unfolding stmt_heads_gathered heads_gathered any_heads_gathered
stmt-Eval calls e = ap (putting calls) (stmt_at.at-Eval (List ℕ) (List ℕ) weights.stmt_calls_by weights.arm_calls_by e) ∙ ap (putting calls) (append-nil (flat_map weights.calls_in (e ∷ [])) ∙ lists.flat_one weights.calls_in e)

pub stmt-Declare : (calls : List ℕ) (number : ℕ) (init : Option Expr) → stmt_heads_gathered calls (s.Declare number init) ≡ any_heads_gathered calls init
unfolding stmt_heads_gathered heads_gathered any_heads_gathered
stmt-Declare calls number init = ap (putting calls) (stmt_at.at-Declare (List ℕ) (List ℕ) weights.stmt_calls_by weights.arm_calls_by number init) ∙ ap (putting calls) (append-nil (flat_map weights.calls_in (or_nothing init)))

pub stmt-Return : (calls : List ℕ) (value : Option Expr) → stmt_heads_gathered calls (s.Return value) ≡ any_heads_gathered calls value
unfolding stmt_heads_gathered heads_gathered any_heads_gathered
stmt-Return calls value = ap (putting calls) (stmt_at.at-Return (List ℕ) (List ℕ) weights.stmt_calls_by weights.arm_calls_by value) ∙ ap (putting calls) (append-nil (flat_map weights.calls_in (or_nothing value)))

pub stmt-Group : (calls : List ℕ) (stmts : List Stmt) → stmt_heads_gathered calls (s.Group stmts) ≡ in_turn stmt_heads_gathered calls stmts
unfolding stmt_heads_gathered heads_gathered any_heads_gathered
stmt-Group calls stmts = ap (putting calls) (stmt_at.at-Group (List ℕ) (List ℕ) weights.stmt_calls_by weights.arm_calls_by stmts) ∙ ap (putting calls) (lists.flat_is weights.stmt_calls stmts) ∙ sym (all_stmts calls stmts)

pub stmt-If : (calls : List ℕ) (test : Expr) (first : Stmt) → stmt_heads_gathered calls (s.If test first None) ≡ stmt_heads_gathered (heads_gathered calls test) first
unfolding stmt_heads_gathered heads_gathered any_heads_gathered
stmt-If calls test first = ap (putting calls) (stmt_at.at-If (List ℕ) (List ℕ) weights.stmt_calls_by weights.arm_calls_by test first None) ∙ ap (λ l. calls ++ (l ++ (weights.stmt_calls first ++ []))) (lists.flat_one weights.calls_in test) ∙ lists.if_one calls (weights.calls_in test) (weights.stmt_calls first)

pub stmt-Else : (calls : List ℕ) (test : Expr) (first other : Stmt) → stmt_heads_gathered calls (s.If test first (Some other)) ≡ stmt_heads_gathered (stmt_heads_gathered (heads_gathered calls test) first) other
unfolding stmt_heads_gathered heads_gathered any_heads_gathered
stmt-Else calls test first other = ap (putting calls) (stmt_at.at-If (List ℕ) (List ℕ) weights.stmt_calls_by weights.arm_calls_by test first (Some other)) ∙ ap (λ l. calls ++ (l ++ (weights.stmt_calls first ++ weights.stmt_calls other))) (lists.flat_one weights.calls_in test) ∙ lists.if_two calls (weights.calls_in test) (weights.stmt_calls first) (weights.stmt_calls other)

pub stmt-Loop : (calls : List ℕ) (test step : Option Expr) (body : Stmt) (last : Bool) → stmt_heads_gathered calls (s.Loop test step body last) ≡ stmt_heads_gathered (any_heads_gathered (any_heads_gathered calls test) step) body
unfolding stmt_heads_gathered heads_gathered any_heads_gathered
stmt-Loop calls test step body last = ap (putting calls) (stmt_at.at-Loop (List ℕ) (List ℕ) weights.stmt_calls_by weights.arm_calls_by test step body last) ∙ ap (λ l. calls ++ (l ++ weights.stmt_calls body)) (lists.flat_both weights.calls_in (or_nothing test) (or_nothing step)) ∙ lists.loop calls (flat_map weights.calls_in (or_nothing test)) (flat_map weights.calls_in (or_nothing step)) (weights.stmt_calls body)

pub stmt-Switch : (calls : List ℕ) (e : Expr) (arms : List Arm) → stmt_heads_gathered calls (s.Switch e arms) ≡ in_turn arm_heads_gathered (heads_gathered calls e) arms
unfolding stmt_heads_gathered heads_gathered any_heads_gathered
stmt-Switch calls e arms = ap (putting calls) (stmt_at.at-Switch (List ℕ) (List ℕ) weights.stmt_calls_by weights.arm_calls_by e arms) ∙ ap (λ l. calls ++ (l ++ flat_map (λ (l : List ℕ). l) (map arm_calls arms))) (lists.flat_one weights.calls_in e) ∙ ap (λ l. calls ++ (weights.calls_in e ++ l)) (lists.flat_is arm_calls arms) ∙ sym (append_assoc calls (weights.calls_in e) (flat_map arm_calls arms)) ∙ sym (all_arms (calls ++ weights.calls_in e) arms)

pub arm_opens : (calls : List ℕ) (arm : Arm) → arm_heads_gathered calls arm ≡ in_turn stmt_heads_gathered calls (out-Arm arm).body
unfolding arm_heads_gathered
arm_opens calls arm =
    ap (putting calls) (ap arm_calls (sym (roll-out-Arm arm)) ∙ fold-roll-Arm (List ℕ) (List ℕ) weights.stmt_calls_by weights.arm_calls_by (out-Arm arm))
    ∙ ap (putting calls) (lists.flat_is weights.stmt_calls (out-Arm arm).body) ∙ sym (all_stmts calls (out-Arm arm).body)

pub ruleset stmt_step = (stmt-Empty, stmt-Break, stmt-Continue, stmt-Discard, stmt-Eval, stmt-Declare, stmt-Return, stmt-Group, stmt-If, stmt-Else, stmt-Loop, stmt-Switch)

pub calls_of_is : (f : Function) → in_turn stmt_heads_gathered [] f.body ≡ weights.calls_of f
calls_of_is f = all_stmts [] f.body
