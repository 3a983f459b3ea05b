-- Each test of expressions by their kinds, kind by kind.
use Rattle.std.proofs.Common.{◌≡◌, sym, ap, ◌∙◌, ℕ, List, Bool, map}
use Rattle.gsl_values.specs.declared.value.Value.{Value}
use Rattle.gsl_values.specs.declared.lane.Lanes.{Lanes}
use Rattle.gsl_values.specs.declared.op.UnaryOp.{UnaryOp}
use Rattle.gsl_values.specs.declared.op.BinaryOp.{BinaryOp}
use Rattle.gsl_values.specs.declared.function.Builtin.{Builtin}
use Rattle.gsl_tree.specs.declared.expr.Expr.{Expr, out-Expr}
use Rattle.gsl_tree.specs.declared.expr.LogicOp.{LogicOp}
use Rattle.gsl_tree.specs.declared.expr.StepOp.{StepOp}
use Rattle.gsl_tree.specs.declared.expr.StageVar.{StageVar}
use Rattle.gsl_tree.specs.declared.expr.ExprKind.TheVariants as kind
use Rattle.gsl_tree.specs.declared.expr.ExprKind.TheOpen.{ExprKind-F}
use Rattle.gsl_tree.specs.declared.expr.ExprKind.TheFolds.{fold-roll-Expr}
use Rattle.gsl_tree.specs.declared.expr.ExprKind.TheViews.{roll-out-Expr}
use Rattle.gsl_tree.specs.Paths.{test_of, kind_in}
use Rattle.gsl_tree.proofs.Folds as at
use Rattle.gsl_typing.specs.Uses.{tested, kind_tested}

module _ (by : ExprKind-F Bool Bool → Bool) where
  pub test_opens : (e : Expr) → tested by e ≡ kind_tested by (out-Expr e).kind
  unfolding tested kind_tested
  test_opens e = ap (test_of by) (sym (roll-out-Expr e)) ∙ fold-roll-Expr Bool Bool by kind_in (out-Expr e)

  pub test-Const : (v : Value) → kind_tested by (kind.Const v) ≡ by (ExprKind-F.Const v)
  unfolding kind_tested tested
  test-Const v = at.at-Const Bool Bool by kind_in v

  pub test-Local : (n : ℕ) → kind_tested by (kind.Local n) ≡ by (ExprKind-F.Local n)
  unfolding kind_tested tested
  test-Local n = at.at-Local Bool Bool by kind_in n

  pub test-Global : (n : ℕ) → kind_tested by (kind.Global n) ≡ by (ExprKind-F.Global n)
  unfolding kind_tested tested
  test-Global n = at.at-Global Bool Bool by kind_in n

  pub test-Param : (n : ℕ) → kind_tested by (kind.Param n) ≡ by (ExprKind-F.Param n)
  unfolding kind_tested tested
  test-Param n = at.at-Param Bool Bool by kind_in n

  pub test-BlockMember : (b : ℕ) (n : ℕ) → kind_tested by (kind.BlockMember b n) ≡ by (ExprKind-F.BlockMember b n)
  unfolding kind_tested tested
  test-BlockMember b n = at.at-BlockMember Bool Bool by kind_in b n

  pub test-Stage : (v : StageVar) → kind_tested by (kind.Stage v) ≡ by (ExprKind-F.Stage v)
  unfolding kind_tested tested
  test-Stage v = at.at-Stage Bool Bool by kind_in v

  pub test-Interface : (n : ℕ) → kind_tested by (kind.Interface n) ≡ by (ExprKind-F.Interface n)
  unfolding kind_tested tested
  test-Interface n = at.at-Interface Bool Bool by kind_in n

  pub test-Member : (a : Expr) (n : ℕ) → kind_tested by (kind.Member a n) ≡ by (ExprKind-F.Member (tested by a) n)
  unfolding kind_tested tested
  test-Member a n = at.at-Member Bool Bool by kind_in a n

  pub test-Index : (a : Expr) (i : Expr) → kind_tested by (kind.Index a i) ≡ by (ExprKind-F.Index (tested by a) (tested by i))
  unfolding kind_tested tested
  test-Index a i = at.at-Index Bool Bool by kind_in a i

  pub test-Swizzle : (a : Expr) (l : Lanes) → kind_tested by (kind.Swizzle a l) ≡ by (ExprKind-F.Swizzle (tested by a) l)
  unfolding kind_tested tested
  test-Swizzle a l = at.at-Swizzle Bool Bool by kind_in a l

  pub test-Length : (a : Expr) → kind_tested by (kind.Length a) ≡ by (ExprKind-F.Length (tested by a))
  unfolding kind_tested tested
  test-Length a = at.at-Length Bool Bool by kind_in a

  pub test-Unary : (o : UnaryOp) (a : Expr) → kind_tested by (kind.Unary o a) ≡ by (ExprKind-F.Unary o (tested by a))
  unfolding kind_tested tested
  test-Unary o a = at.at-Unary Bool Bool by kind_in o a

  pub test-Binary : (o : BinaryOp) (a : Expr) (b : Expr) → kind_tested by (kind.Binary o a b) ≡ by (ExprKind-F.Binary o (tested by a) (tested by b))
  unfolding kind_tested tested
  test-Binary o a b = at.at-Binary Bool Bool by kind_in o a b

  pub test-Logic : (o : LogicOp) (a : Expr) (b : Expr) → kind_tested by (kind.Logic o a b) ≡ by (ExprKind-F.Logic o (tested by a) (tested by b))
  unfolding kind_tested tested
  test-Logic o a b = at.at-Logic Bool Bool by kind_in o a b

  pub test-Choose : (t : Expr) (a : Expr) (b : Expr) → kind_tested by (kind.Choose t a b) ≡ by (ExprKind-F.Choose (tested by t) (tested by a) (tested by b))
  unfolding kind_tested tested
  test-Choose t a b = at.at-Choose Bool Bool by kind_in t a b

  pub test-Assign : (a : Expr) (b : Expr) → kind_tested by (kind.Assign a b) ≡ by (ExprKind-F.Assign (tested by a) (tested by b))
  unfolding kind_tested tested
  test-Assign a b = at.at-Assign Bool Bool by kind_in a b

  pub test-Update : (o : BinaryOp) (a : Expr) (b : Expr) → kind_tested by (kind.Update o a b) ≡ by (ExprKind-F.Update o (tested by a) (tested by b))
  unfolding kind_tested tested
  test-Update o a b = at.at-Update Bool Bool by kind_in o a b

  pub test-Step : (o : StepOp) (a : Expr) → kind_tested by (kind.Step o a) ≡ by (ExprKind-F.Step o (tested by a))
  unfolding kind_tested tested
  test-Step o a = at.at-Step Bool Bool by kind_in o a

  pub test-Call : (n : ℕ) (es : List Expr) → kind_tested by (kind.Call n es) ≡ by (ExprKind-F.Call n (map (tested by) es))
  unfolding kind_tested tested
  test-Call n es = at.at-Call Bool Bool by kind_in n es

  pub test-Built : (f : Builtin) (es : List Expr) → kind_tested by (kind.Built f es) ≡ by (ExprKind-F.Built f (map (tested by) es))
  unfolding kind_tested tested
  test-Built f es = at.at-Built Bool Bool by kind_in f es

  pub test-Build : (es : List Expr) → kind_tested by (kind.Build es) ≡ by (ExprKind-F.Build (map (tested by) es))
  unfolding kind_tested tested
  test-Build es = at.at-Build Bool Bool by kind_in es

  pub test-Convert : (a : Expr) → kind_tested by (kind.Convert a) ≡ by (ExprKind-F.Convert (tested by a))
  unfolding kind_tested tested
  test-Convert a = at.at-Convert Bool Bool by kind_in a

  pub test-Comma : (es : List Expr) → kind_tested by (kind.Comma es) ≡ by (ExprKind-F.Comma (map (tested by) es))
  unfolding kind_tested tested
  test-Comma es = at.at-Comma Bool Bool by kind_in es

pub ruleset tests = (test_opens, test-Const, test-Local, test-Global, test-Param, test-BlockMember, test-Stage, test-Interface, test-Member, test-Index, test-Swizzle, test-Length, test-Unary, test-Binary, test-Logic, test-Choose, test-Assign, test-Update, test-Step, test-Call, test-Built, test-Build, test-Convert, test-Comma)
