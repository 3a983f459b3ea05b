-- Each fold over typed expressions, by the kind of the expression.
use Rattle.std.proofs.Common.{◌≡◌, sym, ap, ◌∙◌, ℕ, List, map}
use Rattle.gsl_values.specs.declared.value.Value.{Value}
use Rattle.gsl_values.specs.declared.lane.Lanes.{Lanes}
use Rattle.gsl_values.specs.declared.op.UnaryOp.{UnaryOp}
use Rattle.gsl_values.specs.declared.op.BinaryOp.{BinaryOp}
use Rattle.gsl_values.specs.declared.function.Builtin.{Builtin}
use Rattle.gsl_tree.specs.declared.expr.Expr.{Expr}
use Rattle.gsl_tree.specs.declared.expr.LogicOp.{LogicOp}
use Rattle.gsl_tree.specs.declared.expr.StepOp.{StepOp}
use Rattle.gsl_tree.specs.declared.expr.StageVar.{StageVar}
use Rattle.gsl_tree.specs.declared.expr.ExprKind.TheVariants as kind
use Rattle.gsl_tree.specs.declared.expr.ExprKind.TheVariants.{rolls-Const, rolls-Local, rolls-Global, rolls-Param, rolls-BlockMember, rolls-Stage, rolls-Interface, rolls-Member, rolls-Index, rolls-Swizzle, rolls-Length, rolls-Unary, rolls-Binary, rolls-Logic, rolls-Choose, rolls-Assign, rolls-Update, rolls-Step, rolls-Call, rolls-Built, rolls-Build, rolls-Convert, rolls-Comma}
use Rattle.gsl_tree.specs.declared.expr.ExprKind.TheOpen.{ExprKind-F, Expr-F}
use Rattle.gsl_tree.specs.declared.expr.ExprKind.TheFolds.{fold-Expr, fold-ExprKind, fold-roll-ExprKind}

module _ (A A' : Type 0) (step : ExprKind-F A A' → A) (step' : Expr-F A A' → A') where
  abbrev into : Expr → A'
  into = fold-Expr A A' step step'

  pub at-Const : (v : Value) → fold-ExprKind A A' step step' (kind.Const v) ≡ step (ExprKind-F.Const v)
  at-Const v = ap (fold-ExprKind A A' step step') (sym (rolls-Const v)) ∙ fold-roll-ExprKind A A' step step' (ExprKind-F.Const v)

  pub at-Local : (n : ℕ) → fold-ExprKind A A' step step' (kind.Local n) ≡ step (ExprKind-F.Local n)
  at-Local n = ap (fold-ExprKind A A' step step') (sym (rolls-Local n)) ∙ fold-roll-ExprKind A A' step step' (ExprKind-F.Local n)

  pub at-Global : (n : ℕ) → fold-ExprKind A A' step step' (kind.Global n) ≡ step (ExprKind-F.Global n)
  at-Global n = ap (fold-ExprKind A A' step step') (sym (rolls-Global n)) ∙ fold-roll-ExprKind A A' step step' (ExprKind-F.Global n)

  pub at-Param : (n : ℕ) → fold-ExprKind A A' step step' (kind.Param n) ≡ step (ExprKind-F.Param n)
  at-Param n = ap (fold-ExprKind A A' step step') (sym (rolls-Param n)) ∙ fold-roll-ExprKind A A' step step' (ExprKind-F.Param n)

  pub at-BlockMember : (b : ℕ) (n : ℕ) → fold-ExprKind A A' step step' (kind.BlockMember b n) ≡ step (ExprKind-F.BlockMember b n)
  at-BlockMember b n = ap (fold-ExprKind A A' step step') (sym (rolls-BlockMember b n)) ∙ fold-roll-ExprKind A A' step step' (ExprKind-F.BlockMember b n)

  pub at-Stage : (v : StageVar) → fold-ExprKind A A' step step' (kind.Stage v) ≡ step (ExprKind-F.Stage v)
  at-Stage v = ap (fold-ExprKind A A' step step') (sym (rolls-Stage v)) ∙ fold-roll-ExprKind A A' step step' (ExprKind-F.Stage v)

  pub at-Interface : (n : ℕ) → fold-ExprKind A A' step step' (kind.Interface n) ≡ step (ExprKind-F.Interface n)
  at-Interface n = ap (fold-ExprKind A A' step step') (sym (rolls-Interface n)) ∙ fold-roll-ExprKind A A' step step' (ExprKind-F.Interface n)

  pub at-Member : (a : Expr) (n : ℕ) → fold-ExprKind A A' step step' (kind.Member a n) ≡ step (ExprKind-F.Member (into a) n)
  at-Member a n = ap (fold-ExprKind A A' step step') (sym (rolls-Member a n)) ∙ fold-roll-ExprKind A A' step step' (ExprKind-F.Member a n)

  pub at-Index : (a : Expr) (i : Expr) → fold-ExprKind A A' step step' (kind.Index a i) ≡ step (ExprKind-F.Index (into a) (into i))
  at-Index a i = ap (fold-ExprKind A A' step step') (sym (rolls-Index a i)) ∙ fold-roll-ExprKind A A' step step' (ExprKind-F.Index a i)

  pub at-Swizzle : (a : Expr) (l : Lanes) → fold-ExprKind A A' step step' (kind.Swizzle a l) ≡ step (ExprKind-F.Swizzle (into a) l)
  at-Swizzle a l = ap (fold-ExprKind A A' step step') (sym (rolls-Swizzle a l)) ∙ fold-roll-ExprKind A A' step step' (ExprKind-F.Swizzle a l)

  pub at-Length : (a : Expr) → fold-ExprKind A A' step step' (kind.Length a) ≡ step (ExprKind-F.Length (into a))
  at-Length a = ap (fold-ExprKind A A' step step') (sym (rolls-Length a)) ∙ fold-roll-ExprKind A A' step step' (ExprKind-F.Length a)

  pub at-Unary : (o : UnaryOp) (a : Expr) → fold-ExprKind A A' step step' (kind.Unary o a) ≡ step (ExprKind-F.Unary o (into a))
  at-Unary o a = ap (fold-ExprKind A A' step step') (sym (rolls-Unary o a)) ∙ fold-roll-ExprKind A A' step step' (ExprKind-F.Unary o a)

  pub at-Binary : (o : BinaryOp) (a : Expr) (b : Expr) → fold-ExprKind A A' step step' (kind.Binary o a b) ≡ step (ExprKind-F.Binary o (into a) (into b))
  at-Binary o a b = ap (fold-ExprKind A A' step step') (sym (rolls-Binary o a b)) ∙ fold-roll-ExprKind A A' step step' (ExprKind-F.Binary o a b)

  pub at-Logic : (o : LogicOp) (a : Expr) (b : Expr) → fold-ExprKind A A' step step' (kind.Logic o a b) ≡ step (ExprKind-F.Logic o (into a) (into b))
  at-Logic o a b = ap (fold-ExprKind A A' step step') (sym (rolls-Logic o a b)) ∙ fold-roll-ExprKind A A' step step' (ExprKind-F.Logic o a b)

  pub at-Choose : (t : Expr) (a : Expr) (b : Expr) → fold-ExprKind A A' step step' (kind.Choose t a b) ≡ step (ExprKind-F.Choose (into t) (into a) (into b))
  at-Choose t a b = ap (fold-ExprKind A A' step step') (sym (rolls-Choose t a b)) ∙ fold-roll-ExprKind A A' step step' (ExprKind-F.Choose t a b)

  pub at-Assign : (a : Expr) (b : Expr) → fold-ExprKind A A' step step' (kind.Assign a b) ≡ step (ExprKind-F.Assign (into a) (into b))
  at-Assign a b = ap (fold-ExprKind A A' step step') (sym (rolls-Assign a b)) ∙ fold-roll-ExprKind A A' step step' (ExprKind-F.Assign a b)

  pub at-Update : (o : BinaryOp) (a : Expr) (b : Expr) → fold-ExprKind A A' step step' (kind.Update o a b) ≡ step (ExprKind-F.Update o (into a) (into b))
  at-Update o a b = ap (fold-ExprKind A A' step step') (sym (rolls-Update o a b)) ∙ fold-roll-ExprKind A A' step step' (ExprKind-F.Update o a b)

  pub at-Step : (o : StepOp) (a : Expr) → fold-ExprKind A A' step step' (kind.Step o a) ≡ step (ExprKind-F.Step o (into a))
  at-Step o a = ap (fold-ExprKind A A' step step') (sym (rolls-Step o a)) ∙ fold-roll-ExprKind A A' step step' (ExprKind-F.Step o a)

  pub at-Call : (n : ℕ) (es : List Expr) → fold-ExprKind A A' step step' (kind.Call n es) ≡ step (ExprKind-F.Call n (map into es))
  at-Call n es = ap (fold-ExprKind A A' step step') (sym (rolls-Call n es)) ∙ fold-roll-ExprKind A A' step step' (ExprKind-F.Call n es)

  pub at-Built : (f : Builtin) (es : List Expr) → fold-ExprKind A A' step step' (kind.Built f es) ≡ step (ExprKind-F.Built f (map into es))
  at-Built f es = ap (fold-ExprKind A A' step step') (sym (rolls-Built f es)) ∙ fold-roll-ExprKind A A' step step' (ExprKind-F.Built f es)

  pub at-Build : (es : List Expr) → fold-ExprKind A A' step step' (kind.Build es) ≡ step (ExprKind-F.Build (map into es))
  at-Build es = ap (fold-ExprKind A A' step step') (sym (rolls-Build es)) ∙ fold-roll-ExprKind A A' step step' (ExprKind-F.Build es)

  pub at-Convert : (a : Expr) → fold-ExprKind A A' step step' (kind.Convert a) ≡ step (ExprKind-F.Convert (into a))
  at-Convert a = ap (fold-ExprKind A A' step step') (sym (rolls-Convert a)) ∙ fold-roll-ExprKind A A' step step' (ExprKind-F.Convert a)

  pub at-Comma : (es : List Expr) → fold-ExprKind A A' step step' (kind.Comma es) ≡ step (ExprKind-F.Comma (map into es))
  at-Comma es = ap (fold-ExprKind A A' step step') (sym (rolls-Comma es)) ∙ fold-roll-ExprKind A A' step step' (ExprKind-F.Comma es)

pub ruleset folds = (at-Const, at-Local, at-Global, at-Param, at-BlockMember, at-Stage, at-Interface, at-Member, at-Index, at-Swizzle, at-Length, at-Unary, at-Binary, at-Logic, at-Choose, at-Assign, at-Update, at-Step, at-Call, at-Built, at-Build, at-Convert, at-Comma)
