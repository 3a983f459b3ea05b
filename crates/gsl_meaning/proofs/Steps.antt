-- What an expression does, by its kind.
use Rattle.std.proofs.Common.{◌≡◌, ap, ℕ, List, map}
use Rattle.gsl_base.specs.declared.fault.Place.{Place}
use Rattle.gsl_types.specs.declared.ty.Ty.{Ty}
use Rattle.gsl_values.specs.declared.function.Builtin.{Builtin}
use Rattle.gsl_values.specs.declared.lane.Lanes.{Lanes}
use Rattle.gsl_values.specs.declared.op.BinaryOp.{BinaryOp}
use Rattle.gsl_values.specs.declared.op.UnaryOp.{UnaryOp}
use Rattle.gsl_values.specs.declared.value.Value.{Value}
use Rattle.gsl_tree.specs.declared.expr.Expr.{Expr}
use Rattle.gsl_tree.specs.declared.expr.ExprKind.{ExprKind}
use Rattle.gsl_tree.specs.declared.expr.ExprKind.TheFolds.{fold-roll-Expr}
use Rattle.gsl_tree.specs.declared.expr.ExprKind.TheOpen.{ExprKind-F}
use Rattle.gsl_tree.specs.declared.expr.ExprKind.TheVariants as kind
use Rattle.gsl_tree.specs.declared.expr.LogicOp.{LogicOp}
use Rattle.gsl_tree.specs.declared.expr.StageVar.{StageVar}
use Rattle.gsl_tree.specs.declared.expr.StepOp.{StepOp}
use Rattle.gsl_tree.specs.Trees.{typed}
use Rattle.gsl_tree.proofs.Folds as at
use Rattle.gsl_meaning.specs.State.{State}
use Rattle.gsl_meaning.specs.Expressions.{Meant, Setting, kind_means, means, means_by, typed_by}

module _ (setting : Setting) where
  abbrev m : Expr → Meant
  m = means setting

  abbrev step : ExprKind-F (Ty → Meant) Meant → Ty → Meant
  step = means_by setting

  pub opens : (place : Place) (ty : Ty) (k : ExprKind) → means setting (typed place ty k) ≡ kind_means setting k ty
  unfolding means kind_means
  opens place ty k = fold-roll-Expr (Ty → Meant) Meant step typed_by (record { ty = ty; place = place; kind = k })

  pub value_opens : (place : Place) (ty : Ty) (k : ExprKind) (state : State) (units : ℕ) → (means setting (typed place ty k)).value state units ≡ (kind_means setting k ty).value state units
  value_opens place ty k state units = ap (λ (x : Meant). x.value state units) (opens place ty k)

  pub access_opens : (place : Place) (ty : Ty) (k : ExprKind) (state : State) (units : ℕ) → (means setting (typed place ty k)).access state units ≡ (kind_means setting k ty).access state units
  access_opens place ty k state units = ap (λ (x : Meant). x.access state units) (opens place ty k)

  pub parts_opens : (place : Place) (ty : Ty) (k : ExprKind) (state : State) → (means setting (typed place ty k)).parts state ≡ (kind_means setting k ty).parts state
  parts_opens place ty k state = ap (λ (x : Meant). x.parts state) (opens place ty k)

  pub type_opens : (place : Place) (ty : Ty) (k : ExprKind) → (means setting (typed place ty k)).ty ≡ (kind_means setting k ty).ty
  type_opens place ty k = ap (λ (x : Meant). x.ty) (opens place ty k)

  pub of-Const : (v : Value) (ty : Ty) → kind_means setting (kind.Const v) ty ≡ step (ExprKind-F.Const v) ty
  unfolding means kind_means
  of-Const v ty = ap (λ f. f ty) (at.at-Const (Ty → Meant) Meant step typed_by v)

  pub value-Const : (v : Value) (ty : Ty) (state : State) (units : ℕ) → (kind_means setting (kind.Const v) ty).value state units ≡ (step (ExprKind-F.Const v) ty).value state units
  value-Const v ty state units = ap (λ (x : Meant). x.value state units) (of-Const v ty)

  pub access-Const : (v : Value) (ty : Ty) (state : State) (units : ℕ) → (kind_means setting (kind.Const v) ty).access state units ≡ (step (ExprKind-F.Const v) ty).access state units
  access-Const v ty state units = ap (λ (x : Meant). x.access state units) (of-Const v ty)

  pub type-Const : (v : Value) (ty : Ty) → (kind_means setting (kind.Const v) ty).ty ≡ (step (ExprKind-F.Const v) ty).ty
  type-Const v ty = ap (λ (x : Meant). x.ty) (of-Const v ty)

  pub of-Local : (n : ℕ) (ty : Ty) → kind_means setting (kind.Local n) ty ≡ step (ExprKind-F.Local n) ty
  unfolding means kind_means
  of-Local n ty = ap (λ f. f ty) (at.at-Local (Ty → Meant) Meant step typed_by n)

  pub value-Local : (n : ℕ) (ty : Ty) (state : State) (units : ℕ) → (kind_means setting (kind.Local n) ty).value state units ≡ (step (ExprKind-F.Local n) ty).value state units
  value-Local n ty state units = ap (λ (x : Meant). x.value state units) (of-Local n ty)

  pub access-Local : (n : ℕ) (ty : Ty) (state : State) (units : ℕ) → (kind_means setting (kind.Local n) ty).access state units ≡ (step (ExprKind-F.Local n) ty).access state units
  access-Local n ty state units = ap (λ (x : Meant). x.access state units) (of-Local n ty)

  pub type-Local : (n : ℕ) (ty : Ty) → (kind_means setting (kind.Local n) ty).ty ≡ (step (ExprKind-F.Local n) ty).ty
  type-Local n ty = ap (λ (x : Meant). x.ty) (of-Local n ty)

  pub of-Global : (n : ℕ) (ty : Ty) → kind_means setting (kind.Global n) ty ≡ step (ExprKind-F.Global n) ty
  unfolding means kind_means
  of-Global n ty = ap (λ f. f ty) (at.at-Global (Ty → Meant) Meant step typed_by n)

  pub value-Global : (n : ℕ) (ty : Ty) (state : State) (units : ℕ) → (kind_means setting (kind.Global n) ty).value state units ≡ (step (ExprKind-F.Global n) ty).value state units
  value-Global n ty state units = ap (λ (x : Meant). x.value state units) (of-Global n ty)

  pub access-Global : (n : ℕ) (ty : Ty) (state : State) (units : ℕ) → (kind_means setting (kind.Global n) ty).access state units ≡ (step (ExprKind-F.Global n) ty).access state units
  access-Global n ty state units = ap (λ (x : Meant). x.access state units) (of-Global n ty)

  pub type-Global : (n : ℕ) (ty : Ty) → (kind_means setting (kind.Global n) ty).ty ≡ (step (ExprKind-F.Global n) ty).ty
  type-Global n ty = ap (λ (x : Meant). x.ty) (of-Global n ty)

  pub of-Param : (n : ℕ) (ty : Ty) → kind_means setting (kind.Param n) ty ≡ step (ExprKind-F.Param n) ty
  unfolding means kind_means
  of-Param n ty = ap (λ f. f ty) (at.at-Param (Ty → Meant) Meant step typed_by n)

  pub value-Param : (n : ℕ) (ty : Ty) (state : State) (units : ℕ) → (kind_means setting (kind.Param n) ty).value state units ≡ (step (ExprKind-F.Param n) ty).value state units
  value-Param n ty state units = ap (λ (x : Meant). x.value state units) (of-Param n ty)

  pub access-Param : (n : ℕ) (ty : Ty) (state : State) (units : ℕ) → (kind_means setting (kind.Param n) ty).access state units ≡ (step (ExprKind-F.Param n) ty).access state units
  access-Param n ty state units = ap (λ (x : Meant). x.access state units) (of-Param n ty)

  pub type-Param : (n : ℕ) (ty : Ty) → (kind_means setting (kind.Param n) ty).ty ≡ (step (ExprKind-F.Param n) ty).ty
  type-Param n ty = ap (λ (x : Meant). x.ty) (of-Param n ty)

  pub of-BlockMember : (b n : ℕ) (ty : Ty) → kind_means setting (kind.BlockMember b n) ty ≡ step (ExprKind-F.BlockMember b n) ty
  unfolding means kind_means
  of-BlockMember b n ty = ap (λ f. f ty) (at.at-BlockMember (Ty → Meant) Meant step typed_by b n)

  pub value-BlockMember : (b n : ℕ) (ty : Ty) (state : State) (units : ℕ) → (kind_means setting (kind.BlockMember b n) ty).value state units ≡ (step (ExprKind-F.BlockMember b n) ty).value state units
  value-BlockMember b n ty state units = ap (λ (x : Meant). x.value state units) (of-BlockMember b n ty)

  pub access-BlockMember : (b n : ℕ) (ty : Ty) (state : State) (units : ℕ) → (kind_means setting (kind.BlockMember b n) ty).access state units ≡ (step (ExprKind-F.BlockMember b n) ty).access state units
  access-BlockMember b n ty state units = ap (λ (x : Meant). x.access state units) (of-BlockMember b n ty)

  pub type-BlockMember : (b n : ℕ) (ty : Ty) → (kind_means setting (kind.BlockMember b n) ty).ty ≡ (step (ExprKind-F.BlockMember b n) ty).ty
  type-BlockMember b n ty = ap (λ (x : Meant). x.ty) (of-BlockMember b n ty)

  pub of-Stage : (v : StageVar) (ty : Ty) → kind_means setting (kind.Stage v) ty ≡ step (ExprKind-F.Stage v) ty
  unfolding means kind_means
  of-Stage v ty = ap (λ f. f ty) (at.at-Stage (Ty → Meant) Meant step typed_by v)

  pub value-Stage : (v : StageVar) (ty : Ty) (state : State) (units : ℕ) → (kind_means setting (kind.Stage v) ty).value state units ≡ (step (ExprKind-F.Stage v) ty).value state units
  value-Stage v ty state units = ap (λ (x : Meant). x.value state units) (of-Stage v ty)

  pub access-Stage : (v : StageVar) (ty : Ty) (state : State) (units : ℕ) → (kind_means setting (kind.Stage v) ty).access state units ≡ (step (ExprKind-F.Stage v) ty).access state units
  access-Stage v ty state units = ap (λ (x : Meant). x.access state units) (of-Stage v ty)

  pub type-Stage : (v : StageVar) (ty : Ty) → (kind_means setting (kind.Stage v) ty).ty ≡ (step (ExprKind-F.Stage v) ty).ty
  type-Stage v ty = ap (λ (x : Meant). x.ty) (of-Stage v ty)

  pub of-Interface : (n : ℕ) (ty : Ty) → kind_means setting (kind.Interface n) ty ≡ step (ExprKind-F.Interface n) ty
  unfolding means kind_means
  of-Interface n ty = ap (λ f. f ty) (at.at-Interface (Ty → Meant) Meant step typed_by n)

  pub value-Interface : (n : ℕ) (ty : Ty) (state : State) (units : ℕ) → (kind_means setting (kind.Interface n) ty).value state units ≡ (step (ExprKind-F.Interface n) ty).value state units
  value-Interface n ty state units = ap (λ (x : Meant). x.value state units) (of-Interface n ty)

  pub access-Interface : (n : ℕ) (ty : Ty) (state : State) (units : ℕ) → (kind_means setting (kind.Interface n) ty).access state units ≡ (step (ExprKind-F.Interface n) ty).access state units
  access-Interface n ty state units = ap (λ (x : Meant). x.access state units) (of-Interface n ty)

  pub type-Interface : (n : ℕ) (ty : Ty) → (kind_means setting (kind.Interface n) ty).ty ≡ (step (ExprKind-F.Interface n) ty).ty
  type-Interface n ty = ap (λ (x : Meant). x.ty) (of-Interface n ty)

  pub of-Member : (a : Expr) (n : ℕ) (ty : Ty) → kind_means setting (kind.Member a n) ty ≡ step (ExprKind-F.Member (m a) n) ty
  unfolding means kind_means
  of-Member a n ty = ap (λ f. f ty) (at.at-Member (Ty → Meant) Meant step typed_by a n)

  pub value-Member : (a : Expr) (n : ℕ) (ty : Ty) (state : State) (units : ℕ) → (kind_means setting (kind.Member a n) ty).value state units ≡ (step (ExprKind-F.Member (m a) n) ty).value state units
  value-Member a n ty state units = ap (λ (x : Meant). x.value state units) (of-Member a n ty)

  pub access-Member : (a : Expr) (n : ℕ) (ty : Ty) (state : State) (units : ℕ) → (kind_means setting (kind.Member a n) ty).access state units ≡ (step (ExprKind-F.Member (m a) n) ty).access state units
  access-Member a n ty state units = ap (λ (x : Meant). x.access state units) (of-Member a n ty)

  pub type-Member : (a : Expr) (n : ℕ) (ty : Ty) → (kind_means setting (kind.Member a n) ty).ty ≡ (step (ExprKind-F.Member (m a) n) ty).ty
  type-Member a n ty = ap (λ (x : Meant). x.ty) (of-Member a n ty)

  pub of-Index : (a i : Expr) (ty : Ty) → kind_means setting (kind.Index a i) ty ≡ step (ExprKind-F.Index (m a) (m i)) ty
  unfolding means kind_means
  of-Index a i ty = ap (λ f. f ty) (at.at-Index (Ty → Meant) Meant step typed_by a i)

  pub value-Index : (a i : Expr) (ty : Ty) (state : State) (units : ℕ) → (kind_means setting (kind.Index a i) ty).value state units ≡ (step (ExprKind-F.Index (m a) (m i)) ty).value state units
  value-Index a i ty state units = ap (λ (x : Meant). x.value state units) (of-Index a i ty)

  pub access-Index : (a i : Expr) (ty : Ty) (state : State) (units : ℕ) → (kind_means setting (kind.Index a i) ty).access state units ≡ (step (ExprKind-F.Index (m a) (m i)) ty).access state units
  access-Index a i ty state units = ap (λ (x : Meant). x.access state units) (of-Index a i ty)

  pub type-Index : (a i : Expr) (ty : Ty) → (kind_means setting (kind.Index a i) ty).ty ≡ (step (ExprKind-F.Index (m a) (m i)) ty).ty
  type-Index a i ty = ap (λ (x : Meant). x.ty) (of-Index a i ty)

  pub of-Swizzle : (a : Expr) (l : Lanes) (ty : Ty) → kind_means setting (kind.Swizzle a l) ty ≡ step (ExprKind-F.Swizzle (m a) l) ty
  unfolding means kind_means
  of-Swizzle a l ty = ap (λ f. f ty) (at.at-Swizzle (Ty → Meant) Meant step typed_by a l)

  pub value-Swizzle : (a : Expr) (l : Lanes) (ty : Ty) (state : State) (units : ℕ) → (kind_means setting (kind.Swizzle a l) ty).value state units ≡ (step (ExprKind-F.Swizzle (m a) l) ty).value state units
  value-Swizzle a l ty state units = ap (λ (x : Meant). x.value state units) (of-Swizzle a l ty)

  pub access-Swizzle : (a : Expr) (l : Lanes) (ty : Ty) (state : State) (units : ℕ) → (kind_means setting (kind.Swizzle a l) ty).access state units ≡ (step (ExprKind-F.Swizzle (m a) l) ty).access state units
  access-Swizzle a l ty state units = ap (λ (x : Meant). x.access state units) (of-Swizzle a l ty)

  pub type-Swizzle : (a : Expr) (l : Lanes) (ty : Ty) → (kind_means setting (kind.Swizzle a l) ty).ty ≡ (step (ExprKind-F.Swizzle (m a) l) ty).ty
  type-Swizzle a l ty = ap (λ (x : Meant). x.ty) (of-Swizzle a l ty)

  pub of-Length : (a : Expr) (ty : Ty) → kind_means setting (kind.Length a) ty ≡ step (ExprKind-F.Length (m a)) ty
  unfolding means kind_means
  of-Length a ty = ap (λ f. f ty) (at.at-Length (Ty → Meant) Meant step typed_by a)

  pub value-Length : (a : Expr) (ty : Ty) (state : State) (units : ℕ) → (kind_means setting (kind.Length a) ty).value state units ≡ (step (ExprKind-F.Length (m a)) ty).value state units
  value-Length a ty state units = ap (λ (x : Meant). x.value state units) (of-Length a ty)

  pub access-Length : (a : Expr) (ty : Ty) (state : State) (units : ℕ) → (kind_means setting (kind.Length a) ty).access state units ≡ (step (ExprKind-F.Length (m a)) ty).access state units
  access-Length a ty state units = ap (λ (x : Meant). x.access state units) (of-Length a ty)

  pub type-Length : (a : Expr) (ty : Ty) → (kind_means setting (kind.Length a) ty).ty ≡ (step (ExprKind-F.Length (m a)) ty).ty
  type-Length a ty = ap (λ (x : Meant). x.ty) (of-Length a ty)

  pub of-Unary : (o : UnaryOp) (a : Expr) (ty : Ty) → kind_means setting (kind.Unary o a) ty ≡ step (ExprKind-F.Unary o (m a)) ty
  unfolding means kind_means
  of-Unary o a ty = ap (λ f. f ty) (at.at-Unary (Ty → Meant) Meant step typed_by o a)

  pub value-Unary : (o : UnaryOp) (a : Expr) (ty : Ty) (state : State) (units : ℕ) → (kind_means setting (kind.Unary o a) ty).value state units ≡ (step (ExprKind-F.Unary o (m a)) ty).value state units
  value-Unary o a ty state units = ap (λ (x : Meant). x.value state units) (of-Unary o a ty)

  pub access-Unary : (o : UnaryOp) (a : Expr) (ty : Ty) (state : State) (units : ℕ) → (kind_means setting (kind.Unary o a) ty).access state units ≡ (step (ExprKind-F.Unary o (m a)) ty).access state units
  access-Unary o a ty state units = ap (λ (x : Meant). x.access state units) (of-Unary o a ty)

  pub type-Unary : (o : UnaryOp) (a : Expr) (ty : Ty) → (kind_means setting (kind.Unary o a) ty).ty ≡ (step (ExprKind-F.Unary o (m a)) ty).ty
  type-Unary o a ty = ap (λ (x : Meant). x.ty) (of-Unary o a ty)

  pub of-Binary : (o : BinaryOp) (a b : Expr) (ty : Ty) → kind_means setting (kind.Binary o a b) ty ≡ step (ExprKind-F.Binary o (m a) (m b)) ty
  unfolding means kind_means
  of-Binary o a b ty = ap (λ f. f ty) (at.at-Binary (Ty → Meant) Meant step typed_by o a b)

  pub value-Binary : (o : BinaryOp) (a b : Expr) (ty : Ty) (state : State) (units : ℕ) → (kind_means setting (kind.Binary o a b) ty).value state units ≡ (step (ExprKind-F.Binary o (m a) (m b)) ty).value state units
  value-Binary o a b ty state units = ap (λ (x : Meant). x.value state units) (of-Binary o a b ty)

  pub access-Binary : (o : BinaryOp) (a b : Expr) (ty : Ty) (state : State) (units : ℕ) → (kind_means setting (kind.Binary o a b) ty).access state units ≡ (step (ExprKind-F.Binary o (m a) (m b)) ty).access state units
  access-Binary o a b ty state units = ap (λ (x : Meant). x.access state units) (of-Binary o a b ty)

  pub type-Binary : (o : BinaryOp) (a b : Expr) (ty : Ty) → (kind_means setting (kind.Binary o a b) ty).ty ≡ (step (ExprKind-F.Binary o (m a) (m b)) ty).ty
  type-Binary o a b ty = ap (λ (x : Meant). x.ty) (of-Binary o a b ty)

  pub of-Logic : (o : LogicOp) (a b : Expr) (ty : Ty) → kind_means setting (kind.Logic o a b) ty ≡ step (ExprKind-F.Logic o (m a) (m b)) ty
  unfolding means kind_means
  of-Logic o a b ty = ap (λ f. f ty) (at.at-Logic (Ty → Meant) Meant step typed_by o a b)

  pub value-Logic : (o : LogicOp) (a b : Expr) (ty : Ty) (state : State) (units : ℕ) → (kind_means setting (kind.Logic o a b) ty).value state units ≡ (step (ExprKind-F.Logic o (m a) (m b)) ty).value state units
  value-Logic o a b ty state units = ap (λ (x : Meant). x.value state units) (of-Logic o a b ty)

  pub access-Logic : (o : LogicOp) (a b : Expr) (ty : Ty) (state : State) (units : ℕ) → (kind_means setting (kind.Logic o a b) ty).access state units ≡ (step (ExprKind-F.Logic o (m a) (m b)) ty).access state units
  access-Logic o a b ty state units = ap (λ (x : Meant). x.access state units) (of-Logic o a b ty)

  pub type-Logic : (o : LogicOp) (a b : Expr) (ty : Ty) → (kind_means setting (kind.Logic o a b) ty).ty ≡ (step (ExprKind-F.Logic o (m a) (m b)) ty).ty
  type-Logic o a b ty = ap (λ (x : Meant). x.ty) (of-Logic o a b ty)

  pub of-Choose : (t a b : Expr) (ty : Ty) → kind_means setting (kind.Choose t a b) ty ≡ step (ExprKind-F.Choose (m t) (m a) (m b)) ty
  unfolding means kind_means
  of-Choose t a b ty = ap (λ f. f ty) (at.at-Choose (Ty → Meant) Meant step typed_by t a b)

  pub value-Choose : (t a b : Expr) (ty : Ty) (state : State) (units : ℕ) → (kind_means setting (kind.Choose t a b) ty).value state units ≡ (step (ExprKind-F.Choose (m t) (m a) (m b)) ty).value state units
  value-Choose t a b ty state units = ap (λ (x : Meant). x.value state units) (of-Choose t a b ty)

  pub access-Choose : (t a b : Expr) (ty : Ty) (state : State) (units : ℕ) → (kind_means setting (kind.Choose t a b) ty).access state units ≡ (step (ExprKind-F.Choose (m t) (m a) (m b)) ty).access state units
  access-Choose t a b ty state units = ap (λ (x : Meant). x.access state units) (of-Choose t a b ty)

  pub type-Choose : (t a b : Expr) (ty : Ty) → (kind_means setting (kind.Choose t a b) ty).ty ≡ (step (ExprKind-F.Choose (m t) (m a) (m b)) ty).ty
  type-Choose t a b ty = ap (λ (x : Meant). x.ty) (of-Choose t a b ty)

  pub of-Assign : (a b : Expr) (ty : Ty) → kind_means setting (kind.Assign a b) ty ≡ step (ExprKind-F.Assign (m a) (m b)) ty
  unfolding means kind_means
  of-Assign a b ty = ap (λ f. f ty) (at.at-Assign (Ty → Meant) Meant step typed_by a b)

  pub value-Assign : (a b : Expr) (ty : Ty) (state : State) (units : ℕ) → (kind_means setting (kind.Assign a b) ty).value state units ≡ (step (ExprKind-F.Assign (m a) (m b)) ty).value state units
  value-Assign a b ty state units = ap (λ (x : Meant). x.value state units) (of-Assign a b ty)

  pub access-Assign : (a b : Expr) (ty : Ty) (state : State) (units : ℕ) → (kind_means setting (kind.Assign a b) ty).access state units ≡ (step (ExprKind-F.Assign (m a) (m b)) ty).access state units
  access-Assign a b ty state units = ap (λ (x : Meant). x.access state units) (of-Assign a b ty)

  pub type-Assign : (a b : Expr) (ty : Ty) → (kind_means setting (kind.Assign a b) ty).ty ≡ (step (ExprKind-F.Assign (m a) (m b)) ty).ty
  type-Assign a b ty = ap (λ (x : Meant). x.ty) (of-Assign a b ty)

  pub of-Update : (o : BinaryOp) (a b : Expr) (ty : Ty) → kind_means setting (kind.Update o a b) ty ≡ step (ExprKind-F.Update o (m a) (m b)) ty
  unfolding means kind_means
  of-Update o a b ty = ap (λ f. f ty) (at.at-Update (Ty → Meant) Meant step typed_by o a b)

  pub value-Update : (o : BinaryOp) (a b : Expr) (ty : Ty) (state : State) (units : ℕ) → (kind_means setting (kind.Update o a b) ty).value state units ≡ (step (ExprKind-F.Update o (m a) (m b)) ty).value state units
  value-Update o a b ty state units = ap (λ (x : Meant). x.value state units) (of-Update o a b ty)

  pub access-Update : (o : BinaryOp) (a b : Expr) (ty : Ty) (state : State) (units : ℕ) → (kind_means setting (kind.Update o a b) ty).access state units ≡ (step (ExprKind-F.Update o (m a) (m b)) ty).access state units
  access-Update o a b ty state units = ap (λ (x : Meant). x.access state units) (of-Update o a b ty)

  pub type-Update : (o : BinaryOp) (a b : Expr) (ty : Ty) → (kind_means setting (kind.Update o a b) ty).ty ≡ (step (ExprKind-F.Update o (m a) (m b)) ty).ty
  type-Update o a b ty = ap (λ (x : Meant). x.ty) (of-Update o a b ty)

  pub of-Step : (o : StepOp) (a : Expr) (ty : Ty) → kind_means setting (kind.Step o a) ty ≡ step (ExprKind-F.Step o (m a)) ty
  unfolding means kind_means
  of-Step o a ty = ap (λ f. f ty) (at.at-Step (Ty → Meant) Meant step typed_by o a)

  pub value-Step : (o : StepOp) (a : Expr) (ty : Ty) (state : State) (units : ℕ) → (kind_means setting (kind.Step o a) ty).value state units ≡ (step (ExprKind-F.Step o (m a)) ty).value state units
  value-Step o a ty state units = ap (λ (x : Meant). x.value state units) (of-Step o a ty)

  pub access-Step : (o : StepOp) (a : Expr) (ty : Ty) (state : State) (units : ℕ) → (kind_means setting (kind.Step o a) ty).access state units ≡ (step (ExprKind-F.Step o (m a)) ty).access state units
  access-Step o a ty state units = ap (λ (x : Meant). x.access state units) (of-Step o a ty)

  pub type-Step : (o : StepOp) (a : Expr) (ty : Ty) → (kind_means setting (kind.Step o a) ty).ty ≡ (step (ExprKind-F.Step o (m a)) ty).ty
  type-Step o a ty = ap (λ (x : Meant). x.ty) (of-Step o a ty)

  pub of-Call : (n : ℕ) (es : List Expr) (ty : Ty) → kind_means setting (kind.Call n es) ty ≡ step (ExprKind-F.Call n (map m es)) ty
  unfolding means kind_means
  of-Call n es ty = ap (λ f. f ty) (at.at-Call (Ty → Meant) Meant step typed_by n es)

  pub value-Call : (n : ℕ) (es : List Expr) (ty : Ty) (state : State) (units : ℕ) → (kind_means setting (kind.Call n es) ty).value state units ≡ (step (ExprKind-F.Call n (map m es)) ty).value state units
  value-Call n es ty state units = ap (λ (x : Meant). x.value state units) (of-Call n es ty)

  pub access-Call : (n : ℕ) (es : List Expr) (ty : Ty) (state : State) (units : ℕ) → (kind_means setting (kind.Call n es) ty).access state units ≡ (step (ExprKind-F.Call n (map m es)) ty).access state units
  access-Call n es ty state units = ap (λ (x : Meant). x.access state units) (of-Call n es ty)

  pub type-Call : (n : ℕ) (es : List Expr) (ty : Ty) → (kind_means setting (kind.Call n es) ty).ty ≡ (step (ExprKind-F.Call n (map m es)) ty).ty
  type-Call n es ty = ap (λ (x : Meant). x.ty) (of-Call n es ty)

  pub of-Built : (f : Builtin) (es : List Expr) (ty : Ty) → kind_means setting (kind.Built f es) ty ≡ step (ExprKind-F.Built f (map m es)) ty
  unfolding means kind_means
  of-Built f es ty = ap (λ f. f ty) (at.at-Built (Ty → Meant) Meant step typed_by f es)

  pub value-Built : (f : Builtin) (es : List Expr) (ty : Ty) (state : State) (units : ℕ) → (kind_means setting (kind.Built f es) ty).value state units ≡ (step (ExprKind-F.Built f (map m es)) ty).value state units
  value-Built f es ty state units = ap (λ (x : Meant). x.value state units) (of-Built f es ty)

  pub access-Built : (f : Builtin) (es : List Expr) (ty : Ty) (state : State) (units : ℕ) → (kind_means setting (kind.Built f es) ty).access state units ≡ (step (ExprKind-F.Built f (map m es)) ty).access state units
  access-Built f es ty state units = ap (λ (x : Meant). x.access state units) (of-Built f es ty)

  pub type-Built : (f : Builtin) (es : List Expr) (ty : Ty) → (kind_means setting (kind.Built f es) ty).ty ≡ (step (ExprKind-F.Built f (map m es)) ty).ty
  type-Built f es ty = ap (λ (x : Meant). x.ty) (of-Built f es ty)

  pub of-Build : (es : List Expr) (ty : Ty) → kind_means setting (kind.Build es) ty ≡ step (ExprKind-F.Build (map m es)) ty
  unfolding means kind_means
  of-Build es ty = ap (λ f. f ty) (at.at-Build (Ty → Meant) Meant step typed_by es)

  pub value-Build : (es : List Expr) (ty : Ty) (state : State) (units : ℕ) → (kind_means setting (kind.Build es) ty).value state units ≡ (step (ExprKind-F.Build (map m es)) ty).value state units
  value-Build es ty state units = ap (λ (x : Meant). x.value state units) (of-Build es ty)

  pub access-Build : (es : List Expr) (ty : Ty) (state : State) (units : ℕ) → (kind_means setting (kind.Build es) ty).access state units ≡ (step (ExprKind-F.Build (map m es)) ty).access state units
  access-Build es ty state units = ap (λ (x : Meant). x.access state units) (of-Build es ty)

  pub type-Build : (es : List Expr) (ty : Ty) → (kind_means setting (kind.Build es) ty).ty ≡ (step (ExprKind-F.Build (map m es)) ty).ty
  type-Build es ty = ap (λ (x : Meant). x.ty) (of-Build es ty)

  pub of-Convert : (a : Expr) (ty : Ty) → kind_means setting (kind.Convert a) ty ≡ step (ExprKind-F.Convert (m a)) ty
  unfolding means kind_means
  of-Convert a ty = ap (λ f. f ty) (at.at-Convert (Ty → Meant) Meant step typed_by a)

  pub value-Convert : (a : Expr) (ty : Ty) (state : State) (units : ℕ) → (kind_means setting (kind.Convert a) ty).value state units ≡ (step (ExprKind-F.Convert (m a)) ty).value state units
  value-Convert a ty state units = ap (λ (x : Meant). x.value state units) (of-Convert a ty)

  pub access-Convert : (a : Expr) (ty : Ty) (state : State) (units : ℕ) → (kind_means setting (kind.Convert a) ty).access state units ≡ (step (ExprKind-F.Convert (m a)) ty).access state units
  access-Convert a ty state units = ap (λ (x : Meant). x.access state units) (of-Convert a ty)

  pub type-Convert : (a : Expr) (ty : Ty) → (kind_means setting (kind.Convert a) ty).ty ≡ (step (ExprKind-F.Convert (m a)) ty).ty
  type-Convert a ty = ap (λ (x : Meant). x.ty) (of-Convert a ty)

  pub of-Comma : (es : List Expr) (ty : Ty) → kind_means setting (kind.Comma es) ty ≡ step (ExprKind-F.Comma (map m es)) ty
  unfolding means kind_means
  of-Comma es ty = ap (λ f. f ty) (at.at-Comma (Ty → Meant) Meant step typed_by es)

  pub value-Comma : (es : List Expr) (ty : Ty) (state : State) (units : ℕ) → (kind_means setting (kind.Comma es) ty).value state units ≡ (step (ExprKind-F.Comma (map m es)) ty).value state units
  value-Comma es ty state units = ap (λ (x : Meant). x.value state units) (of-Comma es ty)

  pub access-Comma : (es : List Expr) (ty : Ty) (state : State) (units : ℕ) → (kind_means setting (kind.Comma es) ty).access state units ≡ (step (ExprKind-F.Comma (map m es)) ty).access state units
  access-Comma es ty state units = ap (λ (x : Meant). x.access state units) (of-Comma es ty)

  pub type-Comma : (es : List Expr) (ty : Ty) → (kind_means setting (kind.Comma es) ty).ty ≡ (step (ExprKind-F.Comma (map m es)) ty).ty
  type-Comma es ty = ap (λ (x : Meant). x.ty) (of-Comma es ty)

  pub parts-BlockMember : (b n : ℕ) (ty : Ty) (state : State) → (kind_means setting (kind.BlockMember b n) ty).parts state ≡ (step (ExprKind-F.BlockMember b n) ty).parts state
  parts-BlockMember b n ty state = ap (λ (x : Meant). x.parts state) (of-BlockMember b n ty)

pub ruleset value_step = (value_opens, access_opens, parts_opens, type_opens, parts-BlockMember, value-Const, access-Const, type-Const, value-Local, access-Local, type-Local, value-Global, access-Global, type-Global, value-Param, access-Param, type-Param, value-BlockMember, access-BlockMember, type-BlockMember, value-Stage, access-Stage, type-Stage, value-Interface, access-Interface, type-Interface, value-Member, access-Member, type-Member, value-Index, access-Index, type-Index, value-Swizzle, access-Swizzle, type-Swizzle, value-Length, access-Length, type-Length, value-Unary, access-Unary, type-Unary, value-Binary, access-Binary, type-Binary, value-Logic, access-Logic, type-Logic, value-Choose, access-Choose, type-Choose, value-Assign, access-Assign, type-Assign, value-Update, access-Update, type-Update, value-Step, access-Step, type-Step, value-Call, access-Call, type-Call, value-Built, access-Built, type-Built, value-Build, access-Build, type-Build, value-Convert, access-Convert, type-Convert, value-Comma, access-Comma, type-Comma)
