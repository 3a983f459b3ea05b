-- What is counted of an expression, from what is counted of its parts.
use Rattle.std.proofs.Common.{◌≡◌, sym, ap, ◌∙◌, ℕ, ◌+◌, Bool, true, false, ◌&&◌, List, [], ◌∷◌, map, arith, if◌then◌else◌}
use Rattle.gsl_types.specs.declared.ty.Ty.{Ty}
use Rattle.gsl_types.specs.declared.ty.StructType.{StructType}
use Rattle.gsl_types.specs.Leaves.{told_leaves}
use Rattle.gsl_values.specs.declared.value.Value.{Value}
use Rattle.gsl_values.specs.declared.lane.Lanes.{Lanes}
use Rattle.gsl_values.specs.declared.op.UnaryOp.{UnaryOp}
use Rattle.gsl_values.specs.declared.op.BinaryOp.{BinaryOp}
use Rattle.gsl_values.specs.declared.function.Builtin.{Builtin}
use Rattle.gsl_tree.specs.declared.expr.Expr.{Expr, out-Expr}
use Rattle.gsl_tree.specs.declared.expr.ExprKind.{ExprKind}
use Rattle.gsl_tree.specs.declared.expr.LogicOp.{LogicOp}
use Rattle.gsl_tree.specs.declared.expr.StepOp.{StepOp}
use Rattle.gsl_tree.specs.declared.expr.StageVar.{StageVar}
use Rattle.gsl_tree.specs.declared.expr.ExprKind.TheVariants as kind
use Rattle.gsl_tree.specs.declared.expr.ExprKind.TheFolds.{fold-ExprKind, fold-roll-Expr}
use Rattle.gsl_tree.specs.declared.expr.ExprKind.TheViews.{roll-out-Expr}
use Rattle.gsl_tree.specs.Shapes.{is_equality}
use Rattle.gsl_tree.specs.Paths.{is_aggregate}
use Rattle.gsl_tree.specs.Trees.{type_of, place_of}
use Rattle.gsl_tree.specs.Weights.{Weighed, weigh, weigh_kind, weigh_by, weights, copied, all_copied, read_weight, read_weights}
use Rattle.gsl_tree.proofs.Folds as at
use Rattle.gsl_weights.specs.Telling.{up_to, in_turn}
use Rattle.gsl_weights.specs.Weighing.{in_block, kind_in_block, copied_leaves, weighed, kind_weighed, read_weighed}

module _ (structs : List StructType) where
  abbrev into : Expr → Weighed
  into = weigh structs

  abbrev of_kind : ExprKind → Bool × ℕ
  of_kind = fold-ExprKind (Bool × ℕ) Weighed (weigh_kind structs) weigh_by

  opened : (e : Expr) → into e ≡ weigh_by (record { ty = type_of e; place = place_of e; kind = of_kind (out-Expr e).kind })
  opened e = ap into (sym (roll-out-Expr e)) ∙ fold-roll-Expr (Bool × ℕ) Weighed (weigh_kind structs) weigh_by (out-Expr e)

  weigh_type : (e : Expr) → (into e).ty ≡ type_of e
  weigh_type e = ap (λ (w : Weighed). w.ty) (opened e)

  pub leads_opens : (e : Expr) → in_block structs e ≡ kind_in_block structs (out-Expr e).kind
  unfolding in_block kind_in_block
  leads_opens e = ap (λ (w : Weighed). w.in_block) (opened e)

  pub copied_opens : (e : Expr) → copied_leaves structs e ≡ (if in_block structs e && is_aggregate (type_of e) then told_leaves structs (type_of e) else 0)
  unfolding copied_leaves in_block
  copied_opens e = ap (λ t. if (into e).in_block && is_aggregate t then told_leaves structs t else 0) (weigh_type e)

  pub weigh_opens : (n : ℕ) (e : Expr) → weighed structs n e ≡ kind_weighed structs (up_to (n + 1)) (out-Expr e).kind
  unfolding weighed kind_weighed
  weigh_opens n e = ap (λ (w : Weighed). up_to (n + w.weight)) (opened e) ∙ omega arith

  pub read_opens : (n : ℕ) (e : Expr) → read_weighed structs n e ≡ up_to (weighed structs n e + up_to (copied_leaves structs e))
  unfolding weighed read_weighed copied_leaves
  read_opens n e = omega arith

  -- an initialiser: what it reads, and the leaves of its variable
  pub read_is : (n : ℕ) (e : Expr) (read : ℕ) (ty : Ty) (leaves : ℕ) → read ≡ read_weighed structs n e → leaves ≡ up_to (told_leaves structs ty) → up_to (read + leaves) ≡ up_to (n + (read_weight structs e + told_leaves structs ty))
  unfolding read_weighed
  read_is n e read ty leaves is told = ap up_to (ap (λ r. r + leaves) is ∙ ap (λ l. read_weighed structs n e + l) told) ∙ omega arith

  -- items that are read
  reads_are : (es : List Expr) → weights (map into es) + all_copied structs (map into es) ≡ read_weights structs es
  reads_are [] = omega arith
  reads_are (e ∷ es) = omega (arith, reads_are es)

  all_reads : (n : ℕ) (es : List Expr) → up_to (in_turn (read_weighed structs) n es) ≡ up_to (n + read_weights structs es)
  unfolding read_weighed
  all_reads n [] = omega arith
  all_reads n (e ∷ es) = all_reads (read_weighed structs n e) es ∙ omega arith

  all_of : (n : ℕ) (es : List Expr) → up_to (n + (weights (map into es) + all_copied structs (map into es) + 0)) ≡ up_to (in_turn (read_weighed structs) n es + 0)
  all_of n es = omega (arith, reads_are es, all_reads n es)

  pub leads-Const : (v : Value) → kind_in_block structs (kind.Const v) ≡ false
  unfolding kind_in_block in_block
  leads-Const v = ap (λ (p : Bool × ℕ). p.0) (at.at-Const (Bool × ℕ) Weighed (weigh_kind structs) weigh_by v)

  pub leads-Local : (n : ℕ) → kind_in_block structs (kind.Local n) ≡ false
  unfolding kind_in_block in_block
  leads-Local n = ap (λ (p : Bool × ℕ). p.0) (at.at-Local (Bool × ℕ) Weighed (weigh_kind structs) weigh_by n)

  pub leads-Global : (n : ℕ) → kind_in_block structs (kind.Global n) ≡ false
  unfolding kind_in_block in_block
  leads-Global n = ap (λ (p : Bool × ℕ). p.0) (at.at-Global (Bool × ℕ) Weighed (weigh_kind structs) weigh_by n)

  pub leads-Param : (n : ℕ) → kind_in_block structs (kind.Param n) ≡ false
  unfolding kind_in_block in_block
  leads-Param n = ap (λ (p : Bool × ℕ). p.0) (at.at-Param (Bool × ℕ) Weighed (weigh_kind structs) weigh_by n)

  pub leads-BlockMember : (b : ℕ) (n : ℕ) → kind_in_block structs (kind.BlockMember b n) ≡ true
  unfolding kind_in_block in_block
  leads-BlockMember b n = ap (λ (p : Bool × ℕ). p.0) (at.at-BlockMember (Bool × ℕ) Weighed (weigh_kind structs) weigh_by b n)

  pub leads-Stage : (v : StageVar) → kind_in_block structs (kind.Stage v) ≡ false
  unfolding kind_in_block in_block
  leads-Stage v = ap (λ (p : Bool × ℕ). p.0) (at.at-Stage (Bool × ℕ) Weighed (weigh_kind structs) weigh_by v)

  pub leads-Interface : (n : ℕ) → kind_in_block structs (kind.Interface n) ≡ false
  unfolding kind_in_block in_block
  leads-Interface n = ap (λ (p : Bool × ℕ). p.0) (at.at-Interface (Bool × ℕ) Weighed (weigh_kind structs) weigh_by n)

  pub leads-Member : (a : Expr) (n : ℕ) → kind_in_block structs (kind.Member a n) ≡ in_block structs a
  unfolding kind_in_block in_block
  leads-Member a n = ap (λ (p : Bool × ℕ). p.0) (at.at-Member (Bool × ℕ) Weighed (weigh_kind structs) weigh_by a n)

  pub leads-Index : (a : Expr) (i : Expr) → kind_in_block structs (kind.Index a i) ≡ in_block structs a
  unfolding kind_in_block in_block
  leads-Index a i = ap (λ (p : Bool × ℕ). p.0) (at.at-Index (Bool × ℕ) Weighed (weigh_kind structs) weigh_by a i)

  pub leads-Swizzle : (a : Expr) (l : Lanes) → kind_in_block structs (kind.Swizzle a l) ≡ in_block structs a
  unfolding kind_in_block in_block
  leads-Swizzle a l = ap (λ (p : Bool × ℕ). p.0) (at.at-Swizzle (Bool × ℕ) Weighed (weigh_kind structs) weigh_by a l)

  pub leads-Length : (a : Expr) → kind_in_block structs (kind.Length a) ≡ false
  unfolding kind_in_block in_block
  leads-Length a = ap (λ (p : Bool × ℕ). p.0) (at.at-Length (Bool × ℕ) Weighed (weigh_kind structs) weigh_by a)

  pub leads-Unary : (o : UnaryOp) (a : Expr) → kind_in_block structs (kind.Unary o a) ≡ false
  unfolding kind_in_block in_block
  leads-Unary o a = ap (λ (p : Bool × ℕ). p.0) (at.at-Unary (Bool × ℕ) Weighed (weigh_kind structs) weigh_by o a)

  pub leads-Binary : (o : BinaryOp) (a : Expr) (b : Expr) → kind_in_block structs (kind.Binary o a b) ≡ false
  unfolding kind_in_block in_block
  leads-Binary o a b = ap (λ (p : Bool × ℕ). p.0) (at.at-Binary (Bool × ℕ) Weighed (weigh_kind structs) weigh_by o a b)

  pub leads-Logic : (o : LogicOp) (a : Expr) (b : Expr) → kind_in_block structs (kind.Logic o a b) ≡ false
  unfolding kind_in_block in_block
  leads-Logic o a b = ap (λ (p : Bool × ℕ). p.0) (at.at-Logic (Bool × ℕ) Weighed (weigh_kind structs) weigh_by o a b)

  pub leads-Choose : (t : Expr) (a : Expr) (b : Expr) → kind_in_block structs (kind.Choose t a b) ≡ false
  unfolding kind_in_block in_block
  leads-Choose t a b = ap (λ (p : Bool × ℕ). p.0) (at.at-Choose (Bool × ℕ) Weighed (weigh_kind structs) weigh_by t a b)

  pub leads-Assign : (a : Expr) (b : Expr) → kind_in_block structs (kind.Assign a b) ≡ false
  unfolding kind_in_block in_block
  leads-Assign a b = ap (λ (p : Bool × ℕ). p.0) (at.at-Assign (Bool × ℕ) Weighed (weigh_kind structs) weigh_by a b)

  pub leads-Update : (o : BinaryOp) (a : Expr) (b : Expr) → kind_in_block structs (kind.Update o a b) ≡ false
  unfolding kind_in_block in_block
  leads-Update o a b = ap (λ (p : Bool × ℕ). p.0) (at.at-Update (Bool × ℕ) Weighed (weigh_kind structs) weigh_by o a b)

  pub leads-Step : (o : StepOp) (a : Expr) → kind_in_block structs (kind.Step o a) ≡ false
  unfolding kind_in_block in_block
  leads-Step o a = ap (λ (p : Bool × ℕ). p.0) (at.at-Step (Bool × ℕ) Weighed (weigh_kind structs) weigh_by o a)

  pub leads-Call : (n : ℕ) (es : List Expr) → kind_in_block structs (kind.Call n es) ≡ false
  unfolding kind_in_block in_block
  leads-Call n es = ap (λ (p : Bool × ℕ). p.0) (at.at-Call (Bool × ℕ) Weighed (weigh_kind structs) weigh_by n es)

  pub leads-Built : (f : Builtin) (es : List Expr) → kind_in_block structs (kind.Built f es) ≡ false
  unfolding kind_in_block in_block
  leads-Built f es = ap (λ (p : Bool × ℕ). p.0) (at.at-Built (Bool × ℕ) Weighed (weigh_kind structs) weigh_by f es)

  pub leads-Build : (es : List Expr) → kind_in_block structs (kind.Build es) ≡ false
  unfolding kind_in_block in_block
  leads-Build es = ap (λ (p : Bool × ℕ). p.0) (at.at-Build (Bool × ℕ) Weighed (weigh_kind structs) weigh_by es)

  pub leads-Convert : (a : Expr) → kind_in_block structs (kind.Convert a) ≡ false
  unfolding kind_in_block in_block
  leads-Convert a = ap (λ (p : Bool × ℕ). p.0) (at.at-Convert (Bool × ℕ) Weighed (weigh_kind structs) weigh_by a)

  pub leads-Comma : (es : List Expr) → kind_in_block structs (kind.Comma es) ≡ false
  unfolding kind_in_block in_block
  leads-Comma es = ap (λ (p : Bool × ℕ). p.0) (at.at-Comma (Bool × ℕ) Weighed (weigh_kind structs) weigh_by es)

  pub weigh-Const : (m : ℕ) (v : Value) → kind_weighed structs m (kind.Const v) ≡ up_to (m + 0)
  unfolding kind_weighed weighed read_weighed
  weigh-Const m v = ap (λ (p : Bool × ℕ). up_to (m + p.1)) (at.at-Const (Bool × ℕ) Weighed (weigh_kind structs) weigh_by v) ∙ omega arith

  pub weigh-Local : (m : ℕ) (n : ℕ) → kind_weighed structs m (kind.Local n) ≡ up_to (m + 0)
  unfolding kind_weighed weighed read_weighed
  weigh-Local m n = ap (λ (p : Bool × ℕ). up_to (m + p.1)) (at.at-Local (Bool × ℕ) Weighed (weigh_kind structs) weigh_by n) ∙ omega arith

  pub weigh-Global : (m : ℕ) (n : ℕ) → kind_weighed structs m (kind.Global n) ≡ up_to (m + 0)
  unfolding kind_weighed weighed read_weighed
  weigh-Global m n = ap (λ (p : Bool × ℕ). up_to (m + p.1)) (at.at-Global (Bool × ℕ) Weighed (weigh_kind structs) weigh_by n) ∙ omega arith

  pub weigh-Param : (m : ℕ) (n : ℕ) → kind_weighed structs m (kind.Param n) ≡ up_to (m + 0)
  unfolding kind_weighed weighed read_weighed
  weigh-Param m n = ap (λ (p : Bool × ℕ). up_to (m + p.1)) (at.at-Param (Bool × ℕ) Weighed (weigh_kind structs) weigh_by n) ∙ omega arith

  pub weigh-BlockMember : (m : ℕ) (b : ℕ) (n : ℕ) → kind_weighed structs m (kind.BlockMember b n) ≡ up_to (m + 0)
  unfolding kind_weighed weighed read_weighed
  weigh-BlockMember m b n = ap (λ (p : Bool × ℕ). up_to (m + p.1)) (at.at-BlockMember (Bool × ℕ) Weighed (weigh_kind structs) weigh_by b n) ∙ omega arith

  pub weigh-Stage : (m : ℕ) (v : StageVar) → kind_weighed structs m (kind.Stage v) ≡ up_to (m + 0)
  unfolding kind_weighed weighed read_weighed
  weigh-Stage m v = ap (λ (p : Bool × ℕ). up_to (m + p.1)) (at.at-Stage (Bool × ℕ) Weighed (weigh_kind structs) weigh_by v) ∙ omega arith

  pub weigh-Interface : (m : ℕ) (n : ℕ) → kind_weighed structs m (kind.Interface n) ≡ up_to (m + 0)
  unfolding kind_weighed weighed read_weighed
  weigh-Interface m n = ap (λ (p : Bool × ℕ). up_to (m + p.1)) (at.at-Interface (Bool × ℕ) Weighed (weigh_kind structs) weigh_by n) ∙ omega arith

  pub weigh-Member : (m : ℕ) (a : Expr) (n : ℕ) → kind_weighed structs m (kind.Member a n) ≡ weighed structs m a
  unfolding kind_weighed weighed read_weighed
  weigh-Member m a n = ap (λ (p : Bool × ℕ). up_to (m + p.1)) (at.at-Member (Bool × ℕ) Weighed (weigh_kind structs) weigh_by a n) ∙ omega arith

  pub weigh-Index : (m : ℕ) (a : Expr) (i : Expr) → kind_weighed structs m (kind.Index a i) ≡ read_weighed structs (weighed structs m a) i
  unfolding kind_weighed weighed read_weighed
  weigh-Index m a i = ap (λ (p : Bool × ℕ). up_to (m + p.1)) (at.at-Index (Bool × ℕ) Weighed (weigh_kind structs) weigh_by a i) ∙ omega arith

  pub weigh-Swizzle : (m : ℕ) (a : Expr) (l : Lanes) → kind_weighed structs m (kind.Swizzle a l) ≡ weighed structs m a
  unfolding kind_weighed weighed read_weighed
  weigh-Swizzle m a l = ap (λ (p : Bool × ℕ). up_to (m + p.1)) (at.at-Swizzle (Bool × ℕ) Weighed (weigh_kind structs) weigh_by a l) ∙ omega arith

  pub weigh-Length : (m : ℕ) (a : Expr) → kind_weighed structs m (kind.Length a) ≡ weighed structs m a
  unfolding kind_weighed weighed read_weighed
  weigh-Length m a = ap (λ (p : Bool × ℕ). up_to (m + p.1)) (at.at-Length (Bool × ℕ) Weighed (weigh_kind structs) weigh_by a) ∙ omega arith

  pub weigh-Unary : (m : ℕ) (o : UnaryOp) (a : Expr) → kind_weighed structs m (kind.Unary o a) ≡ read_weighed structs m a
  unfolding kind_weighed weighed read_weighed
  weigh-Unary m o a = ap (λ (p : Bool × ℕ). up_to (m + p.1)) (at.at-Unary (Bool × ℕ) Weighed (weigh_kind structs) weigh_by o a) ∙ omega arith

  same_type : (m : ℕ) (o : BinaryOp) (a b : Expr)
      → up_to (m + (((into a).weight + ((into b).weight + 0)) + (copied structs (into a) + (copied structs (into b) + 0)) + (if is_equality o && is_aggregate (into a).ty then told_leaves structs (into a).ty else 0)))
      ≡ up_to (m + (((into a).weight + ((into b).weight + 0)) + (copied structs (into a) + (copied structs (into b) + 0)) + (if is_equality o && is_aggregate (type_of a) then told_leaves structs (type_of a) else 0)))
  same_type m o a b = ap (λ t. up_to (m + (((into a).weight + ((into b).weight + 0)) + (copied structs (into a) + (copied structs (into b) + 0)) + (if is_equality o && is_aggregate t then told_leaves structs t else 0)))) (weigh_type a)

  pub weigh-Binary : (m : ℕ) (o : BinaryOp) (a : Expr) (b : Expr) → kind_weighed structs m (kind.Binary o a b) ≡ up_to (read_weighed structs (read_weighed structs m a) b + up_to (if is_equality o && is_aggregate (type_of a) then told_leaves structs (type_of a) else 0))
  unfolding kind_weighed weighed read_weighed
  weigh-Binary m o a b = ap (λ (p : Bool × ℕ). up_to (m + p.1)) (at.at-Binary (Bool × ℕ) Weighed (weigh_kind structs) weigh_by o a b) ∙ same_type m o a b ∙ omega arith

  pub weigh-Logic : (m : ℕ) (o : LogicOp) (a : Expr) (b : Expr) → kind_weighed structs m (kind.Logic o a b) ≡ read_weighed structs (read_weighed structs m a) b
  unfolding kind_weighed weighed read_weighed
  weigh-Logic m o a b = ap (λ (p : Bool × ℕ). up_to (m + p.1)) (at.at-Logic (Bool × ℕ) Weighed (weigh_kind structs) weigh_by o a b) ∙ omega arith

  pub weigh-Choose : (m : ℕ) (t : Expr) (a : Expr) (b : Expr) → kind_weighed structs m (kind.Choose t a b) ≡ read_weighed structs (read_weighed structs (read_weighed structs m t) a) b
  unfolding kind_weighed weighed read_weighed
  weigh-Choose m t a b = ap (λ (p : Bool × ℕ). up_to (m + p.1)) (at.at-Choose (Bool × ℕ) Weighed (weigh_kind structs) weigh_by t a b) ∙ omega arith

  pub weigh-Assign : (m : ℕ) (a : Expr) (b : Expr) → kind_weighed structs m (kind.Assign a b) ≡ read_weighed structs (read_weighed structs m a) b
  unfolding kind_weighed weighed read_weighed
  weigh-Assign m a b = ap (λ (p : Bool × ℕ). up_to (m + p.1)) (at.at-Assign (Bool × ℕ) Weighed (weigh_kind structs) weigh_by a b) ∙ omega arith

  pub weigh-Update : (m : ℕ) (o : BinaryOp) (a : Expr) (b : Expr) → kind_weighed structs m (kind.Update o a b) ≡ read_weighed structs (read_weighed structs m a) b
  unfolding kind_weighed weighed read_weighed
  weigh-Update m o a b = ap (λ (p : Bool × ℕ). up_to (m + p.1)) (at.at-Update (Bool × ℕ) Weighed (weigh_kind structs) weigh_by o a b) ∙ omega arith

  pub weigh-Step : (m : ℕ) (o : StepOp) (a : Expr) → kind_weighed structs m (kind.Step o a) ≡ read_weighed structs m a
  unfolding kind_weighed weighed read_weighed
  weigh-Step m o a = ap (λ (p : Bool × ℕ). up_to (m + p.1)) (at.at-Step (Bool × ℕ) Weighed (weigh_kind structs) weigh_by o a) ∙ omega arith

  pub weigh-Call : (m : ℕ) (n : ℕ) (es : List Expr) → kind_weighed structs m (kind.Call n es) ≡ up_to (in_turn (read_weighed structs) m es + 0)
  unfolding kind_weighed weighed read_weighed
  weigh-Call m n es = ap (λ (p : Bool × ℕ). up_to (m + p.1)) (at.at-Call (Bool × ℕ) Weighed (weigh_kind structs) weigh_by n es) ∙ all_of m es

  pub weigh-Built : (m : ℕ) (f : Builtin) (es : List Expr) → kind_weighed structs m (kind.Built f es) ≡ up_to (in_turn (read_weighed structs) m es + 0)
  unfolding kind_weighed weighed read_weighed
  weigh-Built m f es = ap (λ (p : Bool × ℕ). up_to (m + p.1)) (at.at-Built (Bool × ℕ) Weighed (weigh_kind structs) weigh_by f es) ∙ all_of m es

  pub weigh-Build : (m : ℕ) (es : List Expr) → kind_weighed structs m (kind.Build es) ≡ up_to (in_turn (read_weighed structs) m es + 0)
  unfolding kind_weighed weighed read_weighed
  weigh-Build m es = ap (λ (p : Bool × ℕ). up_to (m + p.1)) (at.at-Build (Bool × ℕ) Weighed (weigh_kind structs) weigh_by es) ∙ all_of m es

  pub weigh-Convert : (m : ℕ) (a : Expr) → kind_weighed structs m (kind.Convert a) ≡ read_weighed structs m a
  unfolding kind_weighed weighed read_weighed
  weigh-Convert m a = ap (λ (p : Bool × ℕ). up_to (m + p.1)) (at.at-Convert (Bool × ℕ) Weighed (weigh_kind structs) weigh_by a) ∙ omega arith

  pub weigh-Comma : (m : ℕ) (es : List Expr) → kind_weighed structs m (kind.Comma es) ≡ up_to (in_turn (read_weighed structs) m es + 0)
  unfolding kind_weighed weighed read_weighed
  weigh-Comma m es = ap (λ (p : Bool × ℕ). up_to (m + p.1)) (at.at-Comma (Bool × ℕ) Weighed (weigh_kind structs) weigh_by es) ∙ all_of m es

pub ruleset leads_step = (leads_opens, leads-Const, leads-Local, leads-Global, leads-Param, leads-BlockMember, leads-Stage, leads-Interface, leads-Member, leads-Index, leads-Swizzle, leads-Length, leads-Unary, leads-Binary, leads-Logic, leads-Choose, leads-Assign, leads-Update, leads-Step, leads-Call, leads-Built, leads-Build, leads-Convert, leads-Comma)

pub ruleset weigh_step = (weigh_opens, weigh-Const, weigh-Local, weigh-Global, weigh-Param, weigh-BlockMember, weigh-Stage, weigh-Interface, weigh-Member, weigh-Index, weigh-Swizzle, weigh-Length, weigh-Unary, weigh-Binary, weigh-Logic, weigh-Choose, weigh-Assign, weigh-Update, weigh-Step, weigh-Call, weigh-Built, weigh-Build, weigh-Convert, weigh-Comma)
