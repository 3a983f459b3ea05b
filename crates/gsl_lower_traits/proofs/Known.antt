-- What is known of each kind of expression, from what is known of its parts.
use Rattle.std.proofs.Common.{◌≡◌, sym, ap, ◌∙◌, ℕ, ◌+◌, ◌≤◌, List, drop, length, slice_get, Some}
use Rattle.std.proofs.lemmas.List.{drop_all}
use Rattle.gsl_compute.proofs.Loops.{opened as opened_list}
use Rattle.gsl_types.specs.declared.ty.Ty.{Ty}
use Rattle.gsl_values.specs.declared.function.Builtin.{Builtin}
use Rattle.gsl_values.specs.declared.lane.Lanes.{Lanes}
use Rattle.gsl_values.specs.declared.op.BinaryOp.{BinaryOp}
use Rattle.gsl_values.specs.declared.op.UnaryOp.{UnaryOp}
use Rattle.gsl_values.specs.declared.value.Value.{Value}
use Rattle.gsl_tree.specs.declared.expr.Expr.{Expr, out-Expr}
use Rattle.gsl_tree.specs.declared.expr.ExprKind.TheFolds.{fold-roll-Expr}
use Rattle.gsl_tree.specs.declared.expr.ExprKind.TheOpen.{ExprKind-F}
use Rattle.gsl_tree.specs.declared.expr.ExprKind.TheVariants as kind
use Rattle.gsl_tree.specs.declared.expr.ExprKind.TheViews.{roll-out-Expr}
use Rattle.gsl_tree.specs.declared.expr.LogicOp.{LogicOp}
use Rattle.gsl_tree.specs.declared.expr.StageVar.{StageVar}
use Rattle.gsl_tree.specs.declared.expr.StepOp.{StepOp}
use Rattle.gsl_tree.specs.Trees.{type_of}
use Rattle.gsl_tree.proofs.Folds as at
use Rattle.gsl_lower_traits.specs.declared.traits.Traits.{Traits}
use Rattle.gsl_lower_traits.specs.Traits.{Known, built, called, kind_traits, known, known_by, loud, together_from, together_of, traits_by, traits_of, with}

abbrev Kinds : Type 0
Kinds = Ty → Traits

abbrev step : ExprKind-F Kinds Known → Kinds
step = traits_by

opened : (e : Expr) → known e ≡ record { ty = type_of e; traits = kind_traits (out-Expr e).kind (type_of e) }
unfolding kind_traits
opened e = ap known (sym (roll-out-Expr e)) ∙ fold-roll-Expr Kinds Known step known_by (out-Expr e)

-- an expression by the words for what is known of it
abbrev said : Expr → Known
said e = record { ty = type_of e; traits = traits_of e }

pub named : (e : Expr) → known e ≡ said e
unfolding traits_of
named e = ap (λ t. let x : Known = record { ty = t; traits = (known e).traits } in x) (ap (λ (x : Known). x.ty) (opened e))

pub traits-opens : (e : Expr) → traits_of e ≡ kind_traits (out-Expr e).kind (type_of e)
unfolding traits_of
traits-opens e = ap (λ (x : Known). x.traits) (opened e)

pub kind-Const : (v : Value) (ty : Ty) → kind_traits (kind.Const v) ty ≡ step (ExprKind-F.Const v) ty
unfolding kind_traits
kind-Const v ty = ap (λ (f : Kinds). f ty) (at.at-Const Kinds Known step known_by v)

pub kind-Local : (n : ℕ) (ty : Ty) → kind_traits (kind.Local n) ty ≡ step (ExprKind-F.Local n) ty
unfolding kind_traits
kind-Local n ty = ap (λ (f : Kinds). f ty) (at.at-Local Kinds Known step known_by n)

pub kind-Global : (n : ℕ) (ty : Ty) → kind_traits (kind.Global n) ty ≡ step (ExprKind-F.Global n) ty
unfolding kind_traits
kind-Global n ty = ap (λ (f : Kinds). f ty) (at.at-Global Kinds Known step known_by n)

pub kind-Param : (n : ℕ) (ty : Ty) → kind_traits (kind.Param n) ty ≡ step (ExprKind-F.Param n) ty
unfolding kind_traits
kind-Param n ty = ap (λ (f : Kinds). f ty) (at.at-Param Kinds Known step known_by n)

pub kind-BlockMember : (b : ℕ) (n : ℕ) (ty : Ty) → kind_traits (kind.BlockMember b n) ty ≡ step (ExprKind-F.BlockMember b n) ty
unfolding kind_traits
kind-BlockMember b n ty = ap (λ (f : Kinds). f ty) (at.at-BlockMember Kinds Known step known_by b n)

pub kind-Stage : (v : StageVar) (ty : Ty) → kind_traits (kind.Stage v) ty ≡ step (ExprKind-F.Stage v) ty
unfolding kind_traits
kind-Stage v ty = ap (λ (f : Kinds). f ty) (at.at-Stage Kinds Known step known_by v)

pub kind-Interface : (n : ℕ) (ty : Ty) → kind_traits (kind.Interface n) ty ≡ step (ExprKind-F.Interface n) ty
unfolding kind_traits
kind-Interface n ty = ap (λ (f : Kinds). f ty) (at.at-Interface Kinds Known step known_by n)

pub kind-Member : (a : Expr) (n : ℕ) (ty : Ty) → kind_traits (kind.Member a n) ty ≡ step (ExprKind-F.Member (said a) n) ty
unfolding kind_traits
kind-Member a n ty = ap (λ (f : Kinds). f ty) (at.at-Member Kinds Known step known_by a n) ∙ ap (λ (x : Known). step (ExprKind-F.Member x n) ty) (named a)

pub kind-Index : (a : Expr) (i : Expr) (ty : Ty) → kind_traits (kind.Index a i) ty ≡ step (ExprKind-F.Index (said a) (said i)) ty
unfolding kind_traits
kind-Index a i ty = ap (λ (f : Kinds). f ty) (at.at-Index Kinds Known step known_by a i) ∙ ap (λ (x : Known). step (ExprKind-F.Index x (known i)) ty) (named a) ∙ ap (λ (x : Known). step (ExprKind-F.Index (said a) x) ty) (named i)

pub kind-Swizzle : (a : Expr) (l : Lanes) (ty : Ty) → kind_traits (kind.Swizzle a l) ty ≡ step (ExprKind-F.Swizzle (said a) l) ty
unfolding kind_traits
kind-Swizzle a l ty = ap (λ (f : Kinds). f ty) (at.at-Swizzle Kinds Known step known_by a l) ∙ ap (λ (x : Known). step (ExprKind-F.Swizzle x l) ty) (named a)

pub kind-Length : (a : Expr) (ty : Ty) → kind_traits (kind.Length a) ty ≡ step (ExprKind-F.Length (said a)) ty
unfolding kind_traits
kind-Length a ty = ap (λ (f : Kinds). f ty) (at.at-Length Kinds Known step known_by a) ∙ ap (λ (x : Known). step (ExprKind-F.Length x) ty) (named a)

pub kind-Unary : (o : UnaryOp) (a : Expr) (ty : Ty) → kind_traits (kind.Unary o a) ty ≡ step (ExprKind-F.Unary o (said a)) ty
unfolding kind_traits
kind-Unary o a ty = ap (λ (f : Kinds). f ty) (at.at-Unary Kinds Known step known_by o a) ∙ ap (λ (x : Known). step (ExprKind-F.Unary o x) ty) (named a)

pub kind-Binary : (o : BinaryOp) (a : Expr) (b : Expr) (ty : Ty) → kind_traits (kind.Binary o a b) ty ≡ step (ExprKind-F.Binary o (said a) (said b)) ty
unfolding kind_traits
kind-Binary o a b ty = ap (λ (f : Kinds). f ty) (at.at-Binary Kinds Known step known_by o a b) ∙ ap (λ (x : Known). step (ExprKind-F.Binary o x (known b)) ty) (named a) ∙ ap (λ (x : Known). step (ExprKind-F.Binary o (said a) x) ty) (named b)

pub kind-Logic : (o : LogicOp) (a : Expr) (b : Expr) (ty : Ty) → kind_traits (kind.Logic o a b) ty ≡ step (ExprKind-F.Logic o (said a) (said b)) ty
unfolding kind_traits
kind-Logic o a b ty = ap (λ (f : Kinds). f ty) (at.at-Logic Kinds Known step known_by o a b) ∙ ap (λ (x : Known). step (ExprKind-F.Logic o x (known b)) ty) (named a) ∙ ap (λ (x : Known). step (ExprKind-F.Logic o (said a) x) ty) (named b)

pub kind-Choose : (t : Expr) (a : Expr) (b : Expr) (ty : Ty) → kind_traits (kind.Choose t a b) ty ≡ step (ExprKind-F.Choose (said t) (said a) (said b)) ty
unfolding kind_traits
kind-Choose t a b ty = ap (λ (f : Kinds). f ty) (at.at-Choose Kinds Known step known_by t a b) ∙ ap (λ (x : Known). step (ExprKind-F.Choose x (known a) (known b)) ty) (named t) ∙ ap (λ (x : Known). step (ExprKind-F.Choose (said t) x (known b)) ty) (named a) ∙ ap (λ (x : Known). step (ExprKind-F.Choose (said t) (said a) x) ty) (named b)

pub kind-Assign : (a : Expr) (b : Expr) (ty : Ty) → kind_traits (kind.Assign a b) ty ≡ step (ExprKind-F.Assign (said a) (said b)) ty
unfolding kind_traits
kind-Assign a b ty = ap (λ (f : Kinds). f ty) (at.at-Assign Kinds Known step known_by a b) ∙ ap (λ (x : Known). step (ExprKind-F.Assign x (known b)) ty) (named a) ∙ ap (λ (x : Known). step (ExprKind-F.Assign (said a) x) ty) (named b)

pub kind-Update : (o : BinaryOp) (a : Expr) (b : Expr) (ty : Ty) → kind_traits (kind.Update o a b) ty ≡ step (ExprKind-F.Update o (said a) (said b)) ty
unfolding kind_traits
kind-Update o a b ty = ap (λ (f : Kinds). f ty) (at.at-Update Kinds Known step known_by o a b) ∙ ap (λ (x : Known). step (ExprKind-F.Update o x (known b)) ty) (named a) ∙ ap (λ (x : Known). step (ExprKind-F.Update o (said a) x) ty) (named b)

pub kind-Step : (o : StepOp) (a : Expr) (ty : Ty) → kind_traits (kind.Step o a) ty ≡ step (ExprKind-F.Step o (said a)) ty
unfolding kind_traits
kind-Step o a ty = ap (λ (f : Kinds). f ty) (at.at-Step Kinds Known step known_by o a) ∙ ap (λ (x : Known). step (ExprKind-F.Step o x) ty) (named a)

pub kind-Call : (n : ℕ) (es : List Expr) (ty : Ty) → kind_traits (kind.Call n es) ty ≡ called (together_of es)
unfolding kind_traits together_from
kind-Call n es ty = ap (λ (f : Kinds). f ty) (at.at-Call Kinds Known step known_by n es)

pub kind-Built : (f : Builtin) (es : List Expr) (ty : Ty) → kind_traits (kind.Built f es) ty ≡ loud (together_of es)
unfolding kind_traits together_from
kind-Built f es ty = ap (λ (f : Kinds). f ty) (at.at-Built Kinds Known step known_by f es)

pub kind-Build : (es : List Expr) (ty : Ty) → kind_traits (kind.Build es) ty ≡ built ty (together_of es)
unfolding kind_traits together_from
kind-Build es ty = ap (λ (f : Kinds). f ty) (at.at-Build Kinds Known step known_by es)

pub kind-Convert : (a : Expr) (ty : Ty) → kind_traits (kind.Convert a) ty ≡ step (ExprKind-F.Convert (said a)) ty
unfolding kind_traits
kind-Convert a ty = ap (λ (f : Kinds). f ty) (at.at-Convert Kinds Known step known_by a) ∙ ap (λ (x : Known). step (ExprKind-F.Convert x) ty) (named a)

pub kind-Comma : (es : List Expr) (ty : Ty) → kind_traits (kind.Comma es) ty ≡ loud (together_of es)
unfolding kind_traits together_from
kind-Comma es ty = ap (λ (f : Kinds). f ty) (at.at-Comma Kinds Known step known_by es)

-- ---- several together

pub more : (so_far new : Traits) (es : List Expr) (k : ℕ) (e : Expr) (whole : Traits) → slice_get es k ≡ Some e → new ≡ with so_far (traits_of e) → together_from so_far (drop k es) ≡ whole → together_from new (drop (k + 1) es) ≡ whole
unfolding together_from traits_of
more so_far new es k e whole at_k is so_far_is = ap (λ t. together_from t (drop (k + 1) es)) is ∙ sym (ap (together_from so_far) (opened_list es k e at_k)) ∙ so_far_is

pub all_of : (so_far : Traits) (es : List Expr) (k : ℕ) (whole : Traits) → length es ≤ k → together_from so_far (drop k es) ≡ whole → so_far ≡ whole
unfolding together_from
all_of so_far es k whole past so_far_is = sym (ap (together_from so_far) (drop_all k es past)) ∙ so_far_is

pub ruleset traits_step = (traits-opens, kind-Const, kind-Local, kind-Global, kind-Param, kind-BlockMember, kind-Stage, kind-Interface, kind-Member, kind-Index, kind-Swizzle, kind-Length, kind-Unary, kind-Binary, kind-Logic, kind-Choose, kind-Assign, kind-Update, kind-Step, kind-Call, kind-Built, kind-Build, kind-Convert, kind-Comma)
