-- What is asked for at each kind of expression, from what is asked for at its parts.
use Rattle.std.proofs.Common.{◌≡◌, refl, sym, ap, subst, ◌∙◌, ℕ, List, [], ◌∷◌, map, arith}
use Rattle.std.proofs.lemmas.Bool.Decides.{nat_tests}
use Rattle.std.specs.Prelude.{Bool, true, false, ◌||◌, ◌+◌, nat_lt, slice_get}
use Rattle.gsl_types.specs.declared.ty.Direction.{Direction}
use Rattle.gsl_types.specs.declared.ty.Direction.TheVariants.{In, Out, InOut}
use Rattle.gsl_types.specs.declared.ty.Ty.{Ty}
use Rattle.gsl_values.specs.declared.function.Builtin.{Builtin}
use Rattle.gsl_values.specs.declared.lane.Lanes.{Lanes}
use Rattle.gsl_values.specs.declared.op.BinaryOp.{BinaryOp}
use Rattle.gsl_values.specs.declared.op.UnaryOp.{UnaryOp}
use Rattle.gsl_values.specs.declared.value.Value.{Value as AnyValue}
use Rattle.gsl_tree.specs.Weights.{params_of}
use Rattle.gsl_tree.specs.declared.expr.Expr.{Expr, out-Expr}
use Rattle.gsl_tree.specs.declared.expr.ExprKind.{ExprKind, out-ExprKind}
use Rattle.gsl_tree.specs.declared.expr.ExprKind.TheFolds.{fold-Expr, fold-ExprKind, fold-roll-Expr, fold-roll-ExprKind, ind-Expr, map-Expr, map-ExprKind}
use Rattle.gsl_tree.specs.declared.expr.ExprKind.TheOpen.{ExprKind-F, Expr-F}
use Rattle.gsl_tree.specs.declared.expr.ExprKind.TheVariants as kind
use Rattle.gsl_tree.specs.declared.expr.ExprKind.TheVariants.{outs-Const, outs-Local, outs-Global, outs-Param, outs-BlockMember, outs-Stage, outs-Interface, outs-Member, outs-Index, outs-Swizzle, outs-Length, outs-Unary, outs-Binary, outs-Logic, outs-Choose, outs-Assign, outs-Update, outs-Step, outs-Call, outs-Built, outs-Build, outs-Convert, outs-Comma}
use Rattle.gsl_tree.specs.declared.expr.ExprKind.TheViews.{roll-Expr, roll-ExprKind, roll-out-Expr, roll-out-ExprKind}
use Rattle.gsl_tree.specs.declared.expr.LogicOp.{LogicOp}
use Rattle.gsl_tree.specs.declared.expr.StageVar.{StageVar}
use Rattle.gsl_tree.specs.declared.expr.StepOp.{StepOp}
use Rattle.gsl_tree.specs.declared.unit.Prototype.{Prototype}
use Rattle.gsl_tree.specs.Trees.{type_of}
use Rattle.gsl_tree.proofs.Folds as at
use Rattle.gsl_lower_traits.specs.declared.traits.Traits.{Traits}
use Rattle.gsl_lower_traits.specs.Traits.{Known, known, known_by, traits_by, traits_of}
use Rattle.gsl_lower_traits.proofs.Known.{named as named_known}
use Rattle.gsl_lower_expr.specs.Coming.{leads}
use Rattle.gsl_lower_expr.specs.Rows.{count_splits, one_if, waits_for}
use Rattle.gsl_lower_needs.specs.declared.lead.Found.TheVariants.{Place, Value}
use Rattle.gsl_lower_needs.specs.declared.lead.Lead.{Lead}
use Rattle.gsl_lower_needs.specs.declared.need.Need.{Need}
use Rattle.gsl_lower_needs.specs.Asking.{Asked, Asks, behind, ◌>>=◌, given}
use Rattle.gsl_lower_needs.specs.Needs.{Asking, any_splits, asked_by, asks, built_of, hold, in_holder, keeps, kind_asks, known_of, loose, passed_both, passed_out, passing, passing_all, reads, sequence, typed_by}
use Rattle.gsl_lower_needs.specs.Coming.{evaluates, finds, found_by, gave, keeps_all, led, passes, passes_all, reached_from, reaches, sequence_of, valued_from}

abbrev Needs : Type 0
Needs = List Need

module _ (s : List Prototype) where
  abbrev Codes : Type 0
  Codes = Ty → Asking

  abbrev Kinds : Type 0
  Kinds = Ty → Traits

  abbrev step : ExprKind-F Codes Asking → Codes
  step = asked_by s

  abbrev into : Expr → Asking
  into = fold-Expr Codes Asking step typed_by

  abbrev of_kinds : ExprKind → Codes
  of_kinds = fold-ExprKind Codes Asking step typed_by

  abbrev kinds_known : ExprKind → Kinds
  kinds_known = fold-ExprKind Kinds Known traits_by known_by

  -- ---- what is known is the same

  abbrev OfKind : ExprKind → Type 0
  OfKind k = (ty : Ty) → known_of (of_kinds k ty) ≡ record { ty = ty; traits = kinds_known k ty }

  abbrev OfExpr : Expr → Type 0
  OfExpr e = known_of (into e) ≡ known e

  all_known : (es : List ((e : Expr) × OfExpr e)) → map known_of (map into (map (λ e. e.0) es)) ≡ map known (map (λ e. e.0) es)
  all_known [] = refl
  all_known (e ∷ es) = ap (λ x. x ∷ map known_of (map into (map (λ e. e.0) es))) e.1 ∙ ap (λ l. known e.0 ∷ l) (all_known es)

  by_kind : (y : ExprKind-F ((k : ExprKind) × OfKind k) ((e : Expr) × OfExpr e)) → OfKind (roll-ExprKind (map-ExprKind _ _ _ _ (λ k. k.0) (λ e. e.0) y))
  by_kind (ExprKind-F.Const v) ty = ap (λ (f : Codes). known_of (f ty)) (fold-roll-ExprKind Codes Asking step typed_by (ExprKind-F.Const v)) ∙ sym (ap (λ (f : Kinds). let y : Known = record { ty = ty; traits = f ty } in y) (fold-roll-ExprKind Kinds Known traits_by known_by (ExprKind-F.Const v)))
  by_kind (ExprKind-F.Local n) ty = ap (λ (f : Codes). known_of (f ty)) (fold-roll-ExprKind Codes Asking step typed_by (ExprKind-F.Local n)) ∙ sym (ap (λ (f : Kinds). let y : Known = record { ty = ty; traits = f ty } in y) (fold-roll-ExprKind Kinds Known traits_by known_by (ExprKind-F.Local n)))
  by_kind (ExprKind-F.Global n) ty = ap (λ (f : Codes). known_of (f ty)) (fold-roll-ExprKind Codes Asking step typed_by (ExprKind-F.Global n)) ∙ sym (ap (λ (f : Kinds). let y : Known = record { ty = ty; traits = f ty } in y) (fold-roll-ExprKind Kinds Known traits_by known_by (ExprKind-F.Global n)))
  by_kind (ExprKind-F.Param n) ty = ap (λ (f : Codes). known_of (f ty)) (fold-roll-ExprKind Codes Asking step typed_by (ExprKind-F.Param n)) ∙ sym (ap (λ (f : Kinds). let y : Known = record { ty = ty; traits = f ty } in y) (fold-roll-ExprKind Kinds Known traits_by known_by (ExprKind-F.Param n)))
  by_kind (ExprKind-F.BlockMember b n) ty = ap (λ (f : Codes). known_of (f ty)) (fold-roll-ExprKind Codes Asking step typed_by (ExprKind-F.BlockMember b n)) ∙ sym (ap (λ (f : Kinds). let y : Known = record { ty = ty; traits = f ty } in y) (fold-roll-ExprKind Kinds Known traits_by known_by (ExprKind-F.BlockMember b n)))
  by_kind (ExprKind-F.Stage v) ty = ap (λ (f : Codes). known_of (f ty)) (fold-roll-ExprKind Codes Asking step typed_by (ExprKind-F.Stage v)) ∙ sym (ap (λ (f : Kinds). let y : Known = record { ty = ty; traits = f ty } in y) (fold-roll-ExprKind Kinds Known traits_by known_by (ExprKind-F.Stage v)))
  by_kind (ExprKind-F.Interface n) ty = ap (λ (f : Codes). known_of (f ty)) (fold-roll-ExprKind Codes Asking step typed_by (ExprKind-F.Interface n)) ∙ sym (ap (λ (f : Kinds). let y : Known = record { ty = ty; traits = f ty } in y) (fold-roll-ExprKind Kinds Known traits_by known_by (ExprKind-F.Interface n)))
  by_kind (ExprKind-F.Member a n) ty = ap (λ (f : Codes). known_of (f ty)) (fold-roll-ExprKind Codes Asking step typed_by (ExprKind-F.Member a.0 n)) ∙ ap (λ (x : Known). let y : Known = record { ty = ty; traits = traits_by (ExprKind-F.Member x n) ty } in y) a.1 ∙ sym (ap (λ (f : Kinds). let y : Known = record { ty = ty; traits = f ty } in y) (fold-roll-ExprKind Kinds Known traits_by known_by (ExprKind-F.Member a.0 n)))
  by_kind (ExprKind-F.Index a i) ty = ap (λ (f : Codes). known_of (f ty)) (fold-roll-ExprKind Codes Asking step typed_by (ExprKind-F.Index a.0 i.0)) ∙ ap (λ (x : Known). let y : Known = record { ty = ty; traits = traits_by (ExprKind-F.Index x (known_of (into i.0))) ty } in y) a.1 ∙ ap (λ (x : Known). let y : Known = record { ty = ty; traits = traits_by (ExprKind-F.Index (known a.0) x) ty } in y) i.1 ∙ sym (ap (λ (f : Kinds). let y : Known = record { ty = ty; traits = f ty } in y) (fold-roll-ExprKind Kinds Known traits_by known_by (ExprKind-F.Index a.0 i.0)))
  by_kind (ExprKind-F.Swizzle a l) ty = ap (λ (f : Codes). known_of (f ty)) (fold-roll-ExprKind Codes Asking step typed_by (ExprKind-F.Swizzle a.0 l)) ∙ ap (λ (x : Known). let y : Known = record { ty = ty; traits = traits_by (ExprKind-F.Swizzle x l) ty } in y) a.1 ∙ sym (ap (λ (f : Kinds). let y : Known = record { ty = ty; traits = f ty } in y) (fold-roll-ExprKind Kinds Known traits_by known_by (ExprKind-F.Swizzle a.0 l)))
  by_kind (ExprKind-F.Length a) ty = ap (λ (f : Codes). known_of (f ty)) (fold-roll-ExprKind Codes Asking step typed_by (ExprKind-F.Length a.0)) ∙ ap (λ (x : Known). let y : Known = record { ty = ty; traits = traits_by (ExprKind-F.Length x) ty } in y) a.1 ∙ sym (ap (λ (f : Kinds). let y : Known = record { ty = ty; traits = f ty } in y) (fold-roll-ExprKind Kinds Known traits_by known_by (ExprKind-F.Length a.0)))
  by_kind (ExprKind-F.Unary o a) ty = ap (λ (f : Codes). known_of (f ty)) (fold-roll-ExprKind Codes Asking step typed_by (ExprKind-F.Unary o a.0)) ∙ ap (λ (x : Known). let y : Known = record { ty = ty; traits = traits_by (ExprKind-F.Unary o x) ty } in y) a.1 ∙ sym (ap (λ (f : Kinds). let y : Known = record { ty = ty; traits = f ty } in y) (fold-roll-ExprKind Kinds Known traits_by known_by (ExprKind-F.Unary o a.0)))
  by_kind (ExprKind-F.Binary o a b) ty = ap (λ (f : Codes). known_of (f ty)) (fold-roll-ExprKind Codes Asking step typed_by (ExprKind-F.Binary o a.0 b.0)) ∙ ap (λ (x : Known). let y : Known = record { ty = ty; traits = traits_by (ExprKind-F.Binary o x (known_of (into b.0))) ty } in y) a.1 ∙ ap (λ (x : Known). let y : Known = record { ty = ty; traits = traits_by (ExprKind-F.Binary o (known a.0) x) ty } in y) b.1 ∙ sym (ap (λ (f : Kinds). let y : Known = record { ty = ty; traits = f ty } in y) (fold-roll-ExprKind Kinds Known traits_by known_by (ExprKind-F.Binary o a.0 b.0)))
  by_kind (ExprKind-F.Logic o a b) ty = ap (λ (f : Codes). known_of (f ty)) (fold-roll-ExprKind Codes Asking step typed_by (ExprKind-F.Logic o a.0 b.0)) ∙ ap (λ (x : Known). let y : Known = record { ty = ty; traits = traits_by (ExprKind-F.Logic o x (known_of (into b.0))) ty } in y) a.1 ∙ ap (λ (x : Known). let y : Known = record { ty = ty; traits = traits_by (ExprKind-F.Logic o (known a.0) x) ty } in y) b.1 ∙ sym (ap (λ (f : Kinds). let y : Known = record { ty = ty; traits = f ty } in y) (fold-roll-ExprKind Kinds Known traits_by known_by (ExprKind-F.Logic o a.0 b.0)))
  by_kind (ExprKind-F.Choose t a b) ty = ap (λ (f : Codes). known_of (f ty)) (fold-roll-ExprKind Codes Asking step typed_by (ExprKind-F.Choose t.0 a.0 b.0)) ∙ ap (λ (x : Known). let y : Known = record { ty = ty; traits = traits_by (ExprKind-F.Choose x (known_of (into a.0)) (known_of (into b.0))) ty } in y) t.1 ∙ ap (λ (x : Known). let y : Known = record { ty = ty; traits = traits_by (ExprKind-F.Choose (known t.0) x (known_of (into b.0))) ty } in y) a.1 ∙ ap (λ (x : Known). let y : Known = record { ty = ty; traits = traits_by (ExprKind-F.Choose (known t.0) (known a.0) x) ty } in y) b.1 ∙ sym (ap (λ (f : Kinds). let y : Known = record { ty = ty; traits = f ty } in y) (fold-roll-ExprKind Kinds Known traits_by known_by (ExprKind-F.Choose t.0 a.0 b.0)))
  by_kind (ExprKind-F.Assign a b) ty = ap (λ (f : Codes). known_of (f ty)) (fold-roll-ExprKind Codes Asking step typed_by (ExprKind-F.Assign a.0 b.0)) ∙ ap (λ (x : Known). let y : Known = record { ty = ty; traits = traits_by (ExprKind-F.Assign x (known_of (into b.0))) ty } in y) a.1 ∙ ap (λ (x : Known). let y : Known = record { ty = ty; traits = traits_by (ExprKind-F.Assign (known a.0) x) ty } in y) b.1 ∙ sym (ap (λ (f : Kinds). let y : Known = record { ty = ty; traits = f ty } in y) (fold-roll-ExprKind Kinds Known traits_by known_by (ExprKind-F.Assign a.0 b.0)))
  by_kind (ExprKind-F.Update o a b) ty = ap (λ (f : Codes). known_of (f ty)) (fold-roll-ExprKind Codes Asking step typed_by (ExprKind-F.Update o a.0 b.0)) ∙ ap (λ (x : Known). let y : Known = record { ty = ty; traits = traits_by (ExprKind-F.Update o x (known_of (into b.0))) ty } in y) a.1 ∙ ap (λ (x : Known). let y : Known = record { ty = ty; traits = traits_by (ExprKind-F.Update o (known a.0) x) ty } in y) b.1 ∙ sym (ap (λ (f : Kinds). let y : Known = record { ty = ty; traits = f ty } in y) (fold-roll-ExprKind Kinds Known traits_by known_by (ExprKind-F.Update o a.0 b.0)))
  by_kind (ExprKind-F.Step o a) ty = ap (λ (f : Codes). known_of (f ty)) (fold-roll-ExprKind Codes Asking step typed_by (ExprKind-F.Step o a.0)) ∙ ap (λ (x : Known). let y : Known = record { ty = ty; traits = traits_by (ExprKind-F.Step o x) ty } in y) a.1 ∙ sym (ap (λ (f : Kinds). let y : Known = record { ty = ty; traits = f ty } in y) (fold-roll-ExprKind Kinds Known traits_by known_by (ExprKind-F.Step o a.0)))
  by_kind (ExprKind-F.Call n es) ty = ap (λ (f : Codes). known_of (f ty)) (fold-roll-ExprKind Codes Asking step typed_by (ExprKind-F.Call n (map (λ e. e.0) es))) ∙ ap (λ (x : List Known). let y : Known = record { ty = ty; traits = traits_by (ExprKind-F.Call n x) ty } in y) (all_known es) ∙ sym (ap (λ (f : Kinds). let y : Known = record { ty = ty; traits = f ty } in y) (fold-roll-ExprKind Kinds Known traits_by known_by (ExprKind-F.Call n (map (λ e. e.0) es))))
  by_kind (ExprKind-F.Built f es) ty = ap (λ (f : Codes). known_of (f ty)) (fold-roll-ExprKind Codes Asking step typed_by (ExprKind-F.Built f (map (λ e. e.0) es))) ∙ ap (λ (x : List Known). let y : Known = record { ty = ty; traits = traits_by (ExprKind-F.Built f x) ty } in y) (all_known es) ∙ sym (ap (λ (f : Kinds). let y : Known = record { ty = ty; traits = f ty } in y) (fold-roll-ExprKind Kinds Known traits_by known_by (ExprKind-F.Built f (map (λ e. e.0) es))))
  by_kind (ExprKind-F.Build es) ty = ap (λ (f : Codes). known_of (f ty)) (fold-roll-ExprKind Codes Asking step typed_by (ExprKind-F.Build (map (λ e. e.0) es))) ∙ ap (λ (x : List Known). let y : Known = record { ty = ty; traits = traits_by (ExprKind-F.Build x) ty } in y) (all_known es) ∙ sym (ap (λ (f : Kinds). let y : Known = record { ty = ty; traits = f ty } in y) (fold-roll-ExprKind Kinds Known traits_by known_by (ExprKind-F.Build (map (λ e. e.0) es))))
  by_kind (ExprKind-F.Convert a) ty = ap (λ (f : Codes). known_of (f ty)) (fold-roll-ExprKind Codes Asking step typed_by (ExprKind-F.Convert a.0)) ∙ ap (λ (x : Known). let y : Known = record { ty = ty; traits = traits_by (ExprKind-F.Convert x) ty } in y) a.1 ∙ sym (ap (λ (f : Kinds). let y : Known = record { ty = ty; traits = f ty } in y) (fold-roll-ExprKind Kinds Known traits_by known_by (ExprKind-F.Convert a.0)))
  by_kind (ExprKind-F.Comma es) ty = ap (λ (f : Codes). known_of (f ty)) (fold-roll-ExprKind Codes Asking step typed_by (ExprKind-F.Comma (map (λ e. e.0) es))) ∙ ap (λ (x : List Known). let y : Known = record { ty = ty; traits = traits_by (ExprKind-F.Comma x) ty } in y) (all_known es) ∙ sym (ap (λ (f : Kinds). let y : Known = record { ty = ty; traits = f ty } in y) (fold-roll-ExprKind Kinds Known traits_by known_by (ExprKind-F.Comma (map (λ e. e.0) es))))

  by_expr : (y : Expr-F ((k : ExprKind) × OfKind k) ((e : Expr) × OfExpr e)) → OfExpr (roll-Expr (map-Expr _ _ _ _ (λ k. k.0) (λ e. e.0) y))
  by_expr y =
      let z = map-Expr _ _ _ _ (λ k. k.0) (λ e. e.0) y in
      ap known_of (fold-roll-Expr Codes Asking step typed_by z) ∙ y.kind.1 y.ty ∙ sym (fold-roll-Expr Kinds Known traits_by known_by z)

  same : (e : Expr) → OfExpr e
  same = ind-Expr OfKind OfExpr (λ x y is. subst (λ z. OfKind (roll-ExprKind z)) is (by_kind y)) (λ x y is. subst (λ z. OfExpr (roll-Expr z)) is (by_expr y))

  -- an expression by the words for what is asked for there
  abbrev said : Expr → Asking
  said e = record { ty = type_of e; traits = traits_of e; reach = reaches s e; value = evaluates s e }

  pub named : (e : Expr) → into e ≡ said e
  unfolding reaches evaluates asks
  named e = ap (λ (k : Known). let x : Asking = record { ty = k.ty; traits = k.traits; reach = (into e).reach; value = (into e).value } in x) (same e ∙ named_known e)

  -- ---- an expression, from what was found

  abbrev Agrees : Bool → Asking → Type 0
  Agrees true x = (needs : Needs) → x.value needs ≡ behind (x.reach needs) (reads x.ty)
  Agrees false x = (needs : Needs) → x.reach needs ≡ behind (x.value needs) (λ done. given (loose x.ty))

  record Regular (layer : ExprKind-F ExprKind Expr) (ty : Ty) (x : Asking) : Type 0 where
    pub typed : x.ty ≡ ty
    pub agrees : Agrees (leads layer) x

  by_layer : (y : ExprKind-F ExprKind Expr) (ty : Ty) → Regular y ty (step (map-ExprKind _ _ _ _ of_kinds into y) ty)
  by_layer (ExprKind-F.Const v) ty = record { typed = refl; agrees = λ needs. refl }
  by_layer (ExprKind-F.Local n) ty = record { typed = refl; agrees = λ needs. refl }
  by_layer (ExprKind-F.Global n) ty = record { typed = refl; agrees = λ needs. refl }
  by_layer (ExprKind-F.Param n) ty = record { typed = refl; agrees = λ needs. refl }
  by_layer (ExprKind-F.BlockMember b n) ty = record { typed = refl; agrees = λ needs. refl }
  by_layer (ExprKind-F.Stage v) ty = record { typed = refl; agrees = λ needs. refl }
  by_layer (ExprKind-F.Interface n) ty = record { typed = refl; agrees = λ needs. refl }
  by_layer (ExprKind-F.Member a n) ty = record { typed = refl; agrees = λ needs. refl }
  by_layer (ExprKind-F.Index a i) ty = record { typed = refl; agrees = λ needs. refl }
  by_layer (ExprKind-F.Swizzle a l) ty = record { typed = refl; agrees = λ needs. refl }
  by_layer (ExprKind-F.Length a) ty = record { typed = refl; agrees = λ needs. refl }
  by_layer (ExprKind-F.Unary o a) ty = record { typed = refl; agrees = λ needs. refl }
  by_layer (ExprKind-F.Binary o a b) ty = record { typed = refl; agrees = λ needs. refl }
  by_layer (ExprKind-F.Logic o a b) ty = record { typed = refl; agrees = λ needs. refl }
  by_layer (ExprKind-F.Choose t a b) ty = record { typed = refl; agrees = λ needs. refl }
  by_layer (ExprKind-F.Assign a b) ty = record { typed = refl; agrees = λ needs. refl }
  by_layer (ExprKind-F.Update o a b) ty = record { typed = refl; agrees = λ needs. refl }
  by_layer (ExprKind-F.Step o a) ty = record { typed = refl; agrees = λ needs. refl }
  by_layer (ExprKind-F.Convert a) ty = record { typed = refl; agrees = λ needs. refl }
  by_layer (ExprKind-F.Call n es) ty = record { typed = refl; agrees = λ needs. refl }
  by_layer (ExprKind-F.Built f es) ty = record { typed = refl; agrees = λ needs. refl }
  by_layer (ExprKind-F.Build es) ty = record { typed = refl; agrees = λ needs. refl }
  by_layer (ExprKind-F.Comma es) ty = record { typed = refl; agrees = λ needs. refl }

  regular : (k : ExprKind) (ty : Ty) → Regular (out-ExprKind k) ty (kind_asks s k ty)
  unfolding kind_asks
  regular k ty =
      subst (λ z. Regular (out-ExprKind k) ty (of_kinds z ty)) (roll-out-ExprKind k)
      (subst (λ (f : Codes). Regular (out-ExprKind k) ty (f ty)) (sym (fold-roll-ExprKind Codes Asking step typed_by (out-ExprKind k))) (by_layer (out-ExprKind k) ty))

  opened : (e : Expr) → asks s e ≡ kind_asks s (out-Expr e).kind (type_of e)
  unfolding asks kind_asks
  opened e = ap into (sym (roll-out-Expr e)) ∙ fold-roll-Expr Codes Asking step typed_by (out-Expr e)

  read_behind : (ty : Ty) (r : Asked Lead) → behind r (reads ty) ≡ behind (behind r (λ a. given (Place a))) (valued_from ty)
  read_behind ty (Asks a needs) = refl

  same_behind : (ty : Ty) (r : Asked (Unit {0})) → r ≡ behind (behind r (λ v. given Value)) (valued_from ty)
  same_behind ty (Asks v needs) = refl

  place_behind : (ty : Ty) (r : Asked Lead) → r ≡ behind (behind r (λ a. given (Place a))) (reached_from ty)
  place_behind ty (Asks a needs) = refl

  loose_behind : (ty : Ty) (r : Asked (Unit {0})) → behind r (λ done. given (loose ty)) ≡ behind (behind r (λ v. given Value)) (reached_from ty)
  loose_behind ty (Asks v needs) = refl

  value_found : (b : Bool) (x : Asking) → Agrees b x → (needs : Needs) → x.value needs ≡ behind (found_by b x needs) (valued_from x.ty)
  value_found true x agrees needs = agrees needs ∙ read_behind x.ty (x.reach needs)
  value_found false x agrees needs = same_behind x.ty (x.value needs)

  reach_found : (b : Bool) (x : Asking) → Agrees b x → (needs : Needs) → x.reach needs ≡ behind (found_by b x needs) (reached_from x.ty)
  reach_found true x agrees needs = place_behind x.ty (x.reach needs)
  reach_found false x agrees needs = agrees needs ∙ loose_behind x.ty (x.value needs)

  pub evaluates-opens : (e : Expr) (needs : Needs) → evaluates s e needs ≡ behind (finds s (out-Expr e).kind (type_of e) needs) (valued_from (type_of e))
  unfolding evaluates finds
  evaluates-opens e needs =
      let k = (out-Expr e).kind in
      let ty = type_of e in
      let is = regular k ty in
      ap (λ (x : Asking). x.value needs) (opened e) ∙ value_found (leads (out-ExprKind k)) (kind_asks s k ty) is.agrees needs
      ∙ ap (λ t. behind (found_by (leads (out-ExprKind k)) (kind_asks s k ty) needs) (valued_from t)) is.typed

  pub reaches-opens : (e : Expr) (needs : Needs) → reaches s e needs ≡ behind (finds s (out-Expr e).kind (type_of e) needs) (reached_from (type_of e))
  unfolding reaches finds
  reaches-opens e needs =
      let k = (out-Expr e).kind in
      let ty = type_of e in
      let is = regular k ty in
      ap (λ (x : Asking). x.reach needs) (opened e) ∙ reach_found (leads (out-ExprKind k)) (kind_asks s k ty) is.agrees needs
      ∙ ap (λ t. behind (found_by (leads (out-ExprKind k)) (kind_asks s k ty) needs) (reached_from t)) is.typed

  -- ---- every kind

  finds_by : (k : ExprKind) (layer : ExprKind-F ExprKind Expr) (ty : Ty) (x : Asking) (needs : Needs) → out-ExprKind k ≡ layer → kind_asks s k ty ≡ x → finds s k ty needs ≡ found_by (leads layer) x needs
  unfolding finds
  finds_by k layer ty x needs is asked =
      ap (λ l. found_by (leads l) (kind_asks s k ty) needs) is ∙ ap (λ y. found_by (leads layer) y needs) asked

  pub finds-Const : (v : AnyValue) (ty : Ty) (needs : Needs) → finds s (kind.Const v) ty needs ≡ gave (step (ExprKind-F.Const v) ty).value needs
  unfolding kind_asks
  finds-Const v ty needs = finds_by (kind.Const v) (ExprKind-F.Const v) ty (step (ExprKind-F.Const v) ty) needs (outs-Const v) (ap (λ (f : Codes). f ty) (at.at-Const Codes Asking step typed_by v))

  pub finds-Local : (n : ℕ) (ty : Ty) (needs : Needs) → finds s (kind.Local n) ty needs ≡ led (step (ExprKind-F.Local n) ty).reach needs
  unfolding kind_asks
  finds-Local n ty needs = finds_by (kind.Local n) (ExprKind-F.Local n) ty (step (ExprKind-F.Local n) ty) needs (outs-Local n) (ap (λ (f : Codes). f ty) (at.at-Local Codes Asking step typed_by n))

  pub finds-Global : (n : ℕ) (ty : Ty) (needs : Needs) → finds s (kind.Global n) ty needs ≡ led (step (ExprKind-F.Global n) ty).reach needs
  unfolding kind_asks
  finds-Global n ty needs = finds_by (kind.Global n) (ExprKind-F.Global n) ty (step (ExprKind-F.Global n) ty) needs (outs-Global n) (ap (λ (f : Codes). f ty) (at.at-Global Codes Asking step typed_by n))

  pub finds-Param : (n : ℕ) (ty : Ty) (needs : Needs) → finds s (kind.Param n) ty needs ≡ led (step (ExprKind-F.Param n) ty).reach needs
  unfolding kind_asks
  finds-Param n ty needs = finds_by (kind.Param n) (ExprKind-F.Param n) ty (step (ExprKind-F.Param n) ty) needs (outs-Param n) (ap (λ (f : Codes). f ty) (at.at-Param Codes Asking step typed_by n))

  pub finds-BlockMember : (b : ℕ) (n : ℕ) (ty : Ty) (needs : Needs) → finds s (kind.BlockMember b n) ty needs ≡ led (step (ExprKind-F.BlockMember b n) ty).reach needs
  unfolding kind_asks
  finds-BlockMember b n ty needs = finds_by (kind.BlockMember b n) (ExprKind-F.BlockMember b n) ty (step (ExprKind-F.BlockMember b n) ty) needs (outs-BlockMember b n) (ap (λ (f : Codes). f ty) (at.at-BlockMember Codes Asking step typed_by b n))

  pub finds-Stage : (v : StageVar) (ty : Ty) (needs : Needs) → finds s (kind.Stage v) ty needs ≡ gave (step (ExprKind-F.Stage v) ty).value needs
  unfolding kind_asks
  finds-Stage v ty needs = finds_by (kind.Stage v) (ExprKind-F.Stage v) ty (step (ExprKind-F.Stage v) ty) needs (outs-Stage v) (ap (λ (f : Codes). f ty) (at.at-Stage Codes Asking step typed_by v))

  pub finds-Interface : (n : ℕ) (ty : Ty) (needs : Needs) → finds s (kind.Interface n) ty needs ≡ led (step (ExprKind-F.Interface n) ty).reach needs
  unfolding kind_asks
  finds-Interface n ty needs = finds_by (kind.Interface n) (ExprKind-F.Interface n) ty (step (ExprKind-F.Interface n) ty) needs (outs-Interface n) (ap (λ (f : Codes). f ty) (at.at-Interface Codes Asking step typed_by n))

  pub finds-Member : (a : Expr) (n : ℕ) (ty : Ty) (needs : Needs) → finds s (kind.Member a n) ty needs ≡ led (step (ExprKind-F.Member (said a) n) ty).reach needs
  unfolding kind_asks
  finds-Member a n ty needs = finds_by (kind.Member a n) (ExprKind-F.Member a n) ty (step (ExprKind-F.Member (into a) n) ty) needs (outs-Member a n) (ap (λ (f : Codes). f ty) (at.at-Member Codes Asking step typed_by a n)) ∙ ap (λ (x : Asking). led (step (ExprKind-F.Member x n) ty).reach needs) (named a)

  pub finds-Index : (a : Expr) (i : Expr) (ty : Ty) (needs : Needs) → finds s (kind.Index a i) ty needs ≡ led (step (ExprKind-F.Index (said a) (said i)) ty).reach needs
  unfolding kind_asks
  finds-Index a i ty needs = finds_by (kind.Index a i) (ExprKind-F.Index a i) ty (step (ExprKind-F.Index (into a) (into i)) ty) needs (outs-Index a i) (ap (λ (f : Codes). f ty) (at.at-Index Codes Asking step typed_by a i)) ∙ ap (λ (x : Asking). led (step (ExprKind-F.Index x (into i)) ty).reach needs) (named a) ∙ ap (λ (x : Asking). led (step (ExprKind-F.Index (said a) x) ty).reach needs) (named i)

  pub finds-Swizzle : (a : Expr) (l : Lanes) (ty : Ty) (needs : Needs) → finds s (kind.Swizzle a l) ty needs ≡ led (step (ExprKind-F.Swizzle (said a) l) ty).reach needs
  unfolding kind_asks
  finds-Swizzle a l ty needs = finds_by (kind.Swizzle a l) (ExprKind-F.Swizzle a l) ty (step (ExprKind-F.Swizzle (into a) l) ty) needs (outs-Swizzle a l) (ap (λ (f : Codes). f ty) (at.at-Swizzle Codes Asking step typed_by a l)) ∙ ap (λ (x : Asking). led (step (ExprKind-F.Swizzle x l) ty).reach needs) (named a)

  pub finds-Length : (a : Expr) (ty : Ty) (needs : Needs) → finds s (kind.Length a) ty needs ≡ gave (step (ExprKind-F.Length (said a)) ty).value needs
  unfolding kind_asks
  finds-Length a ty needs = finds_by (kind.Length a) (ExprKind-F.Length a) ty (step (ExprKind-F.Length (into a)) ty) needs (outs-Length a) (ap (λ (f : Codes). f ty) (at.at-Length Codes Asking step typed_by a)) ∙ ap (λ (x : Asking). gave (step (ExprKind-F.Length x) ty).value needs) (named a)

  pub finds-Unary : (o : UnaryOp) (a : Expr) (ty : Ty) (needs : Needs) → finds s (kind.Unary o a) ty needs ≡ gave (step (ExprKind-F.Unary o (said a)) ty).value needs
  unfolding kind_asks
  finds-Unary o a ty needs = finds_by (kind.Unary o a) (ExprKind-F.Unary o a) ty (step (ExprKind-F.Unary o (into a)) ty) needs (outs-Unary o a) (ap (λ (f : Codes). f ty) (at.at-Unary Codes Asking step typed_by o a)) ∙ ap (λ (x : Asking). gave (step (ExprKind-F.Unary o x) ty).value needs) (named a)

  pub finds-Binary : (o : BinaryOp) (a : Expr) (b : Expr) (ty : Ty) (needs : Needs) → finds s (kind.Binary o a b) ty needs ≡ gave (step (ExprKind-F.Binary o (said a) (said b)) ty).value needs
  unfolding kind_asks
  finds-Binary o a b ty needs = finds_by (kind.Binary o a b) (ExprKind-F.Binary o a b) ty (step (ExprKind-F.Binary o (into a) (into b)) ty) needs (outs-Binary o a b) (ap (λ (f : Codes). f ty) (at.at-Binary Codes Asking step typed_by o a b)) ∙ ap (λ (x : Asking). gave (step (ExprKind-F.Binary o x (into b)) ty).value needs) (named a) ∙ ap (λ (x : Asking). gave (step (ExprKind-F.Binary o (said a) x) ty).value needs) (named b)

  pub finds-Logic : (o : LogicOp) (a : Expr) (b : Expr) (ty : Ty) (needs : Needs) → finds s (kind.Logic o a b) ty needs ≡ gave (step (ExprKind-F.Logic o (said a) (said b)) ty).value needs
  unfolding kind_asks
  finds-Logic o a b ty needs = finds_by (kind.Logic o a b) (ExprKind-F.Logic o a b) ty (step (ExprKind-F.Logic o (into a) (into b)) ty) needs (outs-Logic o a b) (ap (λ (f : Codes). f ty) (at.at-Logic Codes Asking step typed_by o a b)) ∙ ap (λ (x : Asking). gave (step (ExprKind-F.Logic o x (into b)) ty).value needs) (named a) ∙ ap (λ (x : Asking). gave (step (ExprKind-F.Logic o (said a) x) ty).value needs) (named b)

  pub finds-Choose : (t : Expr) (a : Expr) (b : Expr) (ty : Ty) (needs : Needs) → finds s (kind.Choose t a b) ty needs ≡ gave (step (ExprKind-F.Choose (said t) (said a) (said b)) ty).value needs
  unfolding kind_asks
  finds-Choose t a b ty needs = finds_by (kind.Choose t a b) (ExprKind-F.Choose t a b) ty (step (ExprKind-F.Choose (into t) (into a) (into b)) ty) needs (outs-Choose t a b) (ap (λ (f : Codes). f ty) (at.at-Choose Codes Asking step typed_by t a b)) ∙ ap (λ (x : Asking). gave (step (ExprKind-F.Choose x (into a) (into b)) ty).value needs) (named t) ∙ ap (λ (x : Asking). gave (step (ExprKind-F.Choose (said t) x (into b)) ty).value needs) (named a) ∙ ap (λ (x : Asking). gave (step (ExprKind-F.Choose (said t) (said a) x) ty).value needs) (named b)

  pub finds-Assign : (a : Expr) (b : Expr) (ty : Ty) (needs : Needs) → finds s (kind.Assign a b) ty needs ≡ gave (step (ExprKind-F.Assign (said a) (said b)) ty).value needs
  unfolding kind_asks
  finds-Assign a b ty needs = finds_by (kind.Assign a b) (ExprKind-F.Assign a b) ty (step (ExprKind-F.Assign (into a) (into b)) ty) needs (outs-Assign a b) (ap (λ (f : Codes). f ty) (at.at-Assign Codes Asking step typed_by a b)) ∙ ap (λ (x : Asking). gave (step (ExprKind-F.Assign x (into b)) ty).value needs) (named a) ∙ ap (λ (x : Asking). gave (step (ExprKind-F.Assign (said a) x) ty).value needs) (named b)

  pub finds-Update : (o : BinaryOp) (a : Expr) (b : Expr) (ty : Ty) (needs : Needs) → finds s (kind.Update o a b) ty needs ≡ gave (step (ExprKind-F.Update o (said a) (said b)) ty).value needs
  unfolding kind_asks
  finds-Update o a b ty needs = finds_by (kind.Update o a b) (ExprKind-F.Update o a b) ty (step (ExprKind-F.Update o (into a) (into b)) ty) needs (outs-Update o a b) (ap (λ (f : Codes). f ty) (at.at-Update Codes Asking step typed_by o a b)) ∙ ap (λ (x : Asking). gave (step (ExprKind-F.Update o x (into b)) ty).value needs) (named a) ∙ ap (λ (x : Asking). gave (step (ExprKind-F.Update o (said a) x) ty).value needs) (named b)

  pub finds-Step : (o : StepOp) (a : Expr) (ty : Ty) (needs : Needs) → finds s (kind.Step o a) ty needs ≡ gave (step (ExprKind-F.Step o (said a)) ty).value needs
  unfolding kind_asks
  finds-Step o a ty needs = finds_by (kind.Step o a) (ExprKind-F.Step o a) ty (step (ExprKind-F.Step o (into a)) ty) needs (outs-Step o a) (ap (λ (f : Codes). f ty) (at.at-Step Codes Asking step typed_by o a)) ∙ ap (λ (x : Asking). gave (step (ExprKind-F.Step o x) ty).value needs) (named a)

  pub finds-Convert : (a : Expr) (ty : Ty) (needs : Needs) → finds s (kind.Convert a) ty needs ≡ gave (step (ExprKind-F.Convert (said a)) ty).value needs
  unfolding kind_asks
  finds-Convert a ty needs = finds_by (kind.Convert a) (ExprKind-F.Convert a) ty (step (ExprKind-F.Convert (into a)) ty) needs (outs-Convert a) (ap (λ (f : Codes). f ty) (at.at-Convert Codes Asking step typed_by a)) ∙ ap (λ (x : Asking). gave (step (ExprKind-F.Convert x) ty).value needs) (named a)

  -- ---- rows

  by_own : (b rest : Bool) (n : ℕ) → rest ≡ nat_lt 0 n → b || rest ≡ nat_lt 0 (one_if b + n)
  by_own true rest n is = grind (arith, nat_tests)
  by_own false rest n is = is ∙ ap (nat_lt 0) (let e : n ≡ 0 + n = omega arith in e)

  any_same : (es : List Expr) → any_splits (map into es) ≡ waits_for es
  any_same [] = refl
  any_same (e ∷ es) = ap (λ (x : Asking). x.traits.splits || any_splits (map into es)) (named e) ∙ by_own (traits_of e).splits (any_splits (map into es)) (count_splits es) (any_same es)

  pub keeps-opens : (e : Expr) (es : List Expr) (needs : Needs) → keeps_all s (e ∷ es) needs ≡ behind (evaluates s e needs) (λ x. hold (waits_for es) (type_of e) >>= (λ done. keeps_all s es))
  unfolding keeps_all keeps evaluates asks
  keeps-opens e es needs =
      ap (λ b. behind ((into e).value needs) (λ x. hold b (into e).ty >>= (λ done. keeps (map into es)))) (any_same es)
      ∙ ap (λ (y : Asking). behind ((into e).value needs) (λ x. hold (waits_for es) y.ty >>= (λ done. keeps (map into es)))) (named e)

  pub keeps-ends : (needs : Needs) → keeps_all s [] needs ≡ Asks tt needs
  unfolding keeps_all keeps
  keeps-ends needs = refl

  pub sequence-opens : (e : Expr) (es : List Expr) (needs : Needs) → sequence_of s (e ∷ es) needs ≡ behind (evaluates s e needs) (λ x. sequence_of s es)
  unfolding sequence_of sequence evaluates
  sequence-opens e es needs = refl

  pub sequence-ends : (needs : Needs) → sequence_of s [] needs ≡ Asks tt needs
  unfolding sequence_of sequence
  sequence-ends needs = refl

  pub passes-In : (waits : Bool) (t : Ty) (e : Expr) (needs : Needs) → passes s waits In t e needs ≡ behind (evaluates s e needs) (λ x. in_holder t)
  unfolding passes evaluates
  passes-In waits t e needs = refl

  pub passes-Out : (waits : Bool) (t : Ty) (e : Expr) (needs : Needs) → passes s waits Out t e needs ≡ behind (reaches s e needs) (passed_out waits t)
  unfolding passes reaches
  passes-Out waits t e needs = refl

  pub passes-InOut : (waits : Bool) (t : Ty) (e : Expr) (needs : Needs) → passes s waits InOut t e needs ≡ behind (reaches s e needs) (passed_both waits t (type_of e))
  unfolding passes reaches asks
  passes-InOut waits t e needs = ap (λ (x : Asking). behind ((into e).reach needs) (passed_both waits t x.ty)) (named e)

  pub passes_all-opens : (e : Expr) (es : List Expr) (param : Direction × Ty) (params : List (Direction × Ty)) (needs : Needs)
      → passes_all s (e ∷ es) (param ∷ params) needs ≡ behind (passes s (waits_for es) param.0 param.1 e needs) (λ done. passes_all s es params)
  unfolding passes_all passing_all passes asks
  passes_all-opens e es param params needs = ap (λ b. behind (passing b param.0 param.1 (into e) needs) (λ done. passing_all (map into es) params)) (any_same es)

  pub passes_all-ends : (params : List (Direction × Ty)) (needs : Needs) → passes_all s [] params needs ≡ Asks tt needs
  unfolding passes_all passing_all
  passes_all-ends params needs = refl

  pub finds-Call : (n : ℕ) (es : List Expr) (ty : Ty) (needs : Needs) → finds s (kind.Call n es) ty needs ≡ gave (passes_all s es (params_of (slice_get s n))) needs
  unfolding kind_asks passes_all asks
  finds-Call n es ty needs = finds_by (kind.Call n es) (ExprKind-F.Call n es) ty (step (ExprKind-F.Call n (map into es)) ty) needs (outs-Call n es) (ap (λ (f : Codes). f ty) (at.at-Call Codes Asking step typed_by n es))

  pub finds-Built : (f : Builtin) (es : List Expr) (ty : Ty) (needs : Needs) → finds s (kind.Built f es) ty needs ≡ gave (keeps_all s es) needs
  unfolding kind_asks keeps_all asks
  finds-Built f es ty needs = finds_by (kind.Built f es) (ExprKind-F.Built f es) ty (step (ExprKind-F.Built f (map into es)) ty) needs (outs-Built f es) (ap (λ (g : Codes). g ty) (at.at-Built Codes Asking step typed_by f es))

  pub finds-Build : (es : List Expr) (ty : Ty) (needs : Needs) → finds s (kind.Build es) ty needs ≡ gave (keeps_all s es >>= (λ done. built_of ty)) needs
  unfolding kind_asks keeps_all asks
  finds-Build es ty needs = finds_by (kind.Build es) (ExprKind-F.Build es) ty (step (ExprKind-F.Build (map into es)) ty) needs (outs-Build es) (ap (λ (g : Codes). g ty) (at.at-Build Codes Asking step typed_by es))

  pub finds-Comma : (es : List Expr) (ty : Ty) (needs : Needs) → finds s (kind.Comma es) ty needs ≡ gave (sequence_of s es) needs
  unfolding kind_asks sequence_of asks
  finds-Comma es ty needs = finds_by (kind.Comma es) (ExprKind-F.Comma es) ty (step (ExprKind-F.Comma (map into es)) ty) needs (outs-Comma es) (ap (λ (g : Codes). g ty) (at.at-Comma Codes Asking step typed_by es))

pub ruleset asks_step = (evaluates-opens, reaches-opens, finds-Const, finds-Local, finds-Global, finds-Param, finds-BlockMember, finds-Stage, finds-Interface, finds-Member, finds-Index, finds-Swizzle, finds-Length, finds-Unary, finds-Binary, finds-Logic, finds-Choose, finds-Assign, finds-Update, finds-Step, finds-Convert, finds-Call, finds-Built, finds-Build, finds-Comma, passes-In, passes-Out, passes-InOut)
