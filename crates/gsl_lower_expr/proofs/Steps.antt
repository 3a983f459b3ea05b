-- What is found of each kind of expression, from what is known and found of its parts.
use Rattle.std.proofs.Common.{◌≡◌, refl, sym, ap, subst, ◌∙◌, ℕ, List, [], ◌∷◌, map, arith}
use Rattle.std.proofs.lemmas.Bool.Decides.{nat_tests}
use Rattle.std.specs.Prelude.{Bool, true, false, ◌||◌, ◌+◌, nat_lt, slice_get}
use Rattle.gsl_types.specs.declared.ty.Ty.{Ty}
use Rattle.gsl_values.specs.declared.function.Builtin.{Builtin}
use Rattle.gsl_values.specs.declared.lane.Lanes.{Lanes}
use Rattle.gsl_values.specs.declared.op.BinaryOp.{BinaryOp}
use Rattle.gsl_values.specs.declared.op.UnaryOp.{UnaryOp}
use Rattle.gsl_values.specs.declared.value.Value.{Value}
use Rattle.gsl_tree.specs.declared.expr.Expr.{Expr, out-Expr}
use Rattle.gsl_tree.specs.declared.expr.ExprKind.{ExprKind, out-ExprKind}
use Rattle.gsl_tree.specs.declared.expr.ExprKind.TheFolds.{fold-Expr, fold-ExprKind, fold-roll-Expr, fold-roll-ExprKind, ind-Expr, map-Expr, map-ExprKind}
use Rattle.gsl_tree.specs.declared.expr.ExprKind.TheOpen.{ExprKind-F, Expr-F}
use Rattle.gsl_tree.specs.declared.expr.ExprKind.TheVariants as kind
use Rattle.gsl_tree.specs.declared.expr.ExprKind.TheVariants.{outs-Const, outs-Local, outs-Global, outs-Param, outs-BlockMember, outs-Stage, outs-Interface, outs-Member, outs-Index, outs-Swizzle, outs-Length, outs-Unary, outs-Binary, outs-Logic, outs-Choose, outs-Assign, outs-Update, outs-Step, outs-Call, outs-Built, outs-Build, outs-Convert, outs-Comma}
use Rattle.gsl_tree.specs.declared.expr.ExprKind.TheViews.{roll-Expr, roll-ExprKind, roll-out-Expr, roll-out-ExprKind}
use Rattle.gsl_tree.specs.declared.expr.LogicOp.{LogicOp}
use Rattle.gsl_tree.specs.declared.expr.StageVar.{StageVar}
use Rattle.gsl_tree.specs.declared.expr.StepOp.{StepOp}
use Rattle.gsl_tree.specs.Trees.{type_of}
use Rattle.gsl_tree.proofs.Folds as at
use Rattle.gsl_lower_places.specs.declared.reached.Reached.{Reached}
use Rattle.gsl_lower_traits.specs.declared.traits.Traits.{Traits}
use Rattle.gsl_lower_expr.specs.declared.found.Found.TheVariants.{Place, Value as Valued}
use Rattle.gsl_lower_holders.specs.Flow.{Emit, Flow, Lowered, Gives, Lacks, ◌>>=◌, behind, given, lift}
use Rattle.gsl_lower_traits.specs.Traits.{Known, known, known_by, traits_by, traits_of}
use Rattle.gsl_lower_expr.specs.Parts.{Lower, any_splits, built_from, fetches, keeps, known_of, loose_value, reads, sequence, shape_or, typed}
use Rattle.gsl_lower_expr.specs.Lowering.{Setting, kind_lowers, lowered_by, lowers, typed_by}
use Rattle.gsl_types.specs.declared.ty.Direction.{Direction}
use Rattle.gsl_types.specs.declared.ty.Direction.TheVariants.{In, Out, InOut}
use Rattle.gsl_types.specs.declared.ty.StructType.{StructType}
use Rattle.gsl_tree.specs.Weights.{params_of}
use Rattle.gsl_tree.specs.declared.unit.Interface.{Interface}
use Rattle.gsl_tree.specs.declared.unit.Prototype.{Prototype}
use Rattle.gsl_lower_expr.specs.Calls.{called_with as passed_with, going_in, passed_both, passed_out, passing, passing_all, tys}
use Rattle.gsl_lower_expr.specs.Coming.{calls, passes, passes_all, setting_of, evaluates, finds, found_by, gave, keeps_all, leads, led, length_from, lengths, reached_from, reaches, sequence_of, valued_from}
use Rattle.gsl_lower_expr.specs.Rows.{called_with, constructed_with, count_splits, fetches_all, one_if, typed_all, waits_for}
use Rattle.gsl_lower_holders.specs.Waiting.{fetch, hold}
use Rattle.gsl_lower_values.specs.Builtins.{called}
use Rattle.gsl_lower_values.specs.Constructors.{operand}
use Rattle.gsl_lower_values.specs.declared.operand.Operand.{Operand}
use Rattle.gsl_tree.specs.Shapes.{shape_of}
use Rattle.gsl_lower_traits.proofs.Known.{named as named_known}

module _ (s : Setting) where
  abbrev Codes : Type 0
  Codes = Ty → Lower

  abbrev Kinds : Type 0
  Kinds = Ty → Traits

  abbrev step : ExprKind-F Codes Lower → Codes
  step = lowered_by s

  abbrev into : Expr → Lower
  into = fold-Expr Codes Lower step typed_by

  abbrev of_kinds : ExprKind → Codes
  of_kinds = fold-ExprKind Codes Lower step typed_by

  abbrev kinds_known : ExprKind → Kinds
  kinds_known = fold-ExprKind Kinds Known traits_by known_by

  -- ---- what is known is the same

  abbrev OfKind : ExprKind → Type 0
  OfKind k = (ty : Ty) → known_of (of_kinds k ty) ≡ record { ty = ty; traits = kinds_known k ty }

  abbrev OfExpr : Expr → Type 0
  OfExpr e = known_of (into e) ≡ known e

  all_known : (es : List ((e : Expr) × OfExpr e)) → map known_of (map into (map (λ e. e.0) es)) ≡ map known (map (λ e. e.0) es)
  all_known [] = refl
  all_known (e ∷ es) = ap (λ x. x ∷ map known_of (map into (map (λ e. e.0) es))) e.1 ∙ ap (λ l. known e.0 ∷ l) (all_known es)

  by_kind : (y : ExprKind-F ((k : ExprKind) × OfKind k) ((e : Expr) × OfExpr e)) → OfKind (roll-ExprKind (map-ExprKind _ _ _ _ (λ k. k.0) (λ e. e.0) y))
  by_kind (ExprKind-F.Const v) ty = ap (λ (f : Codes). known_of (f ty)) (fold-roll-ExprKind Codes Lower step typed_by (ExprKind-F.Const v)) ∙ sym (ap (λ (f : Kinds). let y : Known = record { ty = ty; traits = f ty } in y) (fold-roll-ExprKind Kinds Known traits_by known_by (ExprKind-F.Const v)))
  by_kind (ExprKind-F.Local n) ty = ap (λ (f : Codes). known_of (f ty)) (fold-roll-ExprKind Codes Lower step typed_by (ExprKind-F.Local n)) ∙ sym (ap (λ (f : Kinds). let y : Known = record { ty = ty; traits = f ty } in y) (fold-roll-ExprKind Kinds Known traits_by known_by (ExprKind-F.Local n)))
  by_kind (ExprKind-F.Global n) ty = ap (λ (f : Codes). known_of (f ty)) (fold-roll-ExprKind Codes Lower step typed_by (ExprKind-F.Global n)) ∙ sym (ap (λ (f : Kinds). let y : Known = record { ty = ty; traits = f ty } in y) (fold-roll-ExprKind Kinds Known traits_by known_by (ExprKind-F.Global n)))
  by_kind (ExprKind-F.Param n) ty = ap (λ (f : Codes). known_of (f ty)) (fold-roll-ExprKind Codes Lower step typed_by (ExprKind-F.Param n)) ∙ sym (ap (λ (f : Kinds). let y : Known = record { ty = ty; traits = f ty } in y) (fold-roll-ExprKind Kinds Known traits_by known_by (ExprKind-F.Param n)))
  by_kind (ExprKind-F.BlockMember b n) ty = ap (λ (f : Codes). known_of (f ty)) (fold-roll-ExprKind Codes Lower step typed_by (ExprKind-F.BlockMember b n)) ∙ sym (ap (λ (f : Kinds). let y : Known = record { ty = ty; traits = f ty } in y) (fold-roll-ExprKind Kinds Known traits_by known_by (ExprKind-F.BlockMember b n)))
  by_kind (ExprKind-F.Stage v) ty = ap (λ (f : Codes). known_of (f ty)) (fold-roll-ExprKind Codes Lower step typed_by (ExprKind-F.Stage v)) ∙ sym (ap (λ (f : Kinds). let y : Known = record { ty = ty; traits = f ty } in y) (fold-roll-ExprKind Kinds Known traits_by known_by (ExprKind-F.Stage v)))
  by_kind (ExprKind-F.Interface n) ty = ap (λ (f : Codes). known_of (f ty)) (fold-roll-ExprKind Codes Lower step typed_by (ExprKind-F.Interface n)) ∙ sym (ap (λ (f : Kinds). let y : Known = record { ty = ty; traits = f ty } in y) (fold-roll-ExprKind Kinds Known traits_by known_by (ExprKind-F.Interface n)))
  by_kind (ExprKind-F.Member a n) ty = ap (λ (f : Codes). known_of (f ty)) (fold-roll-ExprKind Codes Lower step typed_by (ExprKind-F.Member a.0 n)) ∙ ap (λ (x : Known). let y : Known = record { ty = ty; traits = traits_by (ExprKind-F.Member x n) ty } in y) a.1 ∙ sym (ap (λ (f : Kinds). let y : Known = record { ty = ty; traits = f ty } in y) (fold-roll-ExprKind Kinds Known traits_by known_by (ExprKind-F.Member a.0 n)))
  by_kind (ExprKind-F.Index a i) ty = ap (λ (f : Codes). known_of (f ty)) (fold-roll-ExprKind Codes Lower step typed_by (ExprKind-F.Index a.0 i.0)) ∙ ap (λ (x : Known). let y : Known = record { ty = ty; traits = traits_by (ExprKind-F.Index x (known_of (into i.0))) ty } in y) a.1 ∙ ap (λ (x : Known). let y : Known = record { ty = ty; traits = traits_by (ExprKind-F.Index (known a.0) x) ty } in y) i.1 ∙ sym (ap (λ (f : Kinds). let y : Known = record { ty = ty; traits = f ty } in y) (fold-roll-ExprKind Kinds Known traits_by known_by (ExprKind-F.Index a.0 i.0)))
  by_kind (ExprKind-F.Swizzle a l) ty = ap (λ (f : Codes). known_of (f ty)) (fold-roll-ExprKind Codes Lower step typed_by (ExprKind-F.Swizzle a.0 l)) ∙ ap (λ (x : Known). let y : Known = record { ty = ty; traits = traits_by (ExprKind-F.Swizzle x l) ty } in y) a.1 ∙ sym (ap (λ (f : Kinds). let y : Known = record { ty = ty; traits = f ty } in y) (fold-roll-ExprKind Kinds Known traits_by known_by (ExprKind-F.Swizzle a.0 l)))
  by_kind (ExprKind-F.Length a) ty = ap (λ (f : Codes). known_of (f ty)) (fold-roll-ExprKind Codes Lower step typed_by (ExprKind-F.Length a.0)) ∙ ap (λ (x : Known). let y : Known = record { ty = ty; traits = traits_by (ExprKind-F.Length x) ty } in y) a.1 ∙ sym (ap (λ (f : Kinds). let y : Known = record { ty = ty; traits = f ty } in y) (fold-roll-ExprKind Kinds Known traits_by known_by (ExprKind-F.Length a.0)))
  by_kind (ExprKind-F.Unary o a) ty = ap (λ (f : Codes). known_of (f ty)) (fold-roll-ExprKind Codes Lower step typed_by (ExprKind-F.Unary o a.0)) ∙ ap (λ (x : Known). let y : Known = record { ty = ty; traits = traits_by (ExprKind-F.Unary o x) ty } in y) a.1 ∙ sym (ap (λ (f : Kinds). let y : Known = record { ty = ty; traits = f ty } in y) (fold-roll-ExprKind Kinds Known traits_by known_by (ExprKind-F.Unary o a.0)))
  by_kind (ExprKind-F.Binary o a b) ty = ap (λ (f : Codes). known_of (f ty)) (fold-roll-ExprKind Codes Lower step typed_by (ExprKind-F.Binary o a.0 b.0)) ∙ ap (λ (x : Known). let y : Known = record { ty = ty; traits = traits_by (ExprKind-F.Binary o x (known_of (into b.0))) ty } in y) a.1 ∙ ap (λ (x : Known). let y : Known = record { ty = ty; traits = traits_by (ExprKind-F.Binary o (known a.0) x) ty } in y) b.1 ∙ sym (ap (λ (f : Kinds). let y : Known = record { ty = ty; traits = f ty } in y) (fold-roll-ExprKind Kinds Known traits_by known_by (ExprKind-F.Binary o a.0 b.0)))
  by_kind (ExprKind-F.Logic o a b) ty = ap (λ (f : Codes). known_of (f ty)) (fold-roll-ExprKind Codes Lower step typed_by (ExprKind-F.Logic o a.0 b.0)) ∙ ap (λ (x : Known). let y : Known = record { ty = ty; traits = traits_by (ExprKind-F.Logic o x (known_of (into b.0))) ty } in y) a.1 ∙ ap (λ (x : Known). let y : Known = record { ty = ty; traits = traits_by (ExprKind-F.Logic o (known a.0) x) ty } in y) b.1 ∙ sym (ap (λ (f : Kinds). let y : Known = record { ty = ty; traits = f ty } in y) (fold-roll-ExprKind Kinds Known traits_by known_by (ExprKind-F.Logic o a.0 b.0)))
  by_kind (ExprKind-F.Choose t a b) ty = ap (λ (f : Codes). known_of (f ty)) (fold-roll-ExprKind Codes Lower step typed_by (ExprKind-F.Choose t.0 a.0 b.0)) ∙ ap (λ (x : Known). let y : Known = record { ty = ty; traits = traits_by (ExprKind-F.Choose x (known_of (into a.0)) (known_of (into b.0))) ty } in y) t.1 ∙ ap (λ (x : Known). let y : Known = record { ty = ty; traits = traits_by (ExprKind-F.Choose (known t.0) x (known_of (into b.0))) ty } in y) a.1 ∙ ap (λ (x : Known). let y : Known = record { ty = ty; traits = traits_by (ExprKind-F.Choose (known t.0) (known a.0) x) ty } in y) b.1 ∙ sym (ap (λ (f : Kinds). let y : Known = record { ty = ty; traits = f ty } in y) (fold-roll-ExprKind Kinds Known traits_by known_by (ExprKind-F.Choose t.0 a.0 b.0)))
  by_kind (ExprKind-F.Assign a b) ty = ap (λ (f : Codes). known_of (f ty)) (fold-roll-ExprKind Codes Lower step typed_by (ExprKind-F.Assign a.0 b.0)) ∙ ap (λ (x : Known). let y : Known = record { ty = ty; traits = traits_by (ExprKind-F.Assign x (known_of (into b.0))) ty } in y) a.1 ∙ ap (λ (x : Known). let y : Known = record { ty = ty; traits = traits_by (ExprKind-F.Assign (known a.0) x) ty } in y) b.1 ∙ sym (ap (λ (f : Kinds). let y : Known = record { ty = ty; traits = f ty } in y) (fold-roll-ExprKind Kinds Known traits_by known_by (ExprKind-F.Assign a.0 b.0)))
  by_kind (ExprKind-F.Update o a b) ty = ap (λ (f : Codes). known_of (f ty)) (fold-roll-ExprKind Codes Lower step typed_by (ExprKind-F.Update o a.0 b.0)) ∙ ap (λ (x : Known). let y : Known = record { ty = ty; traits = traits_by (ExprKind-F.Update o x (known_of (into b.0))) ty } in y) a.1 ∙ ap (λ (x : Known). let y : Known = record { ty = ty; traits = traits_by (ExprKind-F.Update o (known a.0) x) ty } in y) b.1 ∙ sym (ap (λ (f : Kinds). let y : Known = record { ty = ty; traits = f ty } in y) (fold-roll-ExprKind Kinds Known traits_by known_by (ExprKind-F.Update o a.0 b.0)))
  by_kind (ExprKind-F.Step o a) ty = ap (λ (f : Codes). known_of (f ty)) (fold-roll-ExprKind Codes Lower step typed_by (ExprKind-F.Step o a.0)) ∙ ap (λ (x : Known). let y : Known = record { ty = ty; traits = traits_by (ExprKind-F.Step o x) ty } in y) a.1 ∙ sym (ap (λ (f : Kinds). let y : Known = record { ty = ty; traits = f ty } in y) (fold-roll-ExprKind Kinds Known traits_by known_by (ExprKind-F.Step o a.0)))
  by_kind (ExprKind-F.Call n es) ty = ap (λ (f : Codes). known_of (f ty)) (fold-roll-ExprKind Codes Lower step typed_by (ExprKind-F.Call n (map (λ e. e.0) es))) ∙ ap (λ (x : List Known). let y : Known = record { ty = ty; traits = traits_by (ExprKind-F.Call n x) ty } in y) (all_known es) ∙ sym (ap (λ (f : Kinds). let y : Known = record { ty = ty; traits = f ty } in y) (fold-roll-ExprKind Kinds Known traits_by known_by (ExprKind-F.Call n (map (λ e. e.0) es))))
  by_kind (ExprKind-F.Built f es) ty = ap (λ (f : Codes). known_of (f ty)) (fold-roll-ExprKind Codes Lower step typed_by (ExprKind-F.Built f (map (λ e. e.0) es))) ∙ ap (λ (x : List Known). let y : Known = record { ty = ty; traits = traits_by (ExprKind-F.Built f x) ty } in y) (all_known es) ∙ sym (ap (λ (f : Kinds). let y : Known = record { ty = ty; traits = f ty } in y) (fold-roll-ExprKind Kinds Known traits_by known_by (ExprKind-F.Built f (map (λ e. e.0) es))))
  by_kind (ExprKind-F.Build es) ty = ap (λ (f : Codes). known_of (f ty)) (fold-roll-ExprKind Codes Lower step typed_by (ExprKind-F.Build (map (λ e. e.0) es))) ∙ ap (λ (x : List Known). let y : Known = record { ty = ty; traits = traits_by (ExprKind-F.Build x) ty } in y) (all_known es) ∙ sym (ap (λ (f : Kinds). let y : Known = record { ty = ty; traits = f ty } in y) (fold-roll-ExprKind Kinds Known traits_by known_by (ExprKind-F.Build (map (λ e. e.0) es))))
  by_kind (ExprKind-F.Convert a) ty = ap (λ (f : Codes). known_of (f ty)) (fold-roll-ExprKind Codes Lower step typed_by (ExprKind-F.Convert a.0)) ∙ ap (λ (x : Known). let y : Known = record { ty = ty; traits = traits_by (ExprKind-F.Convert x) ty } in y) a.1 ∙ sym (ap (λ (f : Kinds). let y : Known = record { ty = ty; traits = f ty } in y) (fold-roll-ExprKind Kinds Known traits_by known_by (ExprKind-F.Convert a.0)))
  by_kind (ExprKind-F.Comma es) ty = ap (λ (f : Codes). known_of (f ty)) (fold-roll-ExprKind Codes Lower step typed_by (ExprKind-F.Comma (map (λ e. e.0) es))) ∙ ap (λ (x : List Known). let y : Known = record { ty = ty; traits = traits_by (ExprKind-F.Comma x) ty } in y) (all_known es) ∙ sym (ap (λ (f : Kinds). let y : Known = record { ty = ty; traits = f ty } in y) (fold-roll-ExprKind Kinds Known traits_by known_by (ExprKind-F.Comma (map (λ e. e.0) es))))

  by_expr : (y : Expr-F ((k : ExprKind) × OfKind k) ((e : Expr) × OfExpr e)) → OfExpr (roll-Expr (map-Expr _ _ _ _ (λ k. k.0) (λ e. e.0) y))
  by_expr y =
      let z = map-Expr _ _ _ _ (λ k. k.0) (λ e. e.0) y in
      ap known_of (fold-roll-Expr Codes Lower step typed_by z) ∙ y.kind.1 y.ty ∙ sym (fold-roll-Expr Kinds Known traits_by known_by z)

  same : (e : Expr) → OfExpr e
  same = ind-Expr OfKind OfExpr (λ x y is. subst (λ z. OfKind (roll-ExprKind z)) is (by_kind y)) (λ x y is. subst (λ z. OfExpr (roll-Expr z)) is (by_expr y))

  -- an expression by the words for what it is lowered to
  abbrev said : Expr → Lower
  said e = record { ty = type_of e; traits = traits_of e; reach = reaches s e; value = evaluates s e; length = lengths s e }

  pub named : (e : Expr) → into e ≡ said e
  unfolding reaches evaluates lengths lowers
  named e = ap (λ (k : Known). let x : Lower = record { ty = k.ty; traits = k.traits; reach = (into e).reach; value = (into e).value; length = (into e).length } in x) (same e ∙ named_known e)

  all_named : (es : List Expr) → map into es ≡ map said es
  all_named [] = refl
  all_named (e ∷ es) = ap (λ x. x ∷ map into es) (named e) ∙ ap (λ l. said e ∷ l) (all_named es)

  -- ---- an expression, from what was found

  -- What leads to a variable has the value that is read there; the rest is a value in no variable.
  abbrev Agrees : Bool → Lower → Type 0
  Agrees true x = (flow : Flow) → x.value flow ≡ behind (x.reach flow) (reads s.structs x.ty)
  Agrees false x = (flow : Flow) → x.reach flow ≡ behind (x.value flow) (loose_value x.ty)

  record Regular (layer : ExprKind-F ExprKind Expr) (ty : Ty) (x : Lower) : Type 0 where
    pub typed : x.ty ≡ ty
    pub agrees : Agrees (leads layer) x
    pub counted : x.length ≡ length_from layer

  by_layer : (y : ExprKind-F ExprKind Expr) (ty : Ty) → Regular y ty (step (map-ExprKind _ _ _ _ of_kinds into y) ty)
  by_layer (ExprKind-F.Const v) ty = record { typed = refl; agrees = λ flow. refl; counted = refl }
  by_layer (ExprKind-F.Local n) ty = record { typed = refl; agrees = λ flow. refl; counted = refl }
  by_layer (ExprKind-F.Global n) ty = record { typed = refl; agrees = λ flow. refl; counted = refl }
  by_layer (ExprKind-F.Param n) ty = record { typed = refl; agrees = λ flow. refl; counted = refl }
  by_layer (ExprKind-F.BlockMember b n) ty = record { typed = refl; agrees = λ flow. refl; counted = refl }
  by_layer (ExprKind-F.Stage v) ty = record { typed = refl; agrees = λ flow. refl; counted = refl }
  by_layer (ExprKind-F.Interface n) ty = record { typed = refl; agrees = λ flow. refl; counted = refl }
  by_layer (ExprKind-F.Member a n) ty = record { typed = refl; agrees = λ flow. refl; counted = refl }
  by_layer (ExprKind-F.Index a i) ty = record { typed = refl; agrees = λ flow. refl; counted = refl }
  by_layer (ExprKind-F.Swizzle a l) ty = record { typed = refl; agrees = λ flow. refl; counted = refl }
  by_layer (ExprKind-F.Length a) ty = record { typed = refl; agrees = λ flow. refl; counted = refl }
  by_layer (ExprKind-F.Unary o a) ty = record { typed = refl; agrees = λ flow. refl; counted = refl }
  by_layer (ExprKind-F.Binary o a b) ty = record { typed = refl; agrees = λ flow. refl; counted = refl }
  by_layer (ExprKind-F.Logic o a b) ty = record { typed = refl; agrees = λ flow. refl; counted = refl }
  by_layer (ExprKind-F.Choose t a b) ty = record { typed = refl; agrees = λ flow. refl; counted = refl }
  by_layer (ExprKind-F.Assign a b) ty = record { typed = refl; agrees = λ flow. refl; counted = refl }
  by_layer (ExprKind-F.Update o a b) ty = record { typed = refl; agrees = λ flow. refl; counted = refl }
  by_layer (ExprKind-F.Step o a) ty = record { typed = refl; agrees = λ flow. refl; counted = refl }
  by_layer (ExprKind-F.Call n es) ty = record { typed = refl; agrees = λ flow. refl; counted = refl }
  by_layer (ExprKind-F.Built f es) ty = record { typed = refl; agrees = λ flow. refl; counted = refl }
  by_layer (ExprKind-F.Build es) ty = record { typed = refl; agrees = λ flow. refl; counted = refl }
  by_layer (ExprKind-F.Convert a) ty = record { typed = refl; agrees = λ flow. refl; counted = refl }
  by_layer (ExprKind-F.Comma es) ty = record { typed = refl; agrees = λ flow. refl; counted = refl }

  regular : (k : ExprKind) (ty : Ty) → Regular (out-ExprKind k) ty (kind_lowers s k ty)
  unfolding kind_lowers
  regular k ty =
      subst (λ z. Regular (out-ExprKind k) ty (of_kinds z ty)) (roll-out-ExprKind k)
      (subst (λ (f : Codes). Regular (out-ExprKind k) ty (f ty)) (sym (fold-roll-ExprKind Codes Lower step typed_by (out-ExprKind k))) (by_layer (out-ExprKind k) ty))

  opened : (e : Expr) → lowers s e ≡ kind_lowers s (out-Expr e).kind (type_of e)
  unfolding lowers kind_lowers
  opened e = ap into (sym (roll-out-Expr e)) ∙ fold-roll-Expr Codes Lower step typed_by (out-Expr e)

  read_behind : (ty : Ty) (r : Lowered Reached) → behind r (reads s.structs ty) ≡ behind (behind r (λ a. given (Place a))) (valued_from s.structs ty)
  read_behind ty (Gives a flow) = refl
  read_behind ty Lacks = refl

  same_behind : (ty : Ty) (r : Lowered ℕ) → r ≡ behind (behind r (λ v. given (Valued v))) (valued_from s.structs ty)
  same_behind ty (Gives v flow) = refl
  same_behind ty Lacks = refl

  place_behind : (ty : Ty) (r : Lowered Reached) → r ≡ behind (behind r (λ a. given (Place a))) (reached_from ty)
  place_behind ty (Gives a flow) = refl
  place_behind ty Lacks = refl

  loose_behind : (ty : Ty) (r : Lowered ℕ) → behind r (loose_value ty) ≡ behind (behind r (λ v. given (Valued v))) (reached_from ty)
  loose_behind ty (Gives v flow) = refl
  loose_behind ty Lacks = refl

  value_found : (b : Bool) (x : Lower) → Agrees b x → (flow : Flow) → x.value flow ≡ behind (found_by b x flow) (valued_from s.structs x.ty)
  value_found true x agrees flow = agrees flow ∙ read_behind x.ty (x.reach flow)
  value_found false x agrees flow = same_behind x.ty (x.value flow)

  reach_found : (b : Bool) (x : Lower) → Agrees b x → (flow : Flow) → x.reach flow ≡ behind (found_by b x flow) (reached_from x.ty)
  reach_found true x agrees flow = place_behind x.ty (x.reach flow)
  reach_found false x agrees flow = agrees flow ∙ loose_behind x.ty (x.value flow)

  pub evaluates-opens : (e : Expr) (flow : Flow) → evaluates s e flow ≡ behind (finds s (out-Expr e).kind (type_of e) flow) (valued_from s.structs (type_of e))
  unfolding evaluates finds
  evaluates-opens e flow =
      let k = (out-Expr e).kind in
      let ty = type_of e in
      let is = regular k ty in
      ap (λ (x : Lower). x.value flow) (opened e) ∙ value_found (leads (out-ExprKind k)) (kind_lowers s k ty) is.agrees flow
      ∙ ap (λ t. behind (found_by (leads (out-ExprKind k)) (kind_lowers s k ty) flow) (valued_from s.structs t)) is.typed

  pub reaches-opens : (e : Expr) (flow : Flow) → reaches s e flow ≡ behind (finds s (out-Expr e).kind (type_of e) flow) (reached_from (type_of e))
  unfolding reaches finds
  reaches-opens e flow =
      let k = (out-Expr e).kind in
      let ty = type_of e in
      let is = regular k ty in
      ap (λ (x : Lower). x.reach flow) (opened e) ∙ reach_found (leads (out-ExprKind k)) (kind_lowers s k ty) is.agrees flow
      ∙ ap (λ t. behind (found_by (leads (out-ExprKind k)) (kind_lowers s k ty) flow) (reached_from t)) is.typed

  pub lengths-opens : (e : Expr) → lengths s e ≡ length_from (out-ExprKind (out-Expr e).kind)
  unfolding lengths
  lengths-opens e = ap (λ (x : Lower). x.length) (opened e) ∙ (regular (out-Expr e).kind (type_of e)).counted

  -- ---- every kind

  finds_by : (k : ExprKind) (layer : ExprKind-F ExprKind Expr) (ty : Ty) (x : Lower) (flow : Flow) → out-ExprKind k ≡ layer → kind_lowers s k ty ≡ x → finds s k ty flow ≡ found_by (leads layer) x flow
  unfolding finds
  finds_by k layer ty x flow is lowered =
      ap (λ l. found_by (leads l) (kind_lowers s k ty) flow) is ∙ ap (λ y. found_by (leads layer) y flow) lowered

  pub finds-Const : (v : Value) (ty : Ty) (flow : Flow) → finds s (kind.Const v) ty flow ≡ gave (step (ExprKind-F.Const v) ty).value flow
  unfolding kind_lowers
  finds-Const v ty flow = finds_by (kind.Const v) (ExprKind-F.Const v) ty (step (ExprKind-F.Const v) ty) flow (outs-Const v) (ap (λ (f : Codes). f ty) (at.at-Const Codes Lower step typed_by v))

  pub finds-Local : (n : ℕ) (ty : Ty) (flow : Flow) → finds s (kind.Local n) ty flow ≡ led (step (ExprKind-F.Local n) ty).reach flow
  unfolding kind_lowers
  finds-Local n ty flow = finds_by (kind.Local n) (ExprKind-F.Local n) ty (step (ExprKind-F.Local n) ty) flow (outs-Local n) (ap (λ (f : Codes). f ty) (at.at-Local Codes Lower step typed_by n))

  pub finds-Global : (n : ℕ) (ty : Ty) (flow : Flow) → finds s (kind.Global n) ty flow ≡ led (step (ExprKind-F.Global n) ty).reach flow
  unfolding kind_lowers
  finds-Global n ty flow = finds_by (kind.Global n) (ExprKind-F.Global n) ty (step (ExprKind-F.Global n) ty) flow (outs-Global n) (ap (λ (f : Codes). f ty) (at.at-Global Codes Lower step typed_by n))

  pub finds-Param : (n : ℕ) (ty : Ty) (flow : Flow) → finds s (kind.Param n) ty flow ≡ led (step (ExprKind-F.Param n) ty).reach flow
  unfolding kind_lowers
  finds-Param n ty flow = finds_by (kind.Param n) (ExprKind-F.Param n) ty (step (ExprKind-F.Param n) ty) flow (outs-Param n) (ap (λ (f : Codes). f ty) (at.at-Param Codes Lower step typed_by n))

  pub finds-BlockMember : (b : ℕ) (n : ℕ) (ty : Ty) (flow : Flow) → finds s (kind.BlockMember b n) ty flow ≡ led (step (ExprKind-F.BlockMember b n) ty).reach flow
  unfolding kind_lowers
  finds-BlockMember b n ty flow = finds_by (kind.BlockMember b n) (ExprKind-F.BlockMember b n) ty (step (ExprKind-F.BlockMember b n) ty) flow (outs-BlockMember b n) (ap (λ (f : Codes). f ty) (at.at-BlockMember Codes Lower step typed_by b n))

  pub finds-Stage : (v : StageVar) (ty : Ty) (flow : Flow) → finds s (kind.Stage v) ty flow ≡ gave (step (ExprKind-F.Stage v) ty).value flow
  unfolding kind_lowers
  finds-Stage v ty flow = finds_by (kind.Stage v) (ExprKind-F.Stage v) ty (step (ExprKind-F.Stage v) ty) flow (outs-Stage v) (ap (λ (f : Codes). f ty) (at.at-Stage Codes Lower step typed_by v))

  pub finds-Interface : (n : ℕ) (ty : Ty) (flow : Flow) → finds s (kind.Interface n) ty flow ≡ led (step (ExprKind-F.Interface n) ty).reach flow
  unfolding kind_lowers
  finds-Interface n ty flow = finds_by (kind.Interface n) (ExprKind-F.Interface n) ty (step (ExprKind-F.Interface n) ty) flow (outs-Interface n) (ap (λ (f : Codes). f ty) (at.at-Interface Codes Lower step typed_by n))

  pub finds-Member : (a : Expr) (n : ℕ) (ty : Ty) (flow : Flow) → finds s (kind.Member a n) ty flow ≡ led (step (ExprKind-F.Member (said a) n) ty).reach flow
  unfolding kind_lowers
  finds-Member a n ty flow = finds_by (kind.Member a n) (ExprKind-F.Member a n) ty (step (ExprKind-F.Member (into a) n) ty) flow (outs-Member a n) (ap (λ (f : Codes). f ty) (at.at-Member Codes Lower step typed_by a n)) ∙ ap (λ (x : Lower). led (step (ExprKind-F.Member x n) ty).reach flow) (named a)

  pub finds-Index : (a : Expr) (i : Expr) (ty : Ty) (flow : Flow) → finds s (kind.Index a i) ty flow ≡ led (step (ExprKind-F.Index (said a) (said i)) ty).reach flow
  unfolding kind_lowers
  finds-Index a i ty flow = finds_by (kind.Index a i) (ExprKind-F.Index a i) ty (step (ExprKind-F.Index (into a) (into i)) ty) flow (outs-Index a i) (ap (λ (f : Codes). f ty) (at.at-Index Codes Lower step typed_by a i)) ∙ ap (λ (x : Lower). led (step (ExprKind-F.Index x (into i)) ty).reach flow) (named a) ∙ ap (λ (x : Lower). led (step (ExprKind-F.Index (said a) x) ty).reach flow) (named i)

  pub finds-Swizzle : (a : Expr) (l : Lanes) (ty : Ty) (flow : Flow) → finds s (kind.Swizzle a l) ty flow ≡ led (step (ExprKind-F.Swizzle (said a) l) ty).reach flow
  unfolding kind_lowers
  finds-Swizzle a l ty flow = finds_by (kind.Swizzle a l) (ExprKind-F.Swizzle a l) ty (step (ExprKind-F.Swizzle (into a) l) ty) flow (outs-Swizzle a l) (ap (λ (f : Codes). f ty) (at.at-Swizzle Codes Lower step typed_by a l)) ∙ ap (λ (x : Lower). led (step (ExprKind-F.Swizzle x l) ty).reach flow) (named a)

  pub finds-Length : (a : Expr) (ty : Ty) (flow : Flow) → finds s (kind.Length a) ty flow ≡ gave (step (ExprKind-F.Length (said a)) ty).value flow
  unfolding kind_lowers
  finds-Length a ty flow = finds_by (kind.Length a) (ExprKind-F.Length a) ty (step (ExprKind-F.Length (into a)) ty) flow (outs-Length a) (ap (λ (f : Codes). f ty) (at.at-Length Codes Lower step typed_by a)) ∙ ap (λ (x : Lower). gave (step (ExprKind-F.Length x) ty).value flow) (named a)

  pub finds-Unary : (o : UnaryOp) (a : Expr) (ty : Ty) (flow : Flow) → finds s (kind.Unary o a) ty flow ≡ gave (step (ExprKind-F.Unary o (said a)) ty).value flow
  unfolding kind_lowers
  finds-Unary o a ty flow = finds_by (kind.Unary o a) (ExprKind-F.Unary o a) ty (step (ExprKind-F.Unary o (into a)) ty) flow (outs-Unary o a) (ap (λ (f : Codes). f ty) (at.at-Unary Codes Lower step typed_by o a)) ∙ ap (λ (x : Lower). gave (step (ExprKind-F.Unary o x) ty).value flow) (named a)

  pub finds-Binary : (o : BinaryOp) (a : Expr) (b : Expr) (ty : Ty) (flow : Flow) → finds s (kind.Binary o a b) ty flow ≡ gave (step (ExprKind-F.Binary o (said a) (said b)) ty).value flow
  unfolding kind_lowers
  finds-Binary o a b ty flow = finds_by (kind.Binary o a b) (ExprKind-F.Binary o a b) ty (step (ExprKind-F.Binary o (into a) (into b)) ty) flow (outs-Binary o a b) (ap (λ (f : Codes). f ty) (at.at-Binary Codes Lower step typed_by o a b)) ∙ ap (λ (x : Lower). gave (step (ExprKind-F.Binary o x (into b)) ty).value flow) (named a) ∙ ap (λ (x : Lower). gave (step (ExprKind-F.Binary o (said a) x) ty).value flow) (named b)

  pub finds-Logic : (o : LogicOp) (a : Expr) (b : Expr) (ty : Ty) (flow : Flow) → finds s (kind.Logic o a b) ty flow ≡ gave (step (ExprKind-F.Logic o (said a) (said b)) ty).value flow
  unfolding kind_lowers
  finds-Logic o a b ty flow = finds_by (kind.Logic o a b) (ExprKind-F.Logic o a b) ty (step (ExprKind-F.Logic o (into a) (into b)) ty) flow (outs-Logic o a b) (ap (λ (f : Codes). f ty) (at.at-Logic Codes Lower step typed_by o a b)) ∙ ap (λ (x : Lower). gave (step (ExprKind-F.Logic o x (into b)) ty).value flow) (named a) ∙ ap (λ (x : Lower). gave (step (ExprKind-F.Logic o (said a) x) ty).value flow) (named b)

  pub finds-Choose : (t : Expr) (a : Expr) (b : Expr) (ty : Ty) (flow : Flow) → finds s (kind.Choose t a b) ty flow ≡ gave (step (ExprKind-F.Choose (said t) (said a) (said b)) ty).value flow
  unfolding kind_lowers
  finds-Choose t a b ty flow = finds_by (kind.Choose t a b) (ExprKind-F.Choose t a b) ty (step (ExprKind-F.Choose (into t) (into a) (into b)) ty) flow (outs-Choose t a b) (ap (λ (f : Codes). f ty) (at.at-Choose Codes Lower step typed_by t a b)) ∙ ap (λ (x : Lower). gave (step (ExprKind-F.Choose x (into a) (into b)) ty).value flow) (named t) ∙ ap (λ (x : Lower). gave (step (ExprKind-F.Choose (said t) x (into b)) ty).value flow) (named a) ∙ ap (λ (x : Lower). gave (step (ExprKind-F.Choose (said t) (said a) x) ty).value flow) (named b)

  pub finds-Assign : (a : Expr) (b : Expr) (ty : Ty) (flow : Flow) → finds s (kind.Assign a b) ty flow ≡ gave (step (ExprKind-F.Assign (said a) (said b)) ty).value flow
  unfolding kind_lowers
  finds-Assign a b ty flow = finds_by (kind.Assign a b) (ExprKind-F.Assign a b) ty (step (ExprKind-F.Assign (into a) (into b)) ty) flow (outs-Assign a b) (ap (λ (f : Codes). f ty) (at.at-Assign Codes Lower step typed_by a b)) ∙ ap (λ (x : Lower). gave (step (ExprKind-F.Assign x (into b)) ty).value flow) (named a) ∙ ap (λ (x : Lower). gave (step (ExprKind-F.Assign (said a) x) ty).value flow) (named b)

  pub finds-Update : (o : BinaryOp) (a : Expr) (b : Expr) (ty : Ty) (flow : Flow) → finds s (kind.Update o a b) ty flow ≡ gave (step (ExprKind-F.Update o (said a) (said b)) ty).value flow
  unfolding kind_lowers
  finds-Update o a b ty flow = finds_by (kind.Update o a b) (ExprKind-F.Update o a b) ty (step (ExprKind-F.Update o (into a) (into b)) ty) flow (outs-Update o a b) (ap (λ (f : Codes). f ty) (at.at-Update Codes Lower step typed_by o a b)) ∙ ap (λ (x : Lower). gave (step (ExprKind-F.Update o x (into b)) ty).value flow) (named a) ∙ ap (λ (x : Lower). gave (step (ExprKind-F.Update o (said a) x) ty).value flow) (named b)

  pub finds-Step : (o : StepOp) (a : Expr) (ty : Ty) (flow : Flow) → finds s (kind.Step o a) ty flow ≡ gave (step (ExprKind-F.Step o (said a)) ty).value flow
  unfolding kind_lowers
  finds-Step o a ty flow = finds_by (kind.Step o a) (ExprKind-F.Step o a) ty (step (ExprKind-F.Step o (into a)) ty) flow (outs-Step o a) (ap (λ (f : Codes). f ty) (at.at-Step Codes Lower step typed_by o a)) ∙ ap (λ (x : Lower). gave (step (ExprKind-F.Step o x) ty).value flow) (named a)

  pub finds-Call : (n : ℕ) (es : List Expr) (ty : Ty) (flow : Flow) → finds s (kind.Call n es) ty flow ≡ gave (calls s n es ty) flow
  unfolding kind_lowers calls lowers
  finds-Call n es ty flow = finds_by (kind.Call n es) (ExprKind-F.Call n es) ty (step (ExprKind-F.Call n (map into es)) ty) flow (outs-Call n es) (ap (λ (f : Codes). f ty) (at.at-Call Codes Lower step typed_by n es))

  pub finds-Convert : (a : Expr) (ty : Ty) (flow : Flow) → finds s (kind.Convert a) ty flow ≡ gave (step (ExprKind-F.Convert (said a)) ty).value flow
  unfolding kind_lowers
  finds-Convert a ty flow = finds_by (kind.Convert a) (ExprKind-F.Convert a) ty (step (ExprKind-F.Convert (into a)) ty) flow (outs-Convert a) (ap (λ (f : Codes). f ty) (at.at-Convert Codes Lower step typed_by a)) ∙ ap (λ (x : Lower). gave (step (ExprKind-F.Convert x) ty).value flow) (named a)

  -- ---- rows

  by_own : (b rest : Bool) (n : ℕ) → rest ≡ nat_lt 0 n → b || rest ≡ nat_lt 0 (one_if b + n)
  by_own true rest n is = grind (arith, nat_tests)
  by_own false rest n is = is ∙ ap (nat_lt 0) (let e : n ≡ 0 + n = omega arith in e)

  any_same : (es : List Expr) → any_splits (map into es) ≡ waits_for es
  any_same [] = refl
  any_same (e ∷ es) = ap (λ (x : Lower). x.traits.splits || any_splits (map into es)) (named e) ∙ by_own (traits_of e).splits (any_splits (map into es)) (count_splits es) (any_same es)

  rest_same : (r : Lowered ℕ) (f g : Emit (List ℕ)) → ((flow : Flow) → f flow ≡ g flow) → behind r (λ x. f >>= (λ more. given (x ∷ more))) ≡ behind r (λ x. g >>= (λ more. given (x ∷ more)))
  rest_same (Gives x after) f g is = ap (λ q. behind q (λ more. given (x ∷ more))) (is after)
  rest_same Lacks f g is = refl

  fetched_same : (es : List Expr) (kept : List ℕ) (flow : Flow) → fetches (map into es) kept flow ≡ fetches_all es kept flow
  unfolding fetches fetches_all
  fetched_same [] kept flow = refl
  fetched_same (e ∷ es) [] flow = refl
  fetched_same (e ∷ es) (id ∷ ids) flow =
      ap (λ b. behind (fetch b (into e).ty id flow) (λ x. fetches (map into es) ids >>= (λ more. given (x ∷ more)))) (any_same es)
      ∙ ap (λ (x : Lower). behind (fetch (waits_for es) x.ty id flow) (λ x. fetches (map into es) ids >>= (λ more. given (x ∷ more)))) (named e)
      ∙ rest_same (fetch (waits_for es) (type_of e) id flow) (fetches (map into es) ids) (fetches_all es ids) (fetched_same es ids)

  typed_same : (es : List Expr) (ids : List ℕ) → typed (map into es) ids ≡ typed_all es ids
  typed_same [] ids = refl
  typed_same (e ∷ es) [] = refl
  typed_same (e ∷ es) (id ∷ ids) = ap (λ (x : Lower). operand (shape_or x.ty) id ∷ typed (map into es) ids) (named e) ∙ ap (λ l. operand (shape_or (type_of e)) id ∷ l) (typed_same es ids)

  -- what is made of operands by their types is made by those of the trees
  with_types : (es : List Expr) (go : List ℕ → List Operand → Emit ℕ) (r : Lowered (List ℕ))
      → behind (behind r (fetches (map into es))) (λ ids. go ids (typed (map into es) ids)) ≡ behind r (λ kept. fetches_all es kept >>= (λ ids. go ids (typed_all es ids)))
  with_types es go (Gives kept flow) = ap (λ q. behind q (λ ids. go ids (typed (map into es) ids))) (fetched_same es kept flow) ∙ by_ids (fetches_all es kept flow)
    where
      by_ids : (q : Lowered (List ℕ)) → behind q (λ ids. go ids (typed (map into es) ids)) ≡ behind q (λ ids. go ids (typed_all es ids))
      by_ids (Gives ids after) = ap (λ l. go ids l after) (typed_same es ids)
      by_ids Lacks = refl
  with_types es go Lacks = refl

  -- ---- one by one

  pub keeps-opens : (e : Expr) (es : List Expr) (flow : Flow) → keeps_all s (e ∷ es) flow ≡ behind (evaluates s e flow) (λ x. hold (waits_for es) x >>= (λ kept. keeps_all s es >>= (λ others. given (kept ∷ others))))
  unfolding keeps_all keeps evaluates lowers
  keeps-opens e es flow = ap (λ b. behind ((into e).value flow) (λ x. hold b x >>= (λ kept. keeps (map into es) >>= (λ others. given (kept ∷ others))))) (any_same es)

  pub sequence-opens : (last : ℕ) (e : Expr) (es : List Expr) (flow : Flow) → sequence_of s last (e ∷ es) flow ≡ behind (evaluates s e flow) (λ id. sequence_of s id es)
  unfolding sequence_of sequence evaluates
  sequence-opens last e es flow = refl

  pub sequence-ends : (last : ℕ) (flow : Flow) → sequence_of s last [] flow ≡ Gives last flow
  unfolding sequence_of sequence
  sequence-ends last flow = refl

  pub keeps-ends : (flow : Flow) → keeps_all s [] flow ≡ Gives [] flow
  unfolding keeps_all keeps
  keeps-ends flow = refl

  pub finds-Built : (f : Builtin) (es : List Expr) (ty : Ty) (flow : Flow) → finds s (kind.Built f es) ty flow ≡ gave (keeps_all s es >>= called_with f es) flow
  unfolding kind_lowers keeps_all lowers
  finds-Built f es ty flow =
      finds_by (kind.Built f es) (ExprKind-F.Built f es) ty (step (ExprKind-F.Built f (map into es)) ty) flow (outs-Built f es) (ap (λ (g : Codes). g ty) (at.at-Built Codes Lower step typed_by f es))
      ∙ ap (λ q. behind q (λ v. given (Valued v))) (with_types es (λ ids args. lift (called f args)) (keeps (map into es) flow))

  pub finds-Build : (es : List Expr) (ty : Ty) (flow : Flow) → finds s (kind.Build es) ty flow ≡ gave (keeps_all s es >>= constructed_with ty es) flow
  unfolding kind_lowers keeps_all lowers
  finds-Build es ty flow =
      finds_by (kind.Build es) (ExprKind-F.Build es) ty (step (ExprKind-F.Build (map into es)) ty) flow (outs-Build es) (ap (λ (g : Codes). g ty) (at.at-Build Codes Lower step typed_by es))
      ∙ ap (λ q. behind q (λ v. given (Valued v))) (with_types es (built_from ty (shape_of ty)) (keeps (map into es) flow))

  pub finds-Comma : (es : List Expr) (ty : Ty) (flow : Flow) → finds s (kind.Comma es) ty flow ≡ gave (sequence_of s 0 es) flow
  unfolding kind_lowers sequence_of lowers
  finds-Comma es ty flow =
      finds_by (kind.Comma es) (ExprKind-F.Comma es) ty (step (ExprKind-F.Comma (map into es)) ty) flow (outs-Comma es) (ap (λ (g : Codes). g ty) (at.at-Comma Codes Lower step typed_by es))

  -- ---- arguments and calls

  pub passes-In : (waits : Bool) (t : Ty) (e : Expr) (flow : Flow) → passes s waits In t e flow ≡ behind (evaluates s e flow) going_in
  unfolding passes evaluates
  passes-In waits t e flow = refl

  pub passes-Out : (waits : Bool) (t : Ty) (e : Expr) (flow : Flow) → passes s waits Out t e flow ≡ behind (reaches s e flow) (passed_out s.structs waits t (type_of e))
  unfolding passes reaches lowers
  passes-Out waits t e flow = ap (λ (x : Lower). behind ((into e).reach flow) (passed_out s.structs waits t x.ty)) (named e)

  pub passes-InOut : (waits : Bool) (t : Ty) (e : Expr) (flow : Flow) → passes s waits InOut t e flow ≡ behind (reaches s e flow) (passed_both s.structs waits (type_of e))
  unfolding passes reaches lowers
  passes-InOut waits t e flow = ap (λ (x : Lower). behind ((into e).reach flow) (passed_both s.structs waits x.ty)) (named e)

  pub passes_all-ends : (params : List (Direction × Ty)) (flow : Flow) → passes_all s [] params flow ≡ Gives [] flow
  unfolding passes_all passing_all
  passes_all-ends params flow = refl

  pub passes_all-opens : (e : Expr) (es : List Expr) (param : Direction × Ty) (params : List (Direction × Ty)) (flow : Flow)
      → passes_all s (e ∷ es) (param ∷ params) flow ≡ behind (passes s (waits_for es) param.0 param.1 e flow) (λ p. passes_all s es params >>= (λ ps. given (p ∷ ps)))
  unfolding passes_all passing_all passes lowers
  passes_all-opens e es param params flow =
      ap (λ b. behind (passing s.structs b param.0 param.1 (into e) flow) (λ p. passing_all s.structs (map into es) params >>= (λ ps. given (p ∷ ps)))) (any_same es)

  pub tys_same : (es : List Expr) → tys (map into es) ≡ map type_of es
  tys_same [] = refl
  tys_same (e ∷ es) = ap (λ (x : Lower). x.ty ∷ tys (map into es)) (named e) ∙ ap (λ l. type_of e ∷ l) (tys_same es)

-- a call of the function of a head, by the types of the trees
pub calls-opens : (structs : List StructType) (interfaces : List Interface) (prototypes : List Prototype) (n : ℕ) (es : List Expr) (t : Ty) (flow : Flow)
    → calls (setting_of structs interfaces prototypes) n es t flow
    ≡ behind (passes_all (setting_of structs interfaces prototypes) es (params_of (slice_get prototypes n)) flow) (passed_with structs n (params_of (slice_get prototypes n)) (map type_of es) t)
unfolding calls passes_all lowers
calls-opens structs interfaces prototypes n es t flow =
    let s = setting_of structs interfaces prototypes in
    ap (λ l. behind (passing_all structs (map (into s) es) (params_of (slice_get prototypes n)) flow) (passed_with structs n (params_of (slice_get prototypes n)) l t)) (tys_same s es)

pub ruleset calls_step = (passes-In, passes-Out, passes-InOut, calls-opens, evaluates-opens, reaches-opens)

pub ruleset finds_step = (evaluates-opens, reaches-opens, lengths-opens, finds-Const, finds-Local, finds-Global, finds-Param, finds-BlockMember, finds-Stage, finds-Interface, finds-Member, finds-Index, finds-Swizzle, finds-Length, finds-Unary, finds-Binary, finds-Logic, finds-Choose, finds-Assign, finds-Update, finds-Step, finds-Call, finds-Convert, finds-Built, finds-Build, finds-Comma)
