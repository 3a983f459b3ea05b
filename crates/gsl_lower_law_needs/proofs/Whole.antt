-- Whole expressions, kind by kind, and the expressions in them.
use Rattle.std.proofs.Common.{refl, sym, subst, List, [], ◌∷◌, map, slice_get}
use Rattle.gsl_types.specs.declared.ty.Direction.{Direction}
use Rattle.gsl_types.specs.declared.ty.Ty.{Ty}
use Rattle.gsl_tree.specs.Weights.{params_of}
use Rattle.gsl_tree.specs.declared.expr.Expr.{Expr}
use Rattle.gsl_tree.specs.declared.expr.ExprKind.{ExprKind, out-ExprKind}
use Rattle.gsl_tree.specs.declared.expr.ExprKind.TheOpen.{ExprKind-F, Expr-F}
use Rattle.gsl_tree.specs.declared.expr.ExprKind.TheFolds.{fold-Expr, fold-ExprKind, fold-roll-Expr, fold-roll-ExprKind, ind-Expr, map-Expr, map-ExprKind}
use Rattle.gsl_tree.specs.declared.expr.ExprKind.TheViews.{out-roll-Expr, out-roll-ExprKind, roll-Expr, roll-ExprKind}
use Rattle.gsl_tree.specs.declared.unit.Prototype.{Prototype}
use Rattle.gsl_lower_needs.specs.declared.need.Need.{Need}
use Rattle.gsl_lower_needs.specs.Needs.{Asking, any_splits, asked_by, asks, keeps, passing_all, sequence, typed_by}
use Rattle.gsl_lower_used.specs.Lowered.{ThroughoutAllLowered, ThroughoutLowered, lowered_parts, passed}
use Rattle.gsl_lower_law_needs.specs.Used.{IsAsked, IsAskedFor}
use Rattle.gsl_lower_law_needs.proofs.Covering.{Covers, covers_both, covers_first, covers_map, covers_need, covers_plain, covers_then, grows_given}
use Rattle.gsl_lower_law_needs.proofs.Parts.{Covered, covered_constant, covered_giving, covered_leading, covered_map, covers_assigned, covers_chosen, covers_indexed, covers_logical, covers_passing, covers_two, covers_updated, grows_built_of, grows_hold, grows_reads}

module _ (s : List Prototype) where
  abbrev Codes : Type 0
  Codes = Ty → Asking

  abbrev into : Expr → Asking
  into = fold-Expr Codes Asking (asked_by s) typed_by

  abbrev of_kinds : ExprKind → Codes
  of_kinds = fold-ExprKind Codes Asking (asked_by s) typed_by

  abbrev Parts : List Expr → List Need → Type 0
  Parts es after = ThroughoutAllLowered s (IsAsked after) es

  -- of an expression by its form
  abbrev Form : ExprKind-F ExprKind Expr → List Need → Type 0
  Form x after = Parts (lowered_parts s x) after × IsAskedFor after x

  abbrev Whole : Expr → List Need → Type 0
  Whole e after = ThroughoutLowered s (IsAsked after) e

  abbrev OfKind : ExprKind → Type 0
  OfKind k = (t : Ty) → Covered (of_kinds k t) (Form (out-ExprKind k))

  abbrev OfExpr : Expr → Type 0
  OfExpr e = Covered (into e) (Whole e)

  abbrev Child : Type 0
  Child = (e : Expr) × OfExpr e

  abbrev exprs : List Child → List Expr
  exprs es = map (λ (e : Child). e.0) es

  -- ---- rows

  one_more : (e : Expr) (es : List Expr) (after : List Need) → Whole e after → Parts es after → Parts (e ∷ es) after
  one_more e es after p q = ThroughoutAllLowered.more e es p q

  no_more : (after : List Need) → Parts [] after
  no_more after = ThroughoutAllLowered.none

  covers_keeps : (es : List Child) → Covers (keeps (map into (exprs es))) (Parts (exprs es))
  unfolding keeps
  covers_keeps [] = covers_plain grows_given no_more
  covers_keeps (e ∷ es) = covers_both e.1.value (λ x. covers_then (grows_hold (any_splits (map into (exprs es))) (into e.0).ty) (λ done. covers_keeps es)) (one_more e.0 (exprs es))

  covers_sequence : (es : List Child) → Covers (sequence (map into (exprs es))) (Parts (exprs es))
  unfolding sequence
  covers_sequence [] = covers_plain grows_given no_more
  covers_sequence (e ∷ es) = covers_both e.1.value (λ x. covers_sequence es) (one_more e.0 (exprs es))

  covers_all : (es : List Child) (params : List (Direction × Ty)) → Covers (passing_all (map into (exprs es)) params) (Parts (passed (exprs es) params))
  unfolding passing_all
  covers_all [] params = covers_plain grows_given no_more
  covers_all (e ∷ es) [] = covers_plain grows_given no_more
  covers_all (e ∷ es) (param ∷ params) =
      covers_both (covers_passing (any_splits (map into (exprs es))) param.0 param.1 (into e.0) e.1) (λ done. covers_all es params) (one_more e.0 (passed (exprs es) params))

  -- ---- every kind of expression

  of_none : (after : List Need) → Parts [] after × Unit {0}
  of_none after = (no_more after, tt)

  of_one : (a : Expr) (after : List Need) → Whole a after → Parts (a ∷ []) after × Unit {0}
  of_one a after p = (one_more a [] after p (no_more after), tt)

  of_two : (a b : Expr) (after : List Need) → Whole a after → Whole b after → Parts (a ∷ b ∷ []) after × Unit {0}
  of_two a b after p q = (one_more a (b ∷ []) after p (one_more b [] after q (no_more after)), tt)

  of_three : (test a b : Expr) (after : List Need) → Whole test after → Whole a after × Whole b after → Parts (test ∷ a ∷ b ∷ []) after × Unit {0}
  of_three test a b after p q = (one_more test (a ∷ b ∷ []) after p (of_two a b after q.0 q.1).0, tt)

  of_all : (es : List Expr) (after : List Need) → Parts es after → Parts es after × Unit {0}
  of_all es after p = (p, tt)

  of_stage : {A : Type 0} (after : List Need) → A → Parts [] after × A
  of_stage after is = (no_more after, is)

  -- one layer, by what its parts cover
  rolled : (x : ExprKind-F ExprKind Expr) → ((t : Ty) → Covered (asked_by s (map-ExprKind _ _ _ _ of_kinds into x) t) (Form x)) → OfKind (roll-ExprKind x)
  rolled x is t =
      subst (λ (f : Codes). Covered (f t) (Form (out-ExprKind (roll-ExprKind x)))) (sym (fold-roll-ExprKind Codes Asking (asked_by s) typed_by x))
      (subst (λ (z : ExprKind-F ExprKind Expr). Covered (asked_by s (map-ExprKind ExprKind Expr Codes Asking of_kinds into x) t) (Form z)) (sym (out-roll-ExprKind x)) (is t))

  by_kind : (y : ExprKind-F ((k : ExprKind) × OfKind k) Child) → OfKind (roll-ExprKind (map-ExprKind _ _ _ _ (λ k. k.0) (λ e. e.0) y))
  by_kind (ExprKind-F.Const v) = rolled (ExprKind-F.Const v) (λ t. covered_constant t _ of_none)
  by_kind (ExprKind-F.Local n) = rolled (ExprKind-F.Local n) (λ t. covered_leading t _ _ refl (covers_plain grows_given of_none))
  by_kind (ExprKind-F.Global n) = rolled (ExprKind-F.Global n) (λ t. covered_leading t _ _ refl (covers_plain grows_given of_none))
  by_kind (ExprKind-F.Param n) = rolled (ExprKind-F.Param n) (λ t. covered_leading t _ _ refl (covers_plain grows_given of_none))
  by_kind (ExprKind-F.BlockMember block n) = rolled (ExprKind-F.BlockMember block n) (λ t. covered_leading t _ _ refl (covers_plain grows_given of_none))
  by_kind (ExprKind-F.Stage var) = rolled (ExprKind-F.Stage var) (λ t. covered_giving t _ _ refl (covers_map (covers_need var) (λ after is. of_stage after is)))
  by_kind (ExprKind-F.Interface n) = rolled (ExprKind-F.Interface n) (λ t. covered_leading t _ _ refl (covers_plain grows_given of_none))
  by_kind (ExprKind-F.Member a n) = rolled (ExprKind-F.Member a.0 n) (λ t. covered_leading t _ _ refl (covers_map a.1.reach (of_one a.0)))
  by_kind (ExprKind-F.Index a i) = rolled (ExprKind-F.Index a.0 i.0) (λ t. covered_leading t _ _ refl (covers_indexed (into a.0) (into i.0) a.1 i.1 (of_two a.0 i.0)))
  by_kind (ExprKind-F.Swizzle a lanes) = rolled (ExprKind-F.Swizzle a.0 lanes) (λ t. covered_leading t _ _ refl (covers_first (covers_map a.1.reach (of_one a.0)) (λ lead. grows_given)))
  by_kind (ExprKind-F.Length a) = rolled (ExprKind-F.Length a.0) (λ t. covered_constant t _ of_none)
  by_kind (ExprKind-F.Unary which a) = rolled (ExprKind-F.Unary which a.0) (λ t. covered_giving t _ _ refl (covers_map a.1.value (of_one a.0)))
  by_kind (ExprKind-F.Binary which a b) = rolled (ExprKind-F.Binary which a.0 b.0) (λ t. covered_giving t _ _ refl (covers_two (into a.0) (into b.0) a.1 b.1 (of_two a.0 b.0)))
  by_kind (ExprKind-F.Logic which a b) = rolled (ExprKind-F.Logic which a.0 b.0) (λ t. covered_giving t _ _ refl (covers_logical (into a.0) (into b.0) a.1 b.1 (of_two a.0 b.0) which))
  by_kind (ExprKind-F.Choose test a b) = rolled (ExprKind-F.Choose test.0 a.0 b.0) (λ t. covered_giving t _ _ refl (covers_chosen t (into test.0) (into a.0) (into b.0) test.1 a.1 b.1 (of_three test.0 a.0 b.0)))
  by_kind (ExprKind-F.Assign a b) = rolled (ExprKind-F.Assign a.0 b.0) (λ t. covered_giving t _ _ refl (covers_assigned (into a.0) (into b.0) a.1 b.1 (of_two a.0 b.0)))
  by_kind (ExprKind-F.Update which a b) = rolled (ExprKind-F.Update which a.0 b.0) (λ t. covered_giving t _ _ refl (covers_updated (into a.0) (into b.0) a.1 b.1 (of_two a.0 b.0)))
  by_kind (ExprKind-F.Step which a) = rolled (ExprKind-F.Step which a.0) (λ t. covered_giving t _ _ refl (covers_first (covers_map a.1.reach (of_one a.0)) (λ lead. grows_reads (into a.0).ty lead)))
  by_kind (ExprKind-F.Call number args) =
      rolled (ExprKind-F.Call number (exprs args)) (λ t. covered_giving t _ _ refl (covers_map (covers_all args (params_of (slice_get s number))) (of_all (passed (exprs args) (params_of (slice_get s number))))))
  by_kind (ExprKind-F.Built which args) = rolled (ExprKind-F.Built which (exprs args)) (λ t. covered_giving t _ _ refl (covers_map (covers_keeps args) (of_all (exprs args))))
  by_kind (ExprKind-F.Build args) = rolled (ExprKind-F.Build (exprs args)) (λ t. covered_giving t _ _ refl (covers_first (covers_map (covers_keeps args) (of_all (exprs args))) (λ done. grows_built_of t)))
  by_kind (ExprKind-F.Convert a) = rolled (ExprKind-F.Convert a.0) (λ t. covered_giving t _ _ refl (covers_map a.1.value (of_one a.0)))
  by_kind (ExprKind-F.Comma items) = rolled (ExprKind-F.Comma (exprs items)) (λ t. covered_giving t _ _ refl (covers_map (covers_sequence items) (of_all (exprs items))))

  whole_of : (x : Expr-F ExprKind Expr) (after : List Need) → Form (out-ExprKind x.kind) after → Whole (roll-Expr x) after
  whole_of x after p =
      let q = subst (λ (z : Expr-F ExprKind Expr). Form (out-ExprKind z.kind) after) (sym (out-roll-Expr x)) p in
      ThroughoutLowered.whole (roll-Expr x) q.1 q.0

  rolled_expr : (x : Expr-F ExprKind Expr) → Covered (of_kinds x.kind x.ty) (Form (out-ExprKind x.kind)) → OfExpr (roll-Expr x)
  rolled_expr x is = subst (λ (a : Asking). Covered a (Whole (roll-Expr x))) (sym (fold-roll-Expr Codes Asking (asked_by s) typed_by x)) (covered_map (of_kinds x.kind x.ty) is (whole_of x))

  by_expr : (y : Expr-F ((k : ExprKind) × OfKind k) Child) → OfExpr (roll-Expr (map-Expr _ _ _ _ (λ k. k.0) (λ e. e.0) y))
  by_expr y = rolled_expr (map-Expr _ _ _ _ (λ k. k.0) (λ e. e.0) y) (y.kind.1 y.ty)

  pub expr_covered : (e : Expr) → Covered (asks s e) (Whole e)
  unfolding asks
  expr_covered e = ind-Expr OfKind OfExpr (λ x y is. subst (λ z. OfKind (roll-ExprKind z)) is (by_kind y)) (λ x y is. subst (λ z. OfExpr (roll-Expr z)) is (by_expr y)) e
