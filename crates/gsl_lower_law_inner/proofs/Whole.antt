-- Whole expressions, kind by kind, and the expressions in them.
use Rattle.std.proofs.Common.{sym, subst, ℕ, List, [], ◌∷◌, map}
use Rattle.std.specs.List.{AllByRecursion}
use Rattle.gsl_types.specs.declared.ty.Ty.{Ty}
use Rattle.gsl_tree.specs.declared.expr.Expr.{Expr}
use Rattle.gsl_tree.specs.declared.expr.ExprKind.{ExprKind}
use Rattle.gsl_tree.specs.declared.expr.ExprKind.TheOpen.{ExprKind-F, Expr-F}
use Rattle.gsl_tree.specs.declared.expr.ExprKind.TheFolds.{fold-Expr, fold-ExprKind, fold-roll-Expr, fold-roll-ExprKind, ind-Expr, map-Expr, map-ExprKind}
use Rattle.gsl_tree.specs.declared.expr.ExprKind.TheViews.{roll-Expr, roll-ExprKind}
use Rattle.gsl_lower_places.specs.declared.reached.Reached.{Reached}
use Rattle.gsl_lower_traits.specs.declared.traits.Traits.{Traits}
use Rattle.gsl_lower_holders.specs.Flow.{Emit}
use Rattle.gsl_lower_expr.specs.Lowering.{Setting, giving_value, leading, lowered_by, lowers, typed_by}
use Rattle.gsl_lower_expr.specs.Parts.{Lower}
use Rattle.gsl_lower_law_inner.specs.Inner.{AllPut, CallsInner, LowersInner}
use Rattle.gsl_lower_law_inner.proofs.Values.{builds_converted, builds_unary}
use Rattle.gsl_lower_law_inner.proofs.Flows.{puts_lacking, puts_lift, puts_then}
use Rattle.gsl_lower_law_inner.proofs.Parts.{builds_constant_by, puts_accessed, puts_assigned, puts_binary, puts_block, puts_called_of, puts_chosen, puts_constructed, puts_counted, puts_indexed, puts_length, puts_logical, puts_loose, puts_member, puts_named, puts_sequence, puts_stage, puts_stepped, puts_swizzled, puts_updated}

module _ (s : Setting) (calls : CallsInner s) where
  abbrev Codes : Type 0
  Codes = Ty → Lower

  abbrev into : Expr → Lower
  into = fold-Expr Codes Lower (lowered_by s) typed_by

  abbrev OfKind : ExprKind → Type 0
  OfKind k = (t : Ty) → LowersInner (fold-ExprKind Codes Lower (lowered_by s) typed_by k t)

  abbrev OfExpr : Expr → Type 0
  OfExpr e = LowersInner (into e)

  abbrev Child : Type 0
  Child = (e : Expr) × OfExpr e

  abbrev exprs : List Child → List Expr
  exprs es = map (λ (e : Child). e.0) es

  all_inner : (es : List Child) → AllByRecursion LowersInner (map into (exprs es))
  all_inner [] = tt
  all_inner (e ∷ es) = (e.1, all_inner es)

  leads : (t : Ty) (reach : Emit Reached) (traits : Traits) → AllPut reach → LowersInner (leading s.structs t reach traits)
  leads t reach traits p = record { reach = p; value = puts_accessed s.structs t reach p; length = puts_lacking }

  gives : (t : Ty) (value : Emit ℕ) (traits : Traits) → AllPut value → LowersInner (giving_value t value traits)
  gives t value traits p = record { reach = puts_then p (λ id. puts_loose t id); value = p; length = puts_lacking }

  in_block : (t : Ty) (reach : Emit Reached) (traits : Traits) (length : Emit ℕ) → AllPut reach → AllPut length → LowersInner (record (leading s.structs t reach traits) { length = length })
  in_block t reach traits length p q = record { reach = p; value = puts_accessed s.structs t reach p; length = q }

  -- one layer, by what its parts put
  rolled : (x : ExprKind-F ExprKind Expr) → ((t : Ty) → LowersInner (lowered_by s (map-ExprKind _ _ _ _ (fold-ExprKind Codes Lower (lowered_by s) typed_by) into x) t)) → OfKind (roll-ExprKind x)
  rolled x is t = subst (λ (f : Codes). LowersInner (f t)) (sym (fold-roll-ExprKind Codes Lower (lowered_by s) typed_by x)) (is t)

  by_kind : (y : ExprKind-F ((k : ExprKind) × OfKind k) Child) → OfKind (roll-ExprKind (map-ExprKind _ _ _ _ (λ k. k.0) (λ e. e.0) y))
  by_kind (ExprKind-F.Const v) = rolled (ExprKind-F.Const v) (λ t. gives t _ _ (puts_lift (builds_constant_by _ v)))
  by_kind (ExprKind-F.Local n) = rolled (ExprKind-F.Local n) (λ t. leads t _ _ (puts_named _ _ n))
  by_kind (ExprKind-F.Global n) = rolled (ExprKind-F.Global n) (λ t. leads t _ _ (puts_named _ _ n))
  by_kind (ExprKind-F.Param n) = rolled (ExprKind-F.Param n) (λ t. leads t _ _ (puts_named _ _ n))
  by_kind (ExprKind-F.BlockMember block n) = rolled (ExprKind-F.BlockMember block n) (λ t. in_block t _ _ _ (puts_block block n) (puts_length block n))
  by_kind (ExprKind-F.Stage var) = rolled (ExprKind-F.Stage var) (λ t. gives t _ _ (puts_stage var t))
  by_kind (ExprKind-F.Interface n) = rolled (ExprKind-F.Interface n) (λ t. leads t _ _ (puts_named _ _ n))
  by_kind (ExprKind-F.Member a n) = rolled (ExprKind-F.Member a.0 n) (λ t. leads t _ _ (puts_member (into a.0) n a.1))
  by_kind (ExprKind-F.Index a i) = rolled (ExprKind-F.Index a.0 i.0) (λ t. leads t _ _ (puts_indexed s.structs (into a.0) (into i.0) a.1 i.1))
  by_kind (ExprKind-F.Swizzle a lanes) = rolled (ExprKind-F.Swizzle a.0 lanes) (λ t. leads t _ _ (puts_swizzled (into a.0) lanes a.1))
  by_kind (ExprKind-F.Length a) = rolled (ExprKind-F.Length a.0) (λ t. gives t _ _ (puts_counted (into a.0) a.1))
  by_kind (ExprKind-F.Unary which a) = rolled (ExprKind-F.Unary which a.0) (λ t. gives t _ _ (puts_then a.1.value (λ x. puts_lift (builds_unary which _))))
  by_kind (ExprKind-F.Binary which a b) = rolled (ExprKind-F.Binary which a.0 b.0) (λ t. gives t _ _ (puts_binary s.structs which (into a.0) (into b.0) a.1 b.1))
  by_kind (ExprKind-F.Logic which a b) = rolled (ExprKind-F.Logic which a.0 b.0) (λ t. gives t _ _ (puts_logical which (into a.0) (into b.0) a.1 b.1))
  by_kind (ExprKind-F.Choose test a b) = rolled (ExprKind-F.Choose test.0 a.0 b.0) (λ t. gives t _ _ (puts_chosen t (into test.0) (into a.0) (into b.0) test.1 a.1 b.1))
  by_kind (ExprKind-F.Assign a b) = rolled (ExprKind-F.Assign a.0 b.0) (λ t. gives t _ _ (puts_assigned s.structs (into a.0) (into b.0) a.1 b.1))
  by_kind (ExprKind-F.Update which a b) = rolled (ExprKind-F.Update which a.0 b.0) (λ t. gives t _ _ (puts_updated s.structs which (into a.0) (into b.0) a.1 b.1))
  by_kind (ExprKind-F.Step which a) = rolled (ExprKind-F.Step which a.0) (λ t. gives t _ _ (puts_stepped s.structs which (into a.0) a.1))
  by_kind (ExprKind-F.Call number args) = rolled (ExprKind-F.Call number (exprs args)) (λ t. gives t _ _ (calls number (map into (exprs args)) t (all_inner args)))
  by_kind (ExprKind-F.Built which args) = rolled (ExprKind-F.Built which (exprs args)) (λ t. gives t _ _ (puts_called_of which (map into (exprs args)) (all_inner args)))
  by_kind (ExprKind-F.Build args) = rolled (ExprKind-F.Build (exprs args)) (λ t. gives t _ _ (puts_constructed t (map into (exprs args)) (all_inner args)))
  by_kind (ExprKind-F.Convert a) = rolled (ExprKind-F.Convert a.0) (λ t. gives t _ _ (puts_then a.1.value (λ x. puts_lift (builds_converted _ _))))
  by_kind (ExprKind-F.Comma items) = rolled (ExprKind-F.Comma (exprs items)) (λ t. gives t _ _ (puts_sequence 0 (map into (exprs items)) (all_inner items)))

  by_expr : (y : Expr-F ((k : ExprKind) × OfKind k) Child) → OfExpr (roll-Expr (map-Expr _ _ _ _ (λ k. k.0) (λ e. e.0) y))
  by_expr y = subst LowersInner (sym (fold-roll-Expr Codes Lower (lowered_by s) typed_by (map-Expr _ _ _ _ (λ k. k.0) (λ e. e.0) y))) (y.kind.1 y.ty)

  pub expr_inner : (e : Expr) → LowersInner (lowers s e)
  unfolding lowers
  expr_inner e = ind-Expr OfKind OfExpr (λ x y is. subst (λ z. OfKind (roll-ExprKind z)) is (by_kind y)) (λ x y is. subst (λ z. OfExpr (roll-Expr z)) is (by_expr y)) e
