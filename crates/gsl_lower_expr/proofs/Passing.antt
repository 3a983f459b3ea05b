-- Arguments of calls, one behind the other, and what comes back of them.
use Rattle.std.proofs.Common.{◌≡◌, sym, ap, ◌∙◌, ℕ, ◌+◌, ◌≤◌, List, [], ◌∷◌, ◌++◌, length, map, drop, slice_get, Some, append-nil}
use Rattle.std.specs.Prelude.{nat_lt}
use Rattle.std.proofs.lemmas.List.{drop_all}
use Rattle.gsl_compute.proofs.Loops.{opened}
use Rattle.gsl_spv.specs.declared.refusal.BuildRefusal.{BuildRefusal}
use Rattle.gsl_spv.specs.declared.refusal.BuildRefusal.TheVariants.{TooManyIds, Memory}
use Rattle.gsl_types.specs.declared.ty.Direction.{Direction}
use Rattle.gsl_types.specs.declared.ty.StructType.{StructType}
use Rattle.gsl_types.specs.declared.ty.Ty.{Ty}
use Rattle.gsl_tree.specs.Trees.{type_of}
use Rattle.gsl_tree.specs.declared.expr.Expr.{Expr}
use Rattle.gsl_lower_holders.specs.Flow.{Emit, Flow, Lowered, Gives, behind, Refuses, with_front}
use Rattle.gsl_lower_holders.proofs.Turns.{stopped, then_rest, turned}
use Rattle.gsl_lower_expr.specs.Calls.{all_back, back}
use Rattle.gsl_lower_expr.specs.Coming.{passes, passes_all}
use Rattle.gsl_lower_expr.specs.Lowering.{Setting}
use Rattle.gsl_lower_expr.specs.Rows.{count_splits, own_split}
use Rattle.gsl_lower_expr.specs.declared.calls.Passed.{Passed}
use Rattle.gsl_lower_expr.proofs.Steps.{passes_all-ends, passes_all-opens}
use Rattle.gsl_lower_expr.proofs.Turns.{left_on}

-- ---- what comes back

module _ (structs : List StructType) (ps : List Passed) (params : List (Direction × Ty)) (es : List Expr) where
  abbrev rest : ℕ → Emit (Unit {0})
  rest k = all_back structs (drop k ps) (drop k params) (map type_of (drop k es))

  back_opens : (k : ℕ) (p : Passed) (param : Direction × Ty) (e : Expr) → slice_get ps k ≡ Some p → slice_get params k ≡ Some param → slice_get es k ≡ Some e → (flow : Flow)
      → rest k flow ≡ behind (back structs param.1 (type_of e) p flow) (λ done. rest (k + 1))
  unfolding all_back
  back_opens k p param e at_p at_param at_e flow =
      ap (λ l. all_back structs l (drop k params) (map type_of (drop k es)) flow) (opened ps k p at_p)
      ∙ ap (λ l. all_back structs (p ∷ drop (k + 1) ps) l (map type_of (drop k es)) flow) (opened params k param at_param)
      ∙ ap (λ l. all_back structs (p ∷ drop (k + 1) ps) (param ∷ drop (k + 1) params) (map type_of l) flow) (opened es k e at_e)

  pub back_on : (k : ℕ) (p : Passed) (param : Direction × Ty) (e : Expr) (done : Unit {0}) (before after : Flow) (whole : Lowered (Unit {0})) → slice_get ps k ≡ Some p → slice_get params k ≡ Some param → slice_get es k ≡ Some e
      → back structs param.1 (type_of e) p before ≡ Gives done after → rest k before ≡ whole → rest (k + 1) after ≡ whole
  back_on k p param e done before after whole at_p at_param at_e is so_far =
      sym (ap (λ r. behind r (λ done. rest (k + 1))) is) ∙ sym (back_opens k p param e at_p at_param at_e before) ∙ so_far

  pub back_stops : (k : ℕ) (p : Passed) (param : Direction × Ty) (e : Expr) (why : BuildRefusal) (before : Flow) (whole : Lowered (Unit {0})) → slice_get ps k ≡ Some p → slice_get params k ≡ Some param → slice_get es k ≡ Some e
      → Refuses why (back structs param.1 (type_of e) p before) → rest k before ≡ whole → Refuses why whole
  back_stops k p param e TooManyIds before whole at_p at_param at_e is so_far =
      sym so_far ∙ back_opens k p param e at_p at_param at_e before ∙ ap (λ r. behind r (λ done. rest (k + 1))) is
  back_stops k p param e Memory before whole at_p at_param at_e is so_far = tt

  pub back_ends : (k : ℕ) (flow : Flow) (whole : Lowered (Unit {0})) → length ps ≤ k → rest k flow ≡ whole → whole ≡ Gives tt flow
  unfolding all_back
  back_ends k flow whole past so_far = sym so_far ∙ ap (λ l. all_back structs l (drop k params) (map type_of (drop k es)) flow) (drop_all k ps past)

-- ---- arguments

module _ (s : Setting) (es : List Expr) (params : List (Direction × Ty)) where
  pass_opens : (k : ℕ) (e : Expr) (param : Direction × Ty) (n : ℕ) → slice_get es k ≡ Some e → slice_get params k ≡ Some param → n ≡ count_splits (drop (k + 1) es) → (flow : Flow)
      → passes_all s (drop k es) (drop k params) flow ≡ behind (passes s (nat_lt 0 n) param.0 param.1 e flow) (then_rest (passes_all s (drop (k + 1) es) (drop (k + 1) params)))
  pass_opens k e param n at_e at_param is flow =
      ap (λ l. passes_all s l (drop k params) flow) (opened es k e at_e) ∙ ap (λ l. passes_all s (e ∷ drop (k + 1) es) l flow) (opened params k param at_param)
      ∙ passes_all-opens s e (drop (k + 1) es) param (drop (k + 1) params) flow
      ∙ ap (λ c. behind (passes s (nat_lt 0 c) param.0 param.1 e flow) (then_rest (passes_all s (drop (k + 1) es) (drop (k + 1) params)))) (sym is)

  pub passed_on : (k : ℕ) (e same : Expr) (param : Direction × Ty) (left n : ℕ) (one : Passed) (front new : List Passed) (before after : Flow) (whole : Lowered (List Passed))
      → slice_get es k ≡ Some e → slice_get es k ≡ Some same → slice_get params k ≡ Some param → n + own_split same ≡ left
      → passes s (nat_lt 0 n) param.0 param.1 e before ≡ Gives one after → new ≡ front ++ one ∷ []
      → (left ≡ count_splits (drop k es)) × (with_front front (passes_all s (drop k es) (drop k params) before) ≡ whole)
      → (n ≡ count_splits (drop (k + 1) es)) × (with_front new (passes_all s (drop (k + 1) es) (drop (k + 1) params) after) ≡ whole)
  passed_on k e same param left n one front new before after whole at_e at_same at_param less is made so_far =
      let now = left_on es k same left n at_same less so_far.0 in
      (now, turned (passes_all s (drop (k + 1) es) (drop (k + 1) params)) front new one after _ whole _ is made (pass_opens k e param n at_e at_param now before) so_far.1)

  pub pass_stops : (k : ℕ) (e same : Expr) (param : Direction × Ty) (left n : ℕ) (front : List Passed) (why : BuildRefusal) (before : Flow) (whole : Lowered (List Passed))
      → slice_get es k ≡ Some e → slice_get es k ≡ Some same → slice_get params k ≡ Some param → n + own_split same ≡ left
      → Refuses why (passes s (nat_lt 0 n) param.0 param.1 e before)
      → (left ≡ count_splits (drop k es)) × (with_front front (passes_all s (drop k es) (drop k params) before) ≡ whole) → Refuses why whole
  pass_stops k e same param left n front why before whole at_e at_same at_param less is so_far =
      stopped (passes_all s (drop (k + 1) es) (drop (k + 1) params)) front why _ whole _ is (pass_opens k e param n at_e at_param (left_on es k same left n at_same less so_far.0) before) so_far.1

  pub all_passed : (k : ℕ) (front : List Passed) (flow : Flow) (whole : Lowered (List Passed)) → length es ≤ k → with_front front (passes_all s (drop k es) (drop k params) flow) ≡ whole → whole ≡ Gives front flow
  all_passed k front flow whole past so_far =
      sym so_far ∙ ap (λ l. with_front front (passes_all s l (drop k params) flow)) (drop_all k es past) ∙ ap (with_front front) (passes_all-ends s (drop k params) flow) ∙ ap (λ l. Gives l flow) (append-nil front)
