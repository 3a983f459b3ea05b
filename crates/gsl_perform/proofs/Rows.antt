-- Parts one behind the other.
use Rattle.std.proofs.Common.{◌≡◌, refl, sym, ap, ◌∙◌, ℕ, ◌+◌, ◌≤◌, min, List, [], ◌∷◌, ◌++◌, length, drop, slice_get, Some, arith, append_assoc, append-nil, inl, inr}
use Rattle.std.proofs.lemmas.Bool.{cases_lt}
use Rattle.std.proofs.lemmas.List.{drop_all}
use Rattle.gsl_types.specs.declared.ty.Direction.{Direction}
use Rattle.gsl_types.specs.declared.ty.Ty.{Ty}
use Rattle.gsl_values.specs.declared.value.Value.{Value}
use Rattle.gsl_compute.proofs.Loops.{opened}
use Rattle.gsl_tree.specs.declared.expr.Expr.{Expr}
use Rattle.gsl_meaning.specs.State.{State}
use Rattle.gsl_meaning.specs.Running.{Ran, Run, Got, Ends, Strays, Goes, behind, given, ◌>>=◌}
use Rattle.gsl_meaning.specs.Expressions.{Passed, Setting, all_back, put_back}
use Rattle.gsl_perform.specs.declared.stop.Stop.{Stop}
use Rattle.gsl_perform.specs.declared.stop.Stop.TheVariants as stop
use Rattle.gsl_perform.specs.declared.world.World.{World}
use Rattle.gsl_perform.specs.Does.{Stops}
use Rattle.gsl_perform.specs.Coming.{evaluates, evaluates_all, passes, passes_all, with_front}

-- one part, and the rest behind it
abbrev pub then_rest : {A : Type 0} → Run (List A) → A → Run (List A)
then_rest rest a = rest >>= (λ others. given (a ∷ others))

module _ {A : Type 0} (rest : Run (List A)) where
  front_step : (front : List A) (a : A) (r : Ran (List A)) → with_front front (behind r (λ others. given (a ∷ others))) ≡ with_front (front ++ a ∷ []) r
  front_step front a (Got others state units) = ap (λ l. Got l state units) (sym (append_assoc front (a ∷ []) others))
  front_step front a (Ends state) = refl
  front_step front a Strays = refl
  front_step front a Goes = refl

  pub turned : (front new : List A) (a : A) (state : State) (units : ℕ) (one whole : Ran (List A)) (first : Ran A) → first ≡ Got a state units → new ≡ front ++ a ∷ [] → one ≡ behind first (then_rest rest)
      → with_front front one ≡ whole → with_front new (rest state units) ≡ whole
  turned front new a state units one whole first is made opens so_far =
      ap (λ l. with_front l (rest state units)) made ∙ sym (front_step front a (rest state units)) ∙ ap (λ r. with_front front (behind r (then_rest rest))) (sym is) ∙ ap (with_front front) (sym opens) ∙ so_far

  pub stopped : (front : List A) (why : Stop) (world : World) (one whole : Ran (List A)) (first : Ran A) → Stops why world first → one ≡ behind first (then_rest rest) → with_front front one ≡ whole → Stops why world whole
  stopped front stop.Ends world one whole first is opens so_far = sym so_far ∙ ap (with_front front) opens ∙ ap (λ r. with_front front (behind r (then_rest rest))) is
  stopped front stop.Strays world one whole first is opens so_far = sym so_far ∙ ap (with_front front) opens ∙ ap (λ r. with_front front (behind r (then_rest rest))) is
  stopped front stop.Goes world one whole first is opens so_far = sym so_far ∙ ap (with_front front) opens ∙ ap (λ r. with_front front (behind r (then_rest rest))) is
  stopped front stop.Memory world one whole first is opens so_far = tt

-- ---- values

module _ (setting : Setting) (es : List Expr) where
  values_open : (k : ℕ) (e : Expr) → slice_get es k ≡ Some e → (state : State) (units : ℕ) → evaluates_all setting (drop k es) state units ≡ behind (evaluates setting e state units) (then_rest (evaluates_all setting (drop (k + 1) es)))
  unfolding evaluates_all evaluates
  values_open k e at_k state units = ap (λ l. evaluates_all setting l state units) (opened es k e at_k)

  pub value_on : (k : ℕ) (e : Expr) (front new : List Value) (v : Value) (before after : World) (whole : Ran (List Value)) → slice_get es k ≡ Some e → evaluates setting e before.store before.units ≡ Got v after.store after.units
      → new ≡ front ++ v ∷ [] → with_front front (evaluates_all setting (drop k es) before.store before.units) ≡ whole → with_front new (evaluates_all setting (drop (k + 1) es) after.store after.units) ≡ whole
  value_on k e front new v before after whole at_k is made so_far =
      turned (evaluates_all setting (drop (k + 1) es)) front new v after.store after.units _ whole _ is made (values_open k e at_k before.store before.units) so_far

  pub value_stops : (k : ℕ) (e : Expr) (front : List Value) (why : Stop) (before after : World) (whole : Ran (List Value)) → slice_get es k ≡ Some e → Stops why after (evaluates setting e before.store before.units)
      → with_front front (evaluates_all setting (drop k es) before.store before.units) ≡ whole → Stops why after whole
  value_stops k e front why before after whole at_k is so_far =
      stopped (evaluates_all setting (drop (k + 1) es)) front why after _ whole _ is (values_open k e at_k before.store before.units) so_far

  pub values_end : (k : ℕ) (front : List Value) (world : World) (whole : Ran (List Value)) → length es ≤ k → with_front front (evaluates_all setting (drop k es) world.store world.units) ≡ whole → whole ≡ Got front world.store world.units
  unfolding evaluates_all
  values_end k front world whole past so_far =
      sym so_far ∙ ap (λ l. with_front front (evaluates_all setting l world.store world.units)) (drop_all k es past) ∙ ap (λ l. Got l world.store world.units) (append-nil front)

-- ---- arguments

module _ (setting : Setting) (params : List (Direction × Ty)) (args : List Expr) where
  args_open : (k : ℕ) (param : Direction × Ty) (e : Expr) → slice_get params k ≡ Some param → slice_get args k ≡ Some e → (state : State) (units : ℕ)
      → passes_all setting (drop k params) (drop k args) state units ≡ behind (passes setting param.0 param.1 e state units) (then_rest (passes_all setting (drop (k + 1) params) (drop (k + 1) args)))
  unfolding passes_all passes
  args_open k param e at_k also state units =
      ap (λ l. passes_all setting l (drop k args) state units) (opened params k param at_k) ∙ ap (λ l. passes_all setting (param ∷ drop (k + 1) params) l state units) (opened args k e also)

  pub arg_on : (k : ℕ) (param : Direction × Ty) (e : Expr) (front new : List Passed) (p : Passed) (before after : World) (whole : Ran (List Passed)) → slice_get params k ≡ Some param → slice_get args k ≡ Some e
      → passes setting param.0 param.1 e before.store before.units ≡ Got p after.store after.units → new ≡ front ++ p ∷ []
      → with_front front (passes_all setting (drop k params) (drop k args) before.store before.units) ≡ whole → with_front new (passes_all setting (drop (k + 1) params) (drop (k + 1) args) after.store after.units) ≡ whole
  arg_on k param e front new p before after whole at_k also is made so_far =
      turned (passes_all setting (drop (k + 1) params) (drop (k + 1) args)) front new p after.store after.units _ whole _ is made (args_open k param e at_k also before.store before.units) so_far

  pub arg_stops : (k : ℕ) (param : Direction × Ty) (e : Expr) (front : List Passed) (why : Stop) (before after : World) (whole : Ran (List Passed)) → slice_get params k ≡ Some param → slice_get args k ≡ Some e
      → Stops why after (passes setting param.0 param.1 e before.store before.units) → with_front front (passes_all setting (drop k params) (drop k args) before.store before.units) ≡ whole → Stops why after whole
  arg_stops k param e front why before after whole at_k also is so_far =
      stopped (passes_all setting (drop (k + 1) params) (drop (k + 1) args)) front why after _ whole _ is (args_open k param e at_k also before.store before.units) so_far

  no_args : (ps : List (Direction × Ty)) (state : State) (units : ℕ) → passes_all setting ps [] state units ≡ Got [] state units
  unfolding passes_all
  no_args [] state units = refl
  no_args (param ∷ ps) state units = refl

  none_past : (k : ℕ) (state : State) (units : ℕ) → min (length params) (length args) ≤ k → passes_all setting (drop k params) (drop k args) state units ≡ Got [] state units
  unfolding passes_all
  none_past k state units past =
      elim (cases_lt k (length params)) as (λ _. passes_all setting (drop k params) (drop k args) state units ≡ Got [] state units) [
        | inl long ↦ ap (λ l. passes_all setting (drop k params) l state units) (drop_all k args (omega (arith, past, long))) ∙ no_args (drop k params) state units
        | inr short ↦ ap (λ l. passes_all setting l (drop k args) state units) (drop_all k params short)
      ]

  pub args_end : (k : ℕ) (front : List Passed) (world : World) (whole : Ran (List Passed)) → min (length params) (length args) ≤ k
      → with_front front (passes_all setting (drop k params) (drop k args) world.store world.units) ≡ whole → whole ≡ Got front world.store world.units
  args_end k front world whole past so_far =
      sym so_far ∙ ap (with_front front) (none_past k world.store world.units past) ∙ ap (λ l. Got l world.store world.units) (append-nil front)

-- ---- what goes back

module _ (passed : List Passed) (values : List Value) where
  pub back_on : (k : ℕ) (p : Passed) (v : Value) (before after whole : State) → slice_get passed k ≡ Some p → slice_get values k ≡ Some v → after ≡ put_back p.back v before
      → all_back (drop k passed) (drop k values) before ≡ whole → all_back (drop (k + 1) passed) (drop (k + 1) values) after ≡ whole
  back_on k p v before after whole at_p at_v is so_far =
      ap (all_back (drop (k + 1) passed) (drop (k + 1) values)) is
      ∙ sym (ap (λ l. all_back l (drop k values) before) (opened passed k p at_p) ∙ ap (λ l. all_back (p ∷ drop (k + 1) passed) l before) (opened values k v at_v)) ∙ so_far

  none_back : (ps : List Passed) (state : State) → all_back ps [] state ≡ state
  none_back [] state = refl
  none_back (p ∷ ps) state = refl

  pub back_end : (k : ℕ) (state whole : State) → min (length passed) (length values) ≤ k → all_back (drop k passed) (drop k values) state ≡ whole → state ≡ whole
  back_end k state whole past so_far =
      elim (cases_lt k (length passed)) as (λ _. state ≡ whole) [
        | inl long ↦ sym (ap (λ l. all_back (drop k passed) l state) (drop_all k values (omega (arith, past, long))) ∙ none_back (drop k passed) state) ∙ so_far
        | inr short ↦ sym (ap (λ l. all_back l (drop k values) state) (drop_all k passed short)) ∙ so_far
      ]
