-- Rows of expressions, one behind the other.
use Rattle.std.proofs.Common.{◌≡◌, refl, sym, ap, subst, ◌∙◌, ℕ, ◌+◌, ◌≤◌, min, List, [], ◌∷◌, ◌++◌, length, drop, slice_get, Some, append_assoc, append-nil, arith, inl, inr}
use Rattle.std.specs.Prelude.{nat_lt}
use Rattle.std.proofs.lemmas.Bool.{cases_lt}
use Rattle.std.proofs.lemmas.List.{drop_all}
use Rattle.gsl_compute.proofs.Loops.{opened}
use Rattle.gsl_spv.specs.declared.refusal.BuildRefusal.{BuildRefusal}
use Rattle.gsl_spv.specs.declared.refusal.BuildRefusal.TheVariants.{TooManyIds, Memory}
use Rattle.gsl_tree.specs.Trees.{type_of}
use Rattle.gsl_tree.specs.declared.expr.Expr.{Expr}
use Rattle.gsl_lower_values.specs.Constructors.{operand}
use Rattle.gsl_lower_values.specs.declared.operand.Operand.{Operand}
use Rattle.gsl_lower_holders.specs.Flow.{Emit, Flow, Lowered, Gives, Lacks, behind, ◌>>=◌, Refuses, with_front}
use Rattle.gsl_lower_holders.specs.Waiting.{fetch, hold}
use Rattle.gsl_lower_holders.proofs.Turns.{stopped, then_rest, turned}
use Rattle.gsl_lower_expr.specs.Coming.{evaluates, keeps_all, sequence_of}
use Rattle.gsl_lower_expr.specs.Lowering.{Setting}
use Rattle.gsl_lower_expr.specs.Parts.{shape_or}
use Rattle.gsl_lower_expr.specs.Rows.{count_splits, fetches_all, own_split, typed_all}
use Rattle.gsl_lower_expr.proofs.Steps.{keeps-ends, keeps-opens, sequence-ends, sequence-opens}

-- ---- rows of expressions

opened_two : {A B : Type 0} (xs : List A) (ys : List B) (k : ℕ) (x : A) (y : B) → slice_get xs k ≡ Some x → slice_get ys k ≡ Some y → {C : Type 0} (f : List A → List B → C) → f (drop k xs) (drop k ys) ≡ f (x ∷ drop (k + 1) xs) (y ∷ drop (k + 1) ys)
opened_two xs ys k x y at_x at_y f = ap (λ l. f l (drop k ys)) (opened xs k x at_x) ∙ ap (f (x ∷ drop (k + 1) xs)) (opened ys k y at_y)

pub counted_on : (es : List Expr) (k : ℕ) (e : Expr) (count own : ℕ) (whole : ℕ) → slice_get es k ≡ Some e → own ≡ own_split e → count + count_splits (drop k es) ≡ whole → count + own + count_splits (drop (k + 1) es) ≡ whole
counted_on es k e count own whole at_k is so_far =
    omega (arith, is, ap count_splits (opened es k e at_k), so_far)

pub left_on : (es : List Expr) (k : ℕ) (e : Expr) (left n : ℕ) → slice_get es k ≡ Some e → n + own_split e ≡ left → left ≡ count_splits (drop k es) → n ≡ count_splits (drop (k + 1) es)
left_on es k e left n at_k less is = omega (arith, less, is, ap count_splits (opened es k e at_k))

module _ (es : List Expr) (kept : List ℕ) where
  fetch_opens : (k : ℕ) (e : Expr) (id n : ℕ) → slice_get es k ≡ Some e → slice_get kept k ≡ Some id → n ≡ count_splits (drop (k + 1) es) → (flow : Flow)
      → fetches_all (drop k es) (drop k kept) flow ≡ behind (fetch (nat_lt 0 n) (type_of e) id flow) (then_rest (fetches_all (drop (k + 1) es) (drop (k + 1) kept)))
  unfolding fetches_all
  fetch_opens k e id n at_e at_id is flow =
      opened_two es kept k e id at_e at_id (λ l m. fetches_all l m flow) ∙ ap (λ c. behind (fetch (nat_lt 0 c) (type_of e) id flow) (then_rest (fetches_all (drop (k + 1) es) (drop (k + 1) kept)))) (sym is)

  pub fetched_on : (k : ℕ) (e : Expr) (id left n x : ℕ) (front new : List ℕ) (before after : Flow) (whole : Lowered (List ℕ)) → slice_get es k ≡ Some e → slice_get kept k ≡ Some id → n + own_split e ≡ left
      → fetch (nat_lt 0 n) (type_of e) id before ≡ Gives x after → new ≡ front ++ x ∷ []
      → (left ≡ count_splits (drop k es)) × (with_front front (fetches_all (drop k es) (drop k kept) before) ≡ whole)
      → (n ≡ count_splits (drop (k + 1) es)) × (with_front new (fetches_all (drop (k + 1) es) (drop (k + 1) kept) after) ≡ whole)
  fetched_on k e id left n x front new before after whole at_e at_id less is made so_far =
      let now = left_on es k e left n at_e less so_far.0 in
      (now, turned (fetches_all (drop (k + 1) es) (drop (k + 1) kept)) front new x after _ whole _ is made (fetch_opens k e id n at_e at_id now before) so_far.1)

  pub fetch_stops : (k : ℕ) (e : Expr) (id left n : ℕ) (front : List ℕ) (why : BuildRefusal) (before : Flow) (whole : Lowered (List ℕ)) → slice_get es k ≡ Some e → slice_get kept k ≡ Some id → n + own_split e ≡ left
      → Refuses why (fetch (nat_lt 0 n) (type_of e) id before) → (left ≡ count_splits (drop k es)) × (with_front front (fetches_all (drop k es) (drop k kept) before) ≡ whole) → Refuses why whole
  fetch_stops k e id left n front why before whole at_e at_id less is so_far =
      stopped (fetches_all (drop (k + 1) es) (drop (k + 1) kept)) front why _ whole _ is (fetch_opens k e id n at_e at_id (left_on es k e left n at_e less so_far.0) before) so_far.1

  none_kept : (l : List Expr) (flow : Flow) → fetches_all l [] flow ≡ Gives [] flow
  unfolding fetches_all
  none_kept [] flow = refl
  none_kept (e ∷ l) flow = refl

  no_fetch : (k : ℕ) (flow : Flow) → min (length es) (length kept) ≤ k → fetches_all (drop k es) (drop k kept) flow ≡ Gives [] flow
  unfolding fetches_all
  no_fetch k flow past =
      elim (cases_lt k (length es)) as (λ _. fetches_all (drop k es) (drop k kept) flow ≡ Gives [] flow) [
        | inl long ↦ ap (λ l. fetches_all (drop k es) l flow) (drop_all k kept (omega (arith, past, long))) ∙ none_kept (drop k es) flow
        | inr short ↦ ap (λ l. fetches_all l (drop k kept) flow) (drop_all k es short)
      ]

  pub fetched_all : (k : ℕ) (front : List ℕ) (flow : Flow) (whole : Lowered (List ℕ)) → min (length es) (length kept) ≤ k → with_front front (fetches_all (drop k es) (drop k kept) flow) ≡ whole → whole ≡ Gives front flow
  fetched_all k front flow whole past so_far = sym so_far ∙ ap (with_front front) (no_fetch k flow past) ∙ ap (λ l. Gives l flow) (append-nil front)

  none_typed : (l : List Expr) → typed_all l [] ≡ []
  none_typed [] = refl
  none_typed (e ∷ l) = refl

  pub typed_end : (k : ℕ) (front whole : List Operand) → min (length es) (length kept) ≤ k → front ++ typed_all (drop k es) (drop k kept) ≡ whole → front ≡ whole
  typed_end k front whole past so_far =
      elim (cases_lt k (length es)) as (λ _. front ≡ whole) [
        | inl long ↦ sym (ap (λ l. front ++ typed_all (drop k es) l) (drop_all k kept (omega (arith, past, long))) ∙ ap (λ l. front ++ l) (none_typed (drop k es)) ∙ append-nil front) ∙ so_far
        | inr short ↦ sym (ap (λ l. front ++ typed_all l (drop k kept)) (drop_all k es short) ∙ append-nil front) ∙ so_far
      ]

  pub typed_on : (k : ℕ) (e : Expr) (id : ℕ) (one : Operand) (front new whole : List Operand) → slice_get es k ≡ Some e → slice_get kept k ≡ Some id → one ≡ operand (shape_or (type_of e)) id → new ≡ front ++ one ∷ []
      → front ++ typed_all (drop k es) (drop k kept) ≡ whole → new ++ typed_all (drop (k + 1) es) (drop (k + 1) kept) ≡ whole
  typed_on k e id one front new whole at_e at_id is made so_far =
      ap (λ l. l ++ typed_all (drop (k + 1) es) (drop (k + 1) kept)) (made ∙ ap (λ x. front ++ x ∷ []) is) ∙ append_assoc front (operand (shape_or (type_of e)) id ∷ []) (typed_all (drop (k + 1) es) (drop (k + 1) kept))
      ∙ sym (opened_two es kept k e id at_e at_id (λ l m. front ++ typed_all l m)) ∙ so_far

-- ---- rows in the cycle

assoc : (r : Lowered ℕ) (h : ℕ → Emit ℕ) (g : ℕ → Emit (List ℕ)) → behind r (λ x. h x >>= g) ≡ behind (behind r h) g
assoc (Gives x flow) h g = refl
assoc Lacks h g = refl

module _ (s : Setting) (es : List Expr) where
  keep_opens : (k : ℕ) (e : Expr) (n : ℕ) → slice_get es k ≡ Some e → n ≡ count_splits (drop (k + 1) es) → (flow : Flow)
      → keeps_all s (drop k es) flow ≡ behind (behind (evaluates s e flow) (hold (nat_lt 0 n))) (then_rest (keeps_all s (drop (k + 1) es)))
  keep_opens k e n at_k is flow =
      ap (λ l. keeps_all s l flow) (opened es k e at_k) ∙ keeps-opens s e (drop (k + 1) es) flow
      ∙ ap (λ c. behind (evaluates s e flow) (λ x. hold (nat_lt 0 c) x >>= then_rest (keeps_all s (drop (k + 1) es)))) (sym is)
      ∙ assoc (evaluates s e flow) (hold (nat_lt 0 n)) (then_rest (keeps_all s (drop (k + 1) es)))

  pub kept_on : (k : ℕ) (e same : Expr) (left n x id : ℕ) (front new : List ℕ) (before between after : Flow) (whole : Lowered (List ℕ)) → slice_get es k ≡ Some e → slice_get es k ≡ Some same → n + own_split same ≡ left
      → evaluates s e before ≡ Gives x between → hold (nat_lt 0 n) x between ≡ Gives id after → new ≡ front ++ id ∷ []
      → (left ≡ count_splits (drop k es)) × (with_front front (keeps_all s (drop k es) before) ≡ whole)
      → (n ≡ count_splits (drop (k + 1) es)) × (with_front new (keeps_all s (drop (k + 1) es) after) ≡ whole)
  kept_on k e same left n x id front new before between after whole at_k at_same less is held made so_far =
      let now = left_on es k same left n at_same less so_far.0 in
      (now, turned (keeps_all s (drop (k + 1) es)) front new id after _ whole _ (ap (λ r. behind r (hold (nat_lt 0 n))) is ∙ held) made (keep_opens k e n at_k now before) so_far.1)

  refused : (why : BuildRefusal) (r : Lowered ℕ) (h : ℕ → Emit ℕ) → Refuses why r → Refuses why (behind r h)
  refused TooManyIds r h is = ap (λ q. behind q h) is
  refused Memory r h is = tt

  pub value_stops : (k : ℕ) (e same : Expr) (left n : ℕ) (front : List ℕ) (why : BuildRefusal) (before : Flow) (whole : Lowered (List ℕ)) → slice_get es k ≡ Some e → slice_get es k ≡ Some same → n + own_split same ≡ left → Refuses why (evaluates s e before)
      → (left ≡ count_splits (drop k es)) × (with_front front (keeps_all s (drop k es) before) ≡ whole) → Refuses why whole
  value_stops k e same left n front why before whole at_k at_same less is so_far =
      stopped (keeps_all s (drop (k + 1) es)) front why _ whole _ (refused why (evaluates s e before) (hold (nat_lt 0 n)) is) (keep_opens k e n at_k (left_on es k same left n at_same less so_far.0) before) so_far.1

  pub hold_stops : (k : ℕ) (e same : Expr) (left n x : ℕ) (front : List ℕ) (why : BuildRefusal) (before between : Flow) (whole : Lowered (List ℕ)) → slice_get es k ≡ Some e → slice_get es k ≡ Some same → n + own_split same ≡ left
      → evaluates s e before ≡ Gives x between → Refuses why (hold (nat_lt 0 n) x between) → (left ≡ count_splits (drop k es)) × (with_front front (keeps_all s (drop k es) before) ≡ whole) → Refuses why whole
  hold_stops k e same left n x front why before between whole at_k at_same less is held so_far =
      stopped (keeps_all s (drop (k + 1) es)) front why _ whole _ (subst (λ r. Refuses why (behind r (hold (nat_lt 0 n)))) (sym is) held) (keep_opens k e n at_k (left_on es k same left n at_same less so_far.0) before) so_far.1

  pub kept_all : (k : ℕ) (front : List ℕ) (flow : Flow) (whole : Lowered (List ℕ)) → length es ≤ k → with_front front (keeps_all s (drop k es) flow) ≡ whole → whole ≡ Gives front flow
  kept_all k front flow whole past so_far =
      sym so_far ∙ ap (λ l. with_front front (keeps_all s l flow)) (drop_all k es past) ∙ ap (with_front front) (keeps-ends s flow) ∙ ap (λ l. Gives l flow) (append-nil front)

  pub next_on : (k : ℕ) (e : Expr) (last id : ℕ) (before after : Flow) (whole : Lowered ℕ) → slice_get es k ≡ Some e → evaluates s e before ≡ Gives id after → sequence_of s last (drop k es) before ≡ whole
      → sequence_of s id (drop (k + 1) es) after ≡ whole
  next_on k e last id before after whole at_k is so_far =
      ap (λ r. behind r (λ x. sequence_of s x (drop (k + 1) es))) (sym is) ∙ sym (ap (λ l. sequence_of s last l before) (opened es k e at_k) ∙ sequence-opens s last e (drop (k + 1) es) before) ∙ so_far

  pub next_stops : (k : ℕ) (e : Expr) (last : ℕ) (why : BuildRefusal) (before : Flow) (whole : Lowered ℕ) → slice_get es k ≡ Some e → Refuses why (evaluates s e before) → sequence_of s last (drop k es) before ≡ whole → Refuses why whole
  next_stops k e last TooManyIds before whole at_k is so_far =
      sym so_far ∙ ap (λ l. sequence_of s last l before) (opened es k e at_k) ∙ sequence-opens s last e (drop (k + 1) es) before ∙ ap (λ r. behind r (λ x. sequence_of s x (drop (k + 1) es))) is
  next_stops k e last Memory before whole at_k is so_far = tt

  pub last_is : (k : ℕ) (last : ℕ) (flow : Flow) (whole : Lowered ℕ) → length es ≤ k → sequence_of s last (drop k es) flow ≡ whole → whole ≡ Gives last flow
  last_is k last flow whole past so_far = sym so_far ∙ ap (λ l. sequence_of s last l flow) (drop_all k es past) ∙ sequence-ends s last flow
