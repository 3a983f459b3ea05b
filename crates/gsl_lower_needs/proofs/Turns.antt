-- What is asked for at rows, one behind the other.
use Rattle.std.proofs.Common.{◌≡◌, sym, ap, ◌∙◌, ℕ, ◌+◌, ◌≤◌, List, ◌∷◌, length, drop, slice_get, Option, Some, None, arith}
use Rattle.std.specs.Prelude.{Bool, true, false, nat_lt, if◌then◌else◌}
use Rattle.std.proofs.lemmas.List.{drop_all}
use Rattle.gsl_compute.proofs.Loops.{opened}
use Rattle.gsl_types.specs.declared.ty.Direction.{Direction}
use Rattle.gsl_types.specs.declared.ty.Ty.{Ty}
use Rattle.gsl_tree.specs.Trees.{type_of}
use Rattle.gsl_tree.specs.declared.expr.Expr.{Expr}
use Rattle.gsl_tree.specs.declared.stmt.Arm.{Arm, out-Arm}
use Rattle.gsl_tree.specs.declared.stmt.Stmt.{Stmt}
use Rattle.gsl_tree.specs.declared.unit.Prototype.{Prototype}
use Rattle.gsl_lower_expr.specs.Rows.{count_splits, own_split}
use Rattle.gsl_lower_needs.specs.declared.need.Need.{Need}
use Rattle.gsl_lower_needs.specs.Asking.{Asked, Asks, behind, ◌>>=◌, given}
use Rattle.gsl_lower_needs.specs.Bodies.{arms, row, statement}
use Rattle.gsl_lower_needs.specs.Coming.{evaluates, keeps_all, passes, passes_all, sequence_of}
use Rattle.gsl_lower_needs.specs.Needs.{hold, holders, in_holder}
use Rattle.gsl_lower_needs.proofs.StmtSteps.{arms-ends, arms-opens, row-ends, row-opens}
use Rattle.gsl_lower_needs.proofs.Steps.{keeps-ends, keeps-opens, passes_all-ends, passes_all-opens, sequence-ends, sequence-opens}

abbrev Needs : Type 0
Needs = List Need

abbrev or_other : Expr → Option Expr → Expr
or_other other None = other
or_other other (Some e) = e

some_one : (a b : Expr) → Some a ≡ Some b → a ≡ b
some_one a b is = ap (or_other a) is

left_on : (es : List Expr) (k : ℕ) (e : Expr) (left n : ℕ) → slice_get es k ≡ Some e → n + own_split e ≡ left → left ≡ count_splits (drop k es) → n ≡ count_splits (drop (k + 1) es)
left_on es k e left n at_k less is = omega (arith, less, is, ap count_splits (opened es k e at_k))

module _ (ts : List Ty) where
  pub holders_on : (k : ℕ) (t : Ty) (done : Unit {0}) (before after : Needs) (whole : Asked (Unit {0})) → slice_get ts k ≡ Some t → in_holder t before ≡ Asks done after → holders (drop k ts) before ≡ whole → holders (drop (k + 1) ts) after ≡ whole
  unfolding holders
  holders_on k t done before after whole at_k is so_far =
      ap (λ r. behind r (λ d. holders (drop (k + 1) ts))) (sym is) ∙ sym (ap (λ l. holders l before) (opened ts k t at_k)) ∙ so_far

  pub holders_end : (k : ℕ) (needs : Needs) (whole : Asked (Unit {0})) → length ts ≤ k → holders (drop k ts) needs ≡ whole → whole ≡ Asks tt needs
  unfolding holders
  holders_end k needs whole past so_far = sym so_far ∙ ap (λ l. holders l needs) (drop_all k ts past)

module _ (s : List Prototype) (es : List Expr) where
  pub kept_on : (k : ℕ) (e same typed : Expr) (left n : ℕ) (first second : Unit {0}) (before between after : Needs) (whole : Asked (Unit {0})) → slice_get es k ≡ Some e → slice_get es k ≡ Some same → slice_get es k ≡ Some typed → n + own_split same ≡ left
      → evaluates s e before ≡ Asks first between → hold (nat_lt 0 n) (type_of typed) between ≡ Asks second after
      → (left ≡ count_splits (drop k es)) × (keeps_all s (drop k es) before ≡ whole) → (n ≡ count_splits (drop (k + 1) es)) × (keeps_all s (drop (k + 1) es) after ≡ whole)
  kept_on k e same typed left n first second before between after whole at_k at_same at_typed less is held so_far =
      let now = left_on es k same left n at_same less so_far.0 in (
        now,
        ap (λ r. behind r (λ d. keeps_all s (drop (k + 1) es))) (sym held)
            ∙ ap (λ c. behind (hold (nat_lt 0 c) (type_of typed) between) (λ d. keeps_all s (drop (k + 1) es))) now
            ∙ ap (λ x. behind (hold (nat_lt 0 (count_splits (drop (k + 1) es))) (type_of x) between) (λ d. keeps_all s (drop (k + 1) es))) (some_one typed e (sym at_typed ∙ at_k))
            ∙ ap (λ r. behind r (λ x. hold (nat_lt 0 (count_splits (drop (k + 1) es))) (type_of e) >>= (λ d. keeps_all s (drop (k + 1) es)))) (sym is)
            ∙ sym (ap (λ l. keeps_all s l before) (opened es k e at_k) ∙ keeps-opens s e (drop (k + 1) es) before) ∙ so_far.1,
      )

  pub kept_all : (k : ℕ) (needs : Needs) (whole : Asked (Unit {0})) → length es ≤ k → keeps_all s (drop k es) needs ≡ whole → whole ≡ Asks tt needs
  kept_all k needs whole past so_far = sym so_far ∙ ap (λ l. keeps_all s l needs) (drop_all k es past) ∙ keeps-ends s needs

  pub next_on : (k : ℕ) (e : Expr) (done : Unit {0}) (before after : Needs) (whole : Asked (Unit {0})) → slice_get es k ≡ Some e → evaluates s e before ≡ Asks done after → sequence_of s (drop k es) before ≡ whole → sequence_of s (drop (k + 1) es) after ≡ whole
  next_on k e done before after whole at_k is so_far =
      ap (λ r. behind r (λ x. sequence_of s (drop (k + 1) es))) (sym is) ∙ sym (ap (λ l. sequence_of s l before) (opened es k e at_k) ∙ sequence-opens s e (drop (k + 1) es) before) ∙ so_far

  pub last_is : (k : ℕ) (needs : Needs) (whole : Asked (Unit {0})) → length es ≤ k → sequence_of s (drop k es) needs ≡ whole → whole ≡ Asks tt needs
  last_is k needs whole past so_far = sym so_far ∙ ap (λ l. sequence_of s l needs) (drop_all k es past) ∙ sequence-ends s needs

  pub passed_on : (params : List (Direction × Ty)) (k : ℕ) (e same : Expr) (param : Direction × Ty) (left n : ℕ) (done : Unit {0}) (before after : Needs) (whole : Asked (Unit {0})) → slice_get es k ≡ Some e → slice_get es k ≡ Some same → slice_get params k ≡ Some param
      → n + own_split same ≡ left → passes s (nat_lt 0 n) param.0 param.1 e before ≡ Asks done after
      → (left ≡ count_splits (drop k es)) × (passes_all s (drop k es) (drop k params) before ≡ whole) → (n ≡ count_splits (drop (k + 1) es)) × (passes_all s (drop (k + 1) es) (drop (k + 1) params) after ≡ whole)
  passed_on params k e same param left n done before after whole at_k at_same at_param less is so_far =
      let now = left_on es k same left n at_same less so_far.0 in (
        now,
        ap (λ r. behind r (λ d. passes_all s (drop (k + 1) es) (drop (k + 1) params))) (sym is)
            ∙ ap (λ c. behind (passes s (nat_lt 0 c) param.0 param.1 e before) (λ d. passes_all s (drop (k + 1) es) (drop (k + 1) params))) now
            ∙ sym (ap (λ l. passes_all s l (drop k params) before) (opened es k e at_k) ∙ ap (λ l. passes_all s (e ∷ drop (k + 1) es) l before) (opened params k param at_param)
            ∙ passes_all-opens s e (drop (k + 1) es) param (drop (k + 1) params) before) ∙ so_far.1,
      )

  pub passed_all : (params : List (Direction × Ty)) (k : ℕ) (needs : Needs) (whole : Asked (Unit {0})) → length es ≤ k → passes_all s (drop k es) (drop k params) needs ≡ whole → whole ≡ Asks tt needs
  passed_all params k needs whole past so_far = sym so_far ∙ ap (λ l. passes_all s l (drop k params) needs) (drop_all k es past) ∙ passes_all-ends s (drop k params) needs

-- ---- statements

module _ (s : List Prototype) (ss : List Stmt) where
  row_opens : (k : ℕ) (one : Stmt) (needs : Needs) (whole : Asked Bool) → slice_get ss k ≡ Some one → row s (drop k ss) needs ≡ whole → behind (statement s one needs) (λ left. if left then given true else row s (drop (k + 1) ss)) ≡ whole
  row_opens k one needs whole at_k so_far = sym (ap (λ l. row s l needs) (opened ss k one at_k) ∙ row-opens s one (drop (k + 1) ss) needs) ∙ so_far

  pub row_on : (k : ℕ) (one : Stmt) (left : Bool) (before after : Needs) (whole : Asked Bool) → slice_get ss k ≡ Some one → statement s one before ≡ Asks left after → left ≡ false → row s (drop k ss) before ≡ whole → row s (drop (k + 1) ss) after ≡ whole
  row_on k one left before after whole at_k is stays so_far =
      sym (ap (λ r. behind r (λ left. if left then given true else row s (drop (k + 1) ss))) (is ∙ ap (λ b. Asks b after) stays)) ∙ row_opens k one before whole at_k so_far

  pub row_left : (k : ℕ) (one : Stmt) (left : Bool) (before after : Needs) (whole : Asked Bool) → slice_get ss k ≡ Some one → statement s one before ≡ Asks left after → left ≡ true → row s (drop k ss) before ≡ whole → whole ≡ Asks true after
  row_left k one left before after whole at_k is leaves so_far =
      sym (row_opens k one before whole at_k so_far) ∙ ap (λ r. behind r (λ left. if left then given true else row s (drop (k + 1) ss))) (is ∙ ap (λ b. Asks b after) leaves)

  pub row_end : (k : ℕ) (needs : Needs) (whole : Asked Bool) → length ss ≤ k → row s (drop k ss) needs ≡ whole → whole ≡ Asks false needs
  row_end k needs whole past so_far = sym so_far ∙ ap (λ l. row s l needs) (drop_all k ss past) ∙ row-ends s needs

module _ (s : List Prototype) (all : List Arm) where
  pub arms_on : (k : ℕ) (arm : Arm) (left : Bool) (before after : Needs) (whole : Asked (Unit {0})) → slice_get all k ≡ Some arm → row s (out-Arm arm).body before ≡ Asks left after → arms s (drop k all) before ≡ whole → arms s (drop (k + 1) all) after ≡ whole
  arms_on k arm left before after whole at_k is so_far =
      ap (λ r. behind r (λ left. arms s (drop (k + 1) all))) (sym is) ∙ sym (ap (λ l. arms s l before) (opened all k arm at_k) ∙ arms-opens s arm (drop (k + 1) all) before) ∙ so_far

  pub arms_end : (k : ℕ) (needs : Needs) (whole : Asked (Unit {0})) → length all ≤ k → arms s (drop k all) needs ≡ whole → whole ≡ Asks tt needs
  arms_end k needs whole past so_far = sym so_far ∙ ap (λ l. arms s l needs) (drop_all k all past) ∙ arms-ends s needs
