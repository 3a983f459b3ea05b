-- Needs and functions, one behind the other.
use Rattle.std.proofs.Common.{◌≡◌, sym, ap, ◌∙◌, ℕ, ◌+◌, ◌≤◌, Bool, true, false, ◌||◌, List, ◌++◌, length, drop, slice_get, Some, append_assoc, append-nil}
use Rattle.std.specs.Prelude.{if◌then◌else◌}
use Rattle.std.proofs.lemmas.Bool.{eq-eqb, ne_eqb}
use Rattle.std.proofs.lemmas.List.{drop_all}
use Rattle.gsl_compute.proofs.Loops.{opened}
use Rattle.gsl_types.specs.declared.ty.Ty.{Ty}
use Rattle.gsl_tree.specs.Weights.{calls_of}
use Rattle.gsl_tree.specs.declared.expr.StageVar.{StageVar}
use Rattle.gsl_tree.specs.declared.unit.Function.{Function}
use Rattle.gsl_tree.specs.declared.unit.Prototype.{Prototype}
use Rattle.gsl_spv.specs.declared.refusal.BuildRefusal.{BuildRefusal}
use Rattle.gsl_spv.specs.declared.refusal.BuildRefusal.TheVariants.{TooManyIds, Memory}
use Rattle.gsl_link_calls.specs.Calls.{called_by}
use Rattle.gsl_lower_holders.specs.Flow.{Flow, Lowered, Gives, behind, Refuses}
use Rattle.gsl_lower_expr.specs.Lowering.{Setting}
use Rattle.gsl_lower_needs.specs.declared.need.Need.{Need}
use Rattle.gsl_lower_needs.specs.Asking as asking
use Rattle.gsl_lower_needs.specs.Asking.{Asked, Asks}
use Rattle.gsl_lower_flow.specs.Functions.{holder_type, holder_types}
use Rattle.gsl_lower_flow.specs.Programs.{asked_all, asked_if, functions_put, is_var, put_if, uses}

pub types_on : (asked : List Need) (k : ℕ) (one : Need) (old new whole : List Ty) → slice_get asked k ≡ Some one → new ≡ old ++ holder_type one → old ++ holder_types (drop k asked) ≡ whole → new ++ holder_types (drop (k + 1) asked) ≡ whole
types_on asked k one old new whole at_k is so_far =
    ap (λ l. l ++ holder_types (drop (k + 1) asked)) is ∙ append_assoc old (holder_type one) (holder_types (drop (k + 1) asked)) ∙ sym (ap (λ l. old ++ holder_types l) (opened asked k one at_k)) ∙ so_far

pub types_end : (asked : List Need) (k : ℕ) (front whole : List Ty) → length asked ≤ k → front ++ holder_types (drop k asked) ≡ whole → front ≡ whole
types_end asked k front whole past so_far = sym (ap (λ l. front ++ holder_types l) (drop_all k asked past) ∙ append-nil front) ∙ so_far

-- ---- whether a built-in variable is used

pub used_at : (asked : List Need) (var : StageVar) (k : ℕ) (one : Need) (whole r : Bool) → slice_get asked k ≡ Some one → r ≡ is_var var one → r ≡ true → uses (drop k asked) var ≡ whole → true ≡ whole
used_at asked var k one whole r at_k is found so_far =
    sym (ap (λ b. b || uses (drop (k + 1) asked) var) (sym is ∙ found)) ∙ sym (ap (λ l. uses l var) (opened asked k one at_k)) ∙ so_far

pub used_on : (asked : List Need) (var : StageVar) (k : ℕ) (one : Need) (whole r : Bool) → slice_get asked k ≡ Some one → r ≡ is_var var one → r ≡ false → uses (drop k asked) var ≡ whole
    → uses (drop (k + 1) asked) var ≡ whole
used_on asked var k one whole r at_k is other so_far =
    sym (ap (λ b. b || uses (drop (k + 1) asked) var) (sym is ∙ other)) ∙ sym (ap (λ l. uses l var) (opened asked k one at_k)) ∙ so_far

-- ---- the function of a head

pub called_at : (functions : List Function) (head k : ℕ) (f : Function) (whole : List ℕ) → slice_get functions k ≡ Some f → f.prototype ≡ head → called_by (drop k functions) head ≡ whole → calls_of f ≡ whole
called_at functions head k f whole at_k same so_far =
    sym (ap (λ b. if b then calls_of f else called_by (drop (k + 1) functions) head) (eq-eqb f.prototype head same)) ∙ sym (ap (λ l. called_by l head) (opened functions k f at_k)) ∙ so_far

pub called_on : (functions : List Function) (head k : ℕ) (f : Function) (whole : List ℕ) → slice_get functions k ≡ Some f → (f.prototype ≡ head → ⊥) → called_by (drop k functions) head ≡ whole
    → called_by (drop (k + 1) functions) head ≡ whole
called_on functions head k f whole at_k other so_far =
    sym (ap (λ b. if b then calls_of f else called_by (drop (k + 1) functions) head) (ne_eqb f.prototype head other)) ∙ sym (ap (λ l. called_by l head) (opened functions k f at_k)) ∙ so_far

-- ---- some functions, one behind the other

module _ (is : Function → Bool) (prototypes : List Prototype) (functions : List Function) where
  pub asked_on : (k : ℕ) (f : Function) (done : Unit {0}) (before after : List Need) (whole : Asked (Unit {0})) → slice_get functions k ≡ Some f → (b : Bool) → b ≡ is f → asked_if b prototypes f before ≡ Asks done after
      → asked_all is prototypes (drop k functions) before ≡ whole → asked_all is prototypes (drop (k + 1) functions) after ≡ whole
  unfolding asked_all
  asked_on k f done before after whole at_k b same is_so so_far =
      ap (λ r. asking.behind r (λ d. asked_all is prototypes (drop (k + 1) functions))) (sym is_so ∙ ap (λ x. asked_if x prototypes f before) same) ∙ sym (ap (λ l. asked_all is prototypes l before) (opened functions k f at_k)) ∙ so_far

  pub asked_end : (k : ℕ) (needs : List Need) (whole : Asked (Unit {0})) → length functions ≤ k → asked_all is prototypes (drop k functions) needs ≡ whole → whole ≡ Asks tt needs
  unfolding asked_all
  asked_end k needs whole past so_far = sym so_far ∙ ap (λ l. asked_all is prototypes l needs) (drop_all k functions past)

  module _ (s : Setting) where
    put_opens : (k : ℕ) (f : Function) (flow : Flow) (whole : Lowered (Unit {0})) → slice_get functions k ≡ Some f → functions_put is s prototypes (drop k functions) flow ≡ whole
        → behind (put_if (is f) s prototypes f flow) (λ d. functions_put is s prototypes (drop (k + 1) functions)) ≡ whole
    unfolding functions_put
    put_opens k f flow whole at_k so_far = sym (ap (λ l. functions_put is s prototypes l flow) (opened functions k f at_k)) ∙ so_far

    pub put_on : (k : ℕ) (f : Function) (done : Unit {0}) (before after : Flow) (whole : Lowered (Unit {0})) → slice_get functions k ≡ Some f → (b : Bool) → b ≡ is f → put_if b s prototypes f before ≡ Gives done after
        → functions_put is s prototypes (drop k functions) before ≡ whole → functions_put is s prototypes (drop (k + 1) functions) after ≡ whole
    put_on k f done before after whole at_k b same is_so so_far =
        ap (λ r. behind r (λ d. functions_put is s prototypes (drop (k + 1) functions))) (sym is_so ∙ ap (λ x. put_if x s prototypes f before) same) ∙ put_opens k f before whole at_k so_far

    pub put_stops : (k : ℕ) (f : Function) (why : BuildRefusal) (before : Flow) (whole : Lowered (Unit {0})) → slice_get functions k ≡ Some f → (b : Bool) → b ≡ is f → Refuses why (put_if b s prototypes f before)
        → functions_put is s prototypes (drop k functions) before ≡ whole → Refuses why whole
    put_stops k f TooManyIds before whole at_k b same is_so so_far =
        sym (put_opens k f before whole at_k so_far) ∙ ap (λ r. behind r (λ d. functions_put is s prototypes (drop (k + 1) functions))) (sym (ap (λ x. put_if x s prototypes f before) same) ∙ is_so)
    put_stops k f Memory before whole at_k b same is_so so_far = tt

    pub put_end : (k : ℕ) (flow : Flow) (whole : Lowered (Unit {0})) → length functions ≤ k → functions_put is s prototypes (drop k functions) flow ≡ whole → whole ≡ Gives tt flow
    unfolding functions_put
    put_end k flow whole past so_far = sym so_far ∙ ap (λ l. functions_put is s prototypes l flow) (drop_all k functions past)
