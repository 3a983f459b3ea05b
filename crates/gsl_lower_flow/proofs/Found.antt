-- The functions that a search finds are those that are lowered.
use Rattle.std.proofs.Common.{◌≡◌, refl, sym, ap, ◌∙◌, ℕ, ◌≤◌, ◌^◌, Bool, true, false, ◌||◌, List, [], ◌∷◌, length}
use Rattle.std.specs.Prelude.{nat_eq}
use Rattle.std.specs.List.{list_any}
use Rattle.std.proofs.lemmas.Bool.{true≢false}
use Rattle.std.proofs.lemmas.List.{take_all}
use Rattle.gsl_words.specs.declared.target.Target.{Target}
use Rattle.gsl_tree.specs.declared.program.Program.{Program}
use Rattle.gsl_tree.specs.declared.unit.Function.{Function}
use Rattle.gsl_tree.specs.declared.unit.Prototype.{Prototype}
use Rattle.gsl_spv.specs.Sections.{Sections}
use Rattle.gsl_link_calls.specs.Calls.{Reaches, called_by, reaches}
use Rattle.gsl_link_calls.specs.Ranks.{IsIn}
use Rattle.gsl_link_calls.proofs.Reached.{reached}
use Rattle.gsl_link_calls.proofs.Searched.{Searched, is_in}
use Rattle.gsl_link_calls.proofs.Settled.{all_reached}
use Rattle.gsl_lower_holders.specs.Flow.{Emit, Flow, Lowered, Gives, Lacks, behind}
use Rattle.gsl_lower_expr.specs.Lowering.{Setting}
use Rattle.gsl_lower_needs.specs.declared.need.Need.{Need}
use Rattle.gsl_lower_needs.specs.Asking as asking
use Rattle.gsl_lower_needs.specs.Asking.{Ask, Asked, Asks}
use Rattle.gsl_lower_flow.specs.Functions.{asked_of}
use Rattle.gsl_lower_flow.specs.Programs.{asked_all, asked_by, asked_if, declared, from_there, functions_put, lowered, lowered_by, program_setting, put_by, put_if, told_main}
use Rattle.gsl_lower_flow.specs.Reaching.{is_among, is_lowered, is_reached, main_head}

-- ---- a search to its end

-- no head is this number
abbrev pub none : ℕ
none = 2 ^ 32

module _ (functions : List Function) (main : ℕ) (keys : List ℕ) (at : ℕ) (s : Searched functions main none keys at) (over : length keys ≤ at) where
  closed : (x : ℕ) → IsIn keys x → (y : ℕ) → IsIn (called_by functions x) y → IsIn keys y
  closed x e = (s.done x (ap (list_any (nat_eq x)) (take_all at keys over) ∙ e)).1

  all_in : (from head : ℕ) → ((y : ℕ) → IsIn (called_by functions from) y → IsIn keys y) → Reaches functions from head → IsIn keys head
  all_in from head first (Reaches.calls _ _ c) = first head (is_in (called_by functions from) head c)
  all_in from head first (Reaches.calls_on _ next _ c r) = all_in next head (closed next (first next (is_in (called_by functions from) next c))) r

  pub all_found : (head : ℕ) → list_any (nat_eq head) keys ≡ reaches functions main head
  all_found head = by_cases (list_any (nat_eq head) keys) refl (reaches functions main head) refl
    where
      by_cases : (a : Bool) → list_any (nat_eq head) keys ≡ a → (b : Bool) → reaches functions main head ≡ b → a ≡ b
      by_cases true e true f = refl
      by_cases false e false f = refl
      by_cases true e false f = absurd (true≢false (sym (all_reached functions head main (s.reached head e)) ∙ f))
      by_cases false e true f = absurd (true≢false (sym (all_in main head s.first (reached functions (length functions) main head f)) ∙ e))

-- ---- by what is found

asked_on : (r : Asked (Unit {0})) (f g : Ask (Unit {0})) → ((needs : List Need) → f needs ≡ g needs) → asking.behind r (λ done. f) ≡ asking.behind r (λ done. g)
asked_on (Asks done needs) f g is = is needs

lowered_on : {A : Type 0} (r : Lowered (Unit {0})) (f g : Emit A) → ((flow : Flow) → f flow ≡ g flow) → behind r (λ done. f) ≡ behind r (λ done. g)
lowered_on (Gives done flow) f g is = is flow
lowered_on Lacks f g is = refl

module _ (is js : Function → Bool) (same : (f : Function) → is f ≡ js f) where
  asked_same : (prototypes : List Prototype) (functions : List Function) (needs : List Need) → asked_all is prototypes functions needs ≡ asked_all js prototypes functions needs
  unfolding asked_all
  asked_same prototypes [] needs = refl
  asked_same prototypes (f ∷ functions) needs =
      ap (λ b. asking.behind (asked_if b prototypes f needs) (λ done. asked_all is prototypes functions)) (same f)
      ∙ asked_on (asked_if (js f) prototypes f needs) (asked_all is prototypes functions) (asked_all js prototypes functions) (asked_same prototypes functions)

  functions_same : (s : Setting) (prototypes : List Prototype) (functions : List Function) (flow : Flow) → functions_put is s prototypes functions flow ≡ functions_put js s prototypes functions flow
  unfolding functions_put
  functions_same s prototypes [] flow = refl
  functions_same s prototypes (f ∷ functions) flow =
      ap (λ b. behind (put_if b s prototypes f flow) (λ done. functions_put is s prototypes functions)) (same f)
      ∙ lowered_on (put_if (js f) s prototypes f flow) (functions_put is s prototypes functions) (functions_put js s prototypes functions) (functions_same s prototypes functions)

  all_same : (target : Target) (p : Program) (sections : Sections) → lowered_by is target p sections ≡ lowered_by js target p sections
  all_same target p sections =
      ap (λ r. behind (from_there (declared target p (asked_of r) sections)) (λ done. put_by is p)) (asked_same p.prototypes p.functions [])
      ∙ lowered_on (from_there (declared target p (asked_by js p) sections)) (put_by is p) (put_by js p)
      (λ flow. ap (λ r. behind r (λ done. told_main p)) (functions_same (program_setting p) p.prototypes p.functions flow))

among_is : (keys : List ℕ) (main : ℕ) (p : Program) → main ≡ main_head p → ((head : ℕ) → list_any (nat_eq head) keys ≡ reaches p.functions main head) → (f : Function) → is_among keys main f ≡ is_lowered p f
among_is keys main p is all f = ap (λ b. nat_eq main f.prototype || b) (all f.prototype) ∙ ap (λ m. is_reached p.functions m f.prototype) is

pub lowered_is : (keys : List ℕ) (main : ℕ) (target : Target) (p : Program) (sections : Sections) → main ≡ main_head p → ((head : ℕ) → list_any (nat_eq head) keys ≡ reaches p.functions main head)
    → lowered_by (is_among keys main) target p sections ≡ lowered target p sections
unfolding lowered
lowered_is keys main target p sections is all = all_same (is_among keys main) (is_lowered p) (among_is keys main p is all) target p sections
