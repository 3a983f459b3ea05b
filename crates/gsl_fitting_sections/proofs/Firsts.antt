-- Types are made as they may be, and no plain one twice (V4).
use Rattle.std.proofs.Common.{◌≡◌, ℕ, Bool, true, false, not, ◌||◌, List, [], ◌∷◌, ◌++◌, Option, Some, None, refl, sym, ap, ◌∙◌, ◌⊎◌, inl, inr}
use Rattle.std.specs.Prelude.{◌==◌}
use Rattle.std.specs.List.{AllByRecursion, list_any}
use Rattle.std.specs.Option.{option_map}
use Rattle.std.proofs.lemmas.Bool.{and_parts, eqb-true, true≢false}
use Rattle.gsl_words.specs.declared.module.Instr.{Instr}
use Rattle.gsl_words.specs.declared.module.Module.{Module}
use Rattle.gsl_instr.specs.declared.form.Form.{Form}
use Rattle.gsl_instr.specs.declared.form.Form.TheVariants as form
use Rattle.gsl_instr.specs.Forms.{form_of}
use Rattle.gsl_instr.specs.Instructions.{read_as}
use Rattle.gsl_valid.specs.Instruction.{read}
use Rattle.gsl_valid.specs.Kinds as kinds
use Rattle.gsl_valid.specs.Kinds.{Kind, kind, kind_of, shape_in, shape_of}
use Rattle.gsl_valid.specs.Placed.{Code}
use Rattle.gsl_valid.specs.TypeRules.{is_first, is_made, same_type, type_made}
use Rattle.gsl_fitting_sections.proofs.Outside.{Lies, precedes}
use Rattle.gsl_fitting_sections.proofs.Outside.Lies.{headed, named, marked, declared}
use Rattle.gsl_fitting_sections.proofs.Plain.{heads_precedes}

pub precedes_shape : (k : Kind) → precedes k ≡ true → shape_in k ≡ kinds.NoType
precedes_shape (kinds.Declares shape) h = absurd (true≢false (sym h))
precedes_shape _ h = refl

-- a form's instructions are all of one section
form_shape : (f : Form) (code other : ℕ) (args more : List ℕ) → precedes (kind_of (read_as f code args)) ≡ true → shape_in (kind_of (read_as f other more)) ≡ kinds.NoType
form_shape form.Name code other args more h = refl
form_shape _ code other args more h = cc

same_form : (i j : Instr) → (i.op == j.op) ≡ true → precedes (kind (read j)) ≡ true → shape_of (read i) ≡ kinds.NoType
same_form i j same h = by_form (form_of i.op) (ap (λ n. precedes (kind (option_map (λ f. read_as f j.op j.args) (form_of n)))) (eqb-true i.op j.op same) ∙ h)
  where
    by_form : (o : Option Form) → precedes (kind (option_map (λ f. read_as f j.op j.args) o)) ≡ true → shape_of (option_map (λ f. read_as f i.op i.args) o) ≡ kinds.NoType
    by_form None h = refl
    by_form (Some f) h = form_shape f j.op i.op j.args i.args h

-- a type is declared for the first time, or this is no type
base_first : (i : Instr) (base : Code) → AllByRecursion (λ j. precedes (kind (read j)) ≡ true) base → (list_any (same_type i) base ≡ false) ⊎ (shape_of (read i) ≡ kinds.NoType)
base_first i [] all = inl refl
base_first i (j ∷ base) all = by_case (same_type i j) refl (base_first i base all.1)
  where
    by_case : (b : Bool) → same_type i j ≡ b → (list_any (same_type i) base ≡ false) ⊎ (shape_of (read i) ≡ kinds.NoType) → ((b || list_any (same_type i) base) ≡ false) ⊎ (shape_of (read i) ≡ kinds.NoType)
    by_case true e more = inr (same_form i j (and_parts (i.op == j.op) _ e).0 all.0)
    by_case false e more = more

pub any_append : (p : Instr → Bool) (a b : Code) → list_any p b ≡ false → list_any p (a ++ b) ≡ list_any p a
any_append p [] b none = none
any_append p (i ∷ a) b none = ap (λ c. p i || c) (any_append p a b none)

module _ (m : Module) where
  no_type : (before : Code) (i : Instr) → shape_of (read i) ≡ kinds.NoType → type_made m before i ≡ true
  no_type before i none = ap (is_made m (is_first before i)) none

  pub types_pass : (before : Code) (i : Instr) → Lies m before i → type_made m before i ≡ true
  types_pass before i (headed p) = no_type before i (precedes_shape (kind (read i)) (heads_precedes (kind (read i)) p.is))
  types_pass before i (named p) = no_type before i (ap shape_in p.name.is)
  types_pass before i (marked p) = no_type before i (ap shape_in p.mark.is)
  types_pass before i (declared p) = elim (base_first i p.base p.none) [
    | inl first ↦ ap (λ c. is_made m (not (list_any (same_type i) c)) (shape_of (read i))) p.is
        ∙ ap (λ b. is_made m (not b) (shape_of (read i))) (any_append (same_type i) p.earlier p.base first)
        ∙ p.declaration.made
    | inr none ↦ no_type before i none
  ]
