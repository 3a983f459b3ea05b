-- Where ids are defined once, what an instruction of the code defines is found by its id.
use Rattle.std.proofs.Common.{◌≡◌, ℕ, true, false, not, [], ◌∷◌, ◌++◌, Some, refl, ap, sym, ◌∙◌, ◌⊎◌, inl, inr}
use Rattle.std.proofs.lemmas.Bool.{cond-true, cond-false, and_parts, or_parts, or_left, or_right, not-true, eq-eqb}
use Rattle.gsl_words.specs.declared.module.Instr.{Instr}
use Rattle.gsl_valid.specs.Instruction.{read}
use Rattle.gsl_valid.specs.Placed.{Code}
use Rattle.gsl_valid.specs.Search.{passed, Passes}
use Rattle.gsl_valid.specs.Ids.{result, is_id, defines, defined, definition}
use Rattle.gsl_valid.specs.IdsDefinedOnce.{defines_once, is_new}

-- The code has the instruction.
abbrev pub Has : Code → Instr → Type 0
Has [] i = ⊥
Has (j ∷ code) i = (j ≡ i) ⊎ Has code i

pub has_left : (a b : Code) (i : Instr) → Has a i → Has (a ++ b) i
has_left [] b i none = absurd none
has_left (j ∷ a) b i (inl same) = inl same
has_left (j ∷ a) b i (inr later) = inr (has_left a b i later)

pub has_right : (a b : Code) (i : Instr) → Has b i → Has (a ++ b) i
has_right [] b i has = has
has_right (j ∷ a) b i has = inr (has_right a b i has)

defines_own : (i : Instr) (id : ℕ) → result (read i) ≡ Some id → defines i id ≡ true
defines_own i id e = ap (is_id id) e ∙ eq-eqb id id refl

module _ (bound : ℕ) where
  -- an id is not defined before the instruction that defines it
  pub new_before : (before code : Code) (i : Instr) (id : ℕ) → Passes (defines_once bound) before code → Has code i → result (read i) ≡ Some id → defined before id ≡ false
  new_before before [] i id all none e = absurd none
  new_before before (j ∷ code) i id all (inl same) e =
      let new : is_new bound before (Some id) ≡ true = ap (is_new bound before) (sym (ap (λ k. result (read k)) same ∙ e)) ∙ all.0 in
      not-true _ (and_parts _ (not (defined before id)) new).1
  new_before before (j ∷ code) i id all (inr later) e = (or_parts (defines j id) (defined before id) (new_before (j ∷ before) code i id all.1 later e)).1

  pub definition_is : (before code : Code) (i : Instr) (id : ℕ) → Passes (defines_once bound) before code → Has code i → result (read i) ≡ Some id → definition code id ≡ read i
  definition_is before [] i id all none e = absurd none
  definition_is before (j ∷ code) i id all (inl same) e =
      cond-true _ _ _ (ap (λ k. defines k id) same ∙ defines_own i id e) ∙ ap read same
  definition_is before (j ∷ code) i id all (inr later) e =
      cond-false _ _ _ (or_parts (defines j id) (defined before id) (new_before (j ∷ before) code i id all.1 later e)).0
      ∙ definition_is (j ∷ before) code i id all.1 later e

-- What an instruction defines is defined by code that has it, and behind that code.
pub has_defined : (code : Code) (i : Instr) (id : ℕ) → Has code i → result (read i) ≡ Some id → defined code id ≡ true
has_defined [] i id none e = absurd none
has_defined (j ∷ code) i id (inl same) e = or_left _ _ (ap (λ k. defines k id) same ∙ defines_own i id e)
has_defined (j ∷ code) i id (inr later) e = or_right (defines j id) _ (has_defined code i id later e)

pub defined_behind : (before code : Code) (id : ℕ) → defined before id ≡ true → defined (passed before code) id ≡ true
defined_behind before [] id here = here
defined_behind before (i ∷ code) id here = defined_behind (i ∷ before) code id (or_right (defines i id) _ here)

pub has_behind : (before code : Code) (i : Instr) (id : ℕ) → Has code i → result (read i) ≡ Some id → defined (passed before code) id ≡ true
has_behind before [] i id none e = absurd none
has_behind before (j ∷ code) i id (inl same) e =
    defined_behind (j ∷ before) code id (or_left _ _ (ap (λ k. defines k id) same ∙ defines_own i id e))
has_behind before (j ∷ code) i id (inr later) e = has_behind (j ∷ before) code i id later e
