-- What the instructions do before the body of a function.
use Rattle.std.proofs.Common.{◌≡◌, refl, sym, ap, ◌∙◌, ℕ, zero, suc, ◌+◌, false, List, [], ◌∷◌, ◌++◌, length, map, Some}
use Rattle.std.specs.List.{AllByRecursion}
use Rattle.std.specs.Prelude.{◌==◌, set, slice_get}
use Rattle.std.proofs.lemmas.Bool.{cond-false}
use Rattle.gsl_base.specs.declared.input.Input.{Input}
use Rattle.gsl_instr.specs.Forms.{form_of}
use Rattle.gsl_instr.specs.declared.op.TheConstants as op
use Rattle.gsl_words.specs.Instructions.{word_count}
use Rattle.gsl_words.specs.declared.module.Instr.{Instr}
use Rattle.gsl_words.specs.declared.module.Module.{Module}
use Rattle.gsl_valid.specs.Placed.{Code, Placed, placed_from, words_from}
use Rattle.gsl_machine.specs.Constants.{constant}
use Rattle.gsl_machine.specs.Functions.{from_first_label}
use Rattle.gsl_machine.specs.Machine.{behind as going_on, run, step}
use Rattle.gsl_machine.specs.Memory.{storing, with_variable}
use Rattle.gsl_machine.specs.State.{Going, InVariable, Points, State, on, on_pointer}
use Rattle.gsl_spv.specs.Declarations.{instr}
use Rattle.gsl_lower_law.specs.Stretches.{Leads}
use Rattle.gsl_lower_law_entered.specs.Modules.{Declared, declares}

set_same : {A : Type 0} (l : List A) (k : ℕ) (a : A) → slice_get l k ≡ Some a → set l k a ≡ l
set_same [] k a is = refl
set_same (x ∷ l) zero a is = let same : x ≡ a = cc in ap (λ y. y ∷ l) (sym same)
set_same (x ∷ l) (suc k) a is = ap (λ l. x ∷ l) (set_same l k a is)

pub words_on : (first : ℕ) (a b : Code) → words_from first (a ++ b) ≡ words_from (words_from first a) b
words_on first [] b = refl
words_on first (i ∷ a) b = words_on (first + word_count i) a b

pub first_label : (first : ℕ) (params code : Code) (label : ℕ) → AllByRecursion (λ (i : Instr). (i.op == op.LABEL) ≡ false) params
    → from_first_label (placed_from first (params ++ instr op.LABEL (label ∷ []) ∷ code)) ≡ placed_from (words_from first params) (instr op.LABEL (label ∷ []) ∷ code)
first_label first [] code label ahead = refl
first_label first (i ∷ params) code label ahead = cond-false (i.op == op.LABEL) _ _ ahead.0 ∙ first_label (first + word_count i) params code label ahead.1

module _ (m : Module) (input : Input) where
  -- A variable has the value of its initialiser already.
  pub record IsThere (state : State) (v : Declared) : Type 0 where
    pub number : ℕ
    pub points : state.ids v.id ≡ Some (Points (InVariable number []))
    pub value : slice_get state.variables number ≡ Some (constant m v.zero)

  declared_once : (state : State) (v : Declared) (at : ℕ) (rest : List Placed) → IsThere state v → step m input (record state { rest = record { at = at; instr = declares v } ∷ rest }) ≡ Going (record state { rest = rest })
  unfolding form_of
  declared_once state v at rest is =
      ap (λ o. on_pointer o (λ to. storing m input (record state { rest = rest }) to (constant m v.zero) Going)) is.points
      ∙ ap (λ o. on o (λ old. Going (with_variable (record state { rest = rest }) is.number (constant m v.zero)))) is.value
      ∙ ap (λ l. Going (record state { rest = rest; variables = l })) (set_same state.variables is.number (constant m v.zero) is.value)

  declared_leads : (state : State) (vs : List Declared) → ((k : ℕ) (v : Declared) → slice_get vs k ≡ Some v → IsThere state v) → Leads m input (map declares vs) state state
  declared_leads state [] each at rest = refl
  declared_leads state (v ∷ vs) each at rest =
      ap (λ o. going_on o (run m input (length (map declares vs)))) (declared_once state v at (placed_from (at + word_count (declares v)) (map declares vs) ++ rest) (each 0 v refl))
      ∙ declared_leads state vs (λ k. each (suc k)) (at + word_count (declares v)) rest

  -- behind the label of the first block and the function's variables the state is the same
  pub opening_leads : (state : State) (label : ℕ) (vs : List Declared) → state.ids ≡ state.own → ((k : ℕ) (v : Declared) → slice_get vs k ≡ Some v → IsThere state v) → Leads m input (instr op.LABEL (label ∷ []) ∷ map declares vs) state state
  unfolding form_of
  opening_leads state label vs same each at rest =
      ap (λ ids. run m input (length (map declares vs)) (record state { rest = placed_from (at + word_count (instr op.LABEL (label ∷ []))) (map declares vs) ++ rest; ids = ids })) (sym same)
      ∙ declared_leads state vs each (at + word_count (instr op.LABEL (label ∷ []))) rest
