-- Paths in variables, and parts of blocks that are not there.
use Rattle.std.proofs.Common.{◌≡◌, sym, ap, ◌∙◌, subst, ℕ, ◌<◌, ◌≤◌, inl, inr, List, [], ◌∷◌, ◌++◌, length, Some, append_assoc, append-nil}
use Rattle.std.specs.Prelude.{nat_lt, slice_get}
use Rattle.std.proofs.lemmas.Bool.{cond-true, cond-false, lt-ltb, le-ltb}
use Rattle.gsl_base.specs.declared.input.Input.{Input}
use Rattle.gsl_words.specs.declared.module.Module.{Module}
use Rattle.gsl_values.specs.declared.value.Value.{Value}
use Rattle.gsl_tree.specs.Operations.{value_at}
use Rattle.gsl_tree.specs.Values.{parts_in}
use Rattle.gsl_machine.specs.Memory.{bytes_of, into_block, into_variable, part_as, parts_as}
use Rattle.gsl_machine.specs.State.{InBlock, InVariable, Outcome, Pointer, State, Strayed, on}
use Rattle.gsl_valid.specs.Kinds.{shape_of}
use Rattle.gsl_valid.specs.Types.{defined_as}
use Rattle.gsl_lower_law_places.specs.Leading.{LeadsTo, StraysFrom, through}
use Rattle.gsl_lower_law_places.proofs.Reading.{through_on}
use Rattle.gsl_lower_law_places.proofs.Variables.{value_on}
use Rattle.gsl_lower_law_picks.specs.Outside.{HasPart, LacksPart}

module _ (m : Module) (input : Input) (state : State) where
  module _ (number : ℕ) (old : Value) (there : slice_get state.variables number ≡ Some old) where
    -- a part that is there
    on_in : (place : ℕ) (path : List ℕ) (word : ℕ) (words : List ℕ) (go : Pointer → Outcome) → word < length (parts_in (value_at old path))
        → through m input place state (InVariable number path) (word ∷ words) go ≡ through m input place state (InVariable number (path ++ word ∷ [])) words go
    on_in place path word words go less =
        ap (λ o. on o (into_variable m input place number path word (λ to. through m input place state to words go))) there
        ∙ cond-true (nat_lt word (length (parts_in (value_at old path)))) (through m input place state (InVariable number (path ++ word ∷ [])) words go) (Strayed place) (lt-ltb word (length (parts_in (value_at old path))) less)

    pub words_lead : (path words : List ℕ) → HasPart (value_at old path) words → LeadsTo m input state (InVariable number path) words (InVariable number (path ++ words))
    words_lead path [] has place go = ap (λ l. go (InVariable number l)) (sym (append-nil path))
    words_lead path (word ∷ words) has place go =
        on_in place path word words go has.0
        ∙ words_lead (path ++ word ∷ []) words (subst (λ v. HasPart v words) (sym (value_on old path (word ∷ []))) has.1) place go
        ∙ ap (λ l. go (InVariable number l)) (append_assoc path (word ∷ []) words)

    pub words_stray : (path words : List ℕ) → LacksPart (value_at old path) words → StraysFrom m input state (InVariable number path) words
    words_stray path [] lacks place go = absurd lacks
    words_stray path (word ∷ words) (inl most) place go =
        ap (λ o. on o (into_variable m input place number path word (λ to. through m input place state to words go))) there
        ∙ cond-false (nat_lt word (length (parts_in (value_at old path)))) (through m input place state (InVariable number (path ++ word ∷ [])) words go) (Strayed place) (le-ltb word (length (parts_in (value_at old path))) most)
    words_stray path (word ∷ words) (inr lacks) place go =
        on_in place path word words go lacks.0
        ∙ words_stray (path ++ word ∷ []) words (subst (λ v. LacksPart v words) (sym (value_on old path (word ∷ []))) lacks.1) place go

  -- an index of a block that is not below the count of parts there
  pub block_strays : (variable offset pointee word : ℕ) (bytes : List ℕ) → bytes_of m input state variable ≡ Some bytes → parts_as m (length bytes) offset pointee (shape_of (defined_as m pointee)) ≤ word → StraysFrom m input state (InBlock variable offset pointee) (word ∷ [])
  block_strays variable offset pointee word bytes there most place go =
      ap (λ o. on o (into_block m input place variable offset pointee word go)) there
      ∙ cond-false (nat_lt word (parts_as m (length bytes) offset pointee (shape_of (defined_as m pointee)))) (on (part_as m variable offset pointee word (shape_of (defined_as m pointee))) go) (Strayed place)
      (le-ltb word (parts_as m (length bytes) offset pointee (shape_of (defined_as m pointee))) most)

  -- ---- paths that stray

  pub stray_on : (from : Pointer) (words ws : List ℕ) → StraysFrom m input state from words → StraysFrom m input state from (words ++ ws)
  stray_on from words ws out place go = through_on m input state place from words ws go ∙ out place (λ to. through m input place state to ws go)

  pub stray_behind : (from to : Pointer) (words ws : List ℕ) → LeadsTo m input state from words to → StraysFrom m input state to ws → StraysFrom m input state from (words ++ ws)
  stray_behind from to words ws leads out place go = through_on m input state place from words ws go ∙ leads place (λ to. through m input place state to ws go) ∙ out place go
