-- Where the indexes of an access chain lead, and what is there (SPIR-V 1.0, 3.32.8).
use Rattle.std.specs.Prelude.{◌≡◌, ℕ, List, [], ◌∷◌}
use Rattle.gsl_base.specs.declared.input.Input.{Input}
use Rattle.gsl_words.specs.declared.module.Module.{Module}
use Rattle.gsl_values.specs.declared.value.Value.{Value}
use Rattle.gsl_values.specs.declared.value.Value.TheVariants.{Word}
use Rattle.gsl_lower_law_constructors.specs.OfMachine.{into, loading}
use Rattle.gsl_lower_law_constructors.specs.OfMachine.{Ids, Outcome, Pointer, State, Strayed}
use Rattle.gsl_lower_places.specs.declared.reached.Part.{Part}
use Rattle.gsl_lower_places.specs.declared.reached.Part.TheVariants.{Fixed, By}
use Rattle.gsl_lower_law_constructors.specs.OfLaw.{Stands}

-- The number of a part is this word.
abbrev pub Numbers : Ids → Part → ℕ → Type 0
Numbers ids (Fixed number) word = number ≡ word
Numbers ids (By s id) word = Stands ids id (Word word)

-- The numbers of parts are these words, in their order.
abbrev pub NumberEach : Ids → List Part → List ℕ → Type 0
NumberEach ids [] [] = Unit {0}
NumberEach ids [] (word ∷ words) = ⊥
NumberEach ids (part ∷ parts) [] = ⊥
NumberEach ids (part ∷ parts) (word ∷ words) = Numbers ids part word × NumberEach ids parts words

-- what words lead to from a pointer, one after the other; one that is not below the count of parts there strays
abbrev pub through : Module → Input → ℕ → State → Pointer → List ℕ → (Pointer → Outcome) → Outcome
through m input place state from [] go = go from
through m input place state from (word ∷ words) go = into m input place state from word (λ to. through m input place state to words go)

-- All words are in bounds, and lead from a pointer to another.
abbrev pub LeadsTo : Module → Input → State → Pointer → List ℕ → Pointer → Type 0
LeadsTo m input state from words to = (place : ℕ) (go : Pointer → Outcome) → through m input place state from words go ≡ go to

-- A pointer leads to a value.
abbrev pub HoldsValue : Module → Input → State → Pointer → Value → Type 0
HoldsValue m input state to v = (go : Value → Outcome) → loading m input state to go ≡ go v

-- One of the words is not below the count of parts where it stands.
abbrev pub StraysFrom : Module → Input → State → Pointer → List ℕ → Type 0
StraysFrom m input state from words = (place : ℕ) (go : Pointer → Outcome) → through m input place state from words go ≡ Strayed place
