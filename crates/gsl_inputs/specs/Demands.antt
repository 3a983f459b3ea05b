-- Demands on an input, one behind the other.
use Rattle.std.specs.Prelude.{ℕ, Bool, true, false, not, nat_lt, ◌&&◌, if◌then◌else◌, List, [], ◌∷◌, length, Option, Some, None, Result, Ok, Err, ⊤}
use Rattle.gsl_base.specs.declared.input.InputRefusal.{InputRefusal}

-- an input meets a demand, or this is its first refusal
abbrev pub Met : Type 0
Met = Result ⊤ InputRefusal

-- goes on where a demand is met
abbrev pub and_met : Met → Met → Met
and_met (Ok x) later = later
and_met (Err refusal) later = Err refusal

-- each of them in their order
abbrev pub all_met : {A : Type 0} → (A → Met) → List A → Met
all_met demand [] = Ok tt
all_met demand (a ∷ items) = and_met (demand a) (all_met demand items)

-- bytes are there before they are as many as are needed
abbrev pub bytes_met : InputRefusal → InputRefusal → ℕ → Option (List ℕ) → Met
bytes_met absent short need None = Err absent
bytes_met absent short need (Some bytes) = if nat_lt (length bytes) need then Err short else Ok tt

-- at least so many words are there
abbrev pub has_words : ℕ → Option (List ℕ) → Bool
has_words count None = false
has_words count (Some words) = not (nat_lt (length words) count)

-- whether each part is below its bound
abbrev pub all_below : List ℕ → List ℕ → Bool
all_below [] bounds = true
all_below (part ∷ parts) [] = false
all_below (part ∷ parts) (bound ∷ bounds) = nat_lt part bound && all_below parts bounds
