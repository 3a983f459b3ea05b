-- What is held while something else is read or made.
use Rattle.std.specs.Prelude.{◌≡◌, Result, Ok, Err}

-- what came, with what was held meanwhile
abbrev pub Held : {A B E : Type 0} → Result A E → B → Result (A × B) E → Type 0
Held came held (Ok p) = (came ≡ Ok p.0) × (held ≡ p.1)
Held came held (Err e) = came ≡ Err e
