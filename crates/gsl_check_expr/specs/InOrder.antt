-- Several things that are checked in their order.
use Rattle.std.specs.Prelude.{List, [], ◌∷◌, Ok}
use Rattle.gsl_base.specs.Checked.{Checked, ◌>>=◌}

-- what each of a list gives, or the first fault among them
abbrev pub each : {A B : Type 0} → (A → Checked B) → List A → Checked (List B)
each f [] = Ok []
each f (x ∷ xs) = f x >>= (λ first. each f xs >>= (λ rest. Ok (first ∷ rest)))
