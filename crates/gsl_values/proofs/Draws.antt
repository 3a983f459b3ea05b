-- What is drawn from the choices behind a position in a list.
use Rattle.std.proofs.Common.{◌≡◌, ℕ, ◌<◌, ◌+◌, List, length, drop, get_or, refl, add-one}
use Rattle.std.proofs.Math.Seq.{drop-cons}
use Rattle.gsl_values.specs.Choices.{drawn, undrawn}

pub drawn-drop : (xs : List ℕ) (i : ℕ) → i < length xs → drawn (drop i xs) ≡ get_or xs i 0
drawn-drop xs i h = rw (drop-cons xs i 0) refl

pub undrawn-drop : (xs : List ℕ) (i : ℕ) → i < length xs → undrawn (drop i xs) ≡ drop (i + 1) xs
undrawn-drop xs i h = rw (drop-cons xs i 0, add-one) refl
