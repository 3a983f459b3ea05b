-- Variables of the shapes of their types, and where their parts stand by the types alone.
use Rattle.std.specs.Prelude.{◌≡◌, ℕ, ◌+◌, true, List, [], ◌∷◌, slice_get, take}
use Rattle.std.specs.List.{sum_by}
use Rattle.gsl_words.specs.declared.module.Module.{Module}
use Rattle.gsl_values.specs.declared.value.Value.{Value}
use Rattle.gsl_leaves.specs.Leaves.{leaves, offset}
use Rattle.gsl_sound_values.specs.Shaped.{is_shaped}

-- Each of the variables has the shape of its type.
abbrev pub HaveTypes : Module → List ℕ → List Value → Type 0
HaveTypes m [] [] = Unit {0}
HaveTypes m [] (v ∷ variables) = ⊥
HaveTypes m (type ∷ types) [] = ⊥
HaveTypes m (type ∷ types) (v ∷ variables) = (is_shaped m type v ≡ true) × HaveTypes m types variables

-- how many words of all variables stand in front of the part of one of them, where the variables have these types
abbrev pub place_by : Module → List ℕ → ℕ → List ℕ → ℕ
place_by m types number path = sum_by (leaves m) (take number types) + offset m (slice_get types number) path
