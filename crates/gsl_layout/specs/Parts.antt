-- Members of a group from their offsets and layouts.
use Rattle.std.specs.Prelude.{ℕ, List, ◌∷◌}
use Rattle.gsl_layout.specs.Layout.{Layout, Parts, End, Part}

-- members with their offsets
abbrev pub parts_of : List ℕ → List Layout → Parts
parts_of (offset ∷ offsets) (layout ∷ layouts) = Part offset layout (parts_of offsets layouts)
parts_of _ _ = End
