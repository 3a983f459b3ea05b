-- The only candidate that may be the best, as the code finds it in one pass.
use Rattle.std.specs.Prelude.{◌≡◌, ℕ, ◌<◌, List, Option, Some, None}
use Rattle.gsl_types.specs.declared.ty.Ty.{Ty}
use Rattle.gsl_overload.specs.Best.{Signature, FitsAt, IsBest}

-- Among so many candidates from the front none other than the favourite may be the best; where there is no favourite, none of
-- them fits.
abbrev pub FavouriteBelow : List Signature → List Ty → ℕ → Option ℕ → Type 0
FavouriteBelow candidates args count None = (place : ℕ) → place < count → FitsAt candidates args place → ⊥
FavouriteBelow candidates args count (Some found) = FitsAt candidates args found × ((place : ℕ) → place < count → IsBest candidates args place → place ≡ found)
