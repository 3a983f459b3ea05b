-- Which declaration stands for each global variable, as one pass over the units finds it.
use Rattle.std.specs.Prelude.{ℕ, ◌+◌, Bool, not, ◌&&◌, nat_eq, bytes_eq, is_some, true, List, [], ◌∷◌, ◌++◌, Option, Some, None, if◌then◌else◌}
use Rattle.std.specs.List.{position_or_len}
use Rattle.std.specs.Map.{lookup}
use Rattle.indexmap.specs.IndexMap.{insert_entry}
use Rattle.indexmap.specs.IndexSet.{insert_key}
use Rattle.gsl_tree.specs.declared.unit.GlobalVar.{GlobalVar}
use Rattle.gsl_link_units.specs.Declarations.{Side}
use Rattle.gsl_link_numbers.specs.declared.site.Site.{Site}
use Rattle.gsl_link_numbers.specs.declared.site.Spot.{Spot}

abbrev pub site_eq : Site → Site → Bool
site_eq a b = nat_eq a.unit b.unit && nat_eq a.index b.index

abbrev pub site_at : ℕ → ℕ → Site
site_at unit index = record { unit = unit; index = index }

abbrev pub spot_at : ℕ → ℕ → GlobalVar → Spot
spot_at unit index g = record { site = site_at unit index; begun = is_some g.init }

-- the names of variables, each with the declaration that stands for it as far as units were looked at
abbrev pub Spots : Type 0
Spots = List (List ℕ × Spot)

abbrev pub spot_of : Spots → List ℕ → Option Spot
spot_of spots name = lookup (bytes_eq name) spots

-- whether a declaration is to stand for its variable, where another one may do so
abbrev pub takes_over : Option Spot → Bool → Bool
takes_over None begun = true
takes_over (Some spot) begun = begun && not spot.begun

abbrev pub noted : Spots → ℕ → ℕ → GlobalVar → Spots
noted spots unit index g =
    if not g.constant && takes_over (spot_of spots g.name) (is_some g.init) then insert_entry bytes_eq spots g.name (spot_at unit index g) else spots

abbrev pub noted_from : Spots → ℕ → ℕ → List GlobalVar → Spots
noted_from spots unit index [] = spots
noted_from spots unit index (g ∷ globals) = noted_from (noted spots unit index g) unit (index + 1) globals

abbrev pub noted_all : Spots → ℕ → List Side → Spots
noted_all spots unit [] = spots
noted_all spots unit (side ∷ sides) = noted_all (noted_from spots unit 0 side.unit.globals) (unit + 1) sides

-- ---- when all were looked at

abbrev pub site_or : Site → Option Spot → Site
site_or site None = site
site_or site (Some spot) = spot.site

-- the declaration that stands for the variable of one
abbrev pub site_of : Spots → ℕ → ℕ → GlobalVar → Site
site_of spots unit index g = if g.constant then site_at unit index else site_or (site_at unit index) (spot_of spots g.name)

abbrev pub stands_there : Spots → ℕ → ℕ → GlobalVar → Bool
stands_there spots unit index g = site_eq (site_of spots unit index g) (site_at unit index)

-- the declarations of a unit that stand for variables
abbrev pub standing_from : Spots → ℕ → ℕ → List GlobalVar → List Site
standing_from spots unit index [] = []
standing_from spots unit index (g ∷ globals) =
    if stands_there spots unit index g then site_at unit index ∷ standing_from spots unit (index + 1) globals else standing_from spots unit (index + 1) globals

abbrev pub standing_all : Spots → ℕ → List Side → List Site
standing_all spots unit [] = []
standing_all spots unit (side ∷ sides) = standing_from spots unit 0 side.unit.globals ++ standing_all spots (unit + 1) sides

-- the numbers of a unit's variables behind others, where these declarations stand
abbrev pub places_behind : List ℕ → Spots → List Site → ℕ → ℕ → List GlobalVar → List ℕ
places_behind places spots sites unit index [] = places
places_behind places spots sites unit index (g ∷ globals) =
    places_behind (places ++ position_or_len (site_eq (site_of spots unit index g)) sites ∷ []) spots sites unit (index + 1) globals

-- the declarations with one, if it stands for its variable
abbrev pub with_standing : Spots → List Site → ℕ → ℕ → GlobalVar → List Site
with_standing spots sites unit index g = if stands_there spots unit index g then insert_key site_eq sites (site_at unit index) else sites
