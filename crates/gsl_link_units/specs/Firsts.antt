-- Items in a list of which some are alike: the first of each, those that come again, and the earliest place.
use Rattle.std.specs.Prelude.{Bool, ◌||◌, ◌&&◌, nat_eq, nat_lt, List, [], ◌∷◌, ◌++◌, Option, Some, None, if◌then◌else◌}
use Rattle.std.specs.List.{list_any}
use Rattle.gsl_base.specs.declared.fault.Place.{Place}

-- ---- items that are alike

-- the items that are like none before them, where these stand in front
abbrev pub firsts_behind : {A : Type 0} → (A → A → Bool) → List A → List A → List A
firsts_behind alike before [] = []
firsts_behind alike before (item ∷ items) =
    if list_any (alike item) before then firsts_behind alike (before ++ item ∷ []) items else item ∷ firsts_behind alike (before ++ item ∷ []) items

-- the first of each, in their order
abbrev pub firsts : {A : Type 0} → (A → A → Bool) → List A → List A
firsts alike items = firsts_behind alike [] items

-- the items that are like one before them, where these stand in front
abbrev pub again_behind : {A : Type 0} → (A → A → Bool) → List A → List A → List A
again_behind alike before [] = []
again_behind alike before (item ∷ items) =
    if list_any (alike item) before then item ∷ again_behind alike (before ++ item ∷ []) items else again_behind alike (before ++ item ∷ []) items

-- the items that are like an earlier one
abbrev pub again : {A : Type 0} → (A → A → Bool) → List A → List A
again alike items = again_behind alike [] items

-- ---- places

-- by units, and within a unit by lines
abbrev pub is_earlier : Place → Place → Bool
is_earlier a b = nat_lt a.unit b.unit || (nat_eq a.unit b.unit && nat_lt a.line b.line)

abbrev pub earlier_of : Place → Option Place → Place
earlier_of place None = place
earlier_of place (Some other) = if is_earlier other place then other else place

-- The earliest of places. Lines do not fall in a source, so it is that of the first declaration, whatever its kind.
abbrev pub earliest : List Place → Option Place
earliest [] = None
earliest (place ∷ places) = Some (earlier_of place (earliest places))

-- the first of places that stand in their order
abbrev pub first_place : List Place → Option Place
first_place [] = None
first_place (place ∷ places) = Some place
