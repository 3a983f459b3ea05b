-- Which parts of a layout there are, and where they stand.
use Rattle.std.specs.Prelude.{◌≡◌, ℕ, ◌+◌, ◌-◌, ◌*◌, ◌/◌, ◌<◌, List, [], ◌∷◌, Some}
use Rattle.gsl_layout.specs.Layout.{Layout, Array, Runtime, Group, Parts, part_at, offset_at}
use Rattle.gsl_views.specs.Seen.{Tree, child}

-- In so many bytes, a path of numbers leads from a layout at a place to a part of it at its place.
pub data Leads (bytes : ℕ) : Layout → ℕ → List ℕ → Layout → ℕ → Type 0 where
  here : {l : Layout} {at : ℕ} → Leads bytes l at [] l at
  member : {members : Parts} {all at i o q : ℕ} {m l : Layout} {path : List ℕ} → part_at members i ≡ Some m → offset_at members i ≡ Some o
      → Leads bytes m (at + o) path l q → Leads bytes (Group members all) at (i ∷ path) l q
  element : {stride count at i q : ℕ} {e l : Layout} {path : List ℕ} → i < count
      → Leads bytes e (at + stride * i) path l q → Leads bytes (Array stride count e) at (i ∷ path) l q
  open_element : {stride at i q : ℕ} {e l : Layout} {path : List ℕ} → i < (bytes - at) / stride
      → Leads bytes e (at + stride * i) path l q → Leads bytes (Runtime stride e) at (i ∷ path) l q

-- the part of a tree to which a path leads
abbrev pub followed : Tree → List ℕ → Tree
followed tree [] = tree
followed tree (i ∷ path) = followed (child tree i) path
