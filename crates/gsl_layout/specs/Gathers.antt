-- What the steps of laying out a block give.
use Rattle.std.specs.Prelude.{◌≡◌, ℕ, ◌≤◌, ◌<◌, IsTrue, List, [], ◌∷◌, ◌++◌, length, max, Option, Some, None, Result, Ok, Err, ⊤}
use Rattle.gsl_layout.specs.Layout.{Layout, IsLayout, Group, closed, size}
use Rattle.gsl_layout.specs.Parts.{parts_of}
use Rattle.gsl_layout.specs.Rules.{least_multiple}
use Rattle.gsl_layout.specs.Placings.{Placed, end_of, largest_actual, largest_base, last_first, parts_behind}
use Rattle.gsl_layout.specs.Extents.{extent, most_bytes}
use Rattle.gsl_layout.specs.declared.measured.Measured.{Measured}
use Rattle.gsl_layout.specs.declared.gathered.Gathered.{Gathered}
use Rattle.gsl_layout.specs.declared.refusal.LayRefusal.{LayRefusal}
use Rattle.gsl_layout.specs.declared.refusal.LayRefusal.TheVariants.{TooLarge, Memory}
use Rattle.gsl_layout.specs.declared.refusal.PlaceRefusal.{PlaceRefusal}
use Rattle.gsl_layout.specs.declared.refusal.PlaceRefusal.TheVariants as place

-- A measure that fits has a layout of its size.
pub record IsMeasured (m : Measured) : Type 0 where
  pub layout : IsLayout m.laid
  pub size : size m.laid ≡ m.size
  pub extent : extent m ≤ most_bytes

-- Unless memory was wanting, the answer is the measure where that is not too large.
abbrev pub Measures : Result Measured LayRefusal → Measured → Type 0
Measures (Ok got) m = (got ≡ m) × IsMeasured m
Measures (Err TooLarge) m = most_bytes < extent m
Measures (Err Memory) m = ⊤

-- Unless memory was wanting, the answer is the layout of the measure where that is not too large.
abbrev pub LaysOut : Result Layout LayRefusal → Measured → Type 0
LaysOut (Ok layout) m = (layout ≡ m.laid) × (extent m ≤ most_bytes)
LaysOut (Err TooLarge) m = most_bytes < extent m
LaysOut (Err Memory) m = ⊤

-- Unless memory was wanting, the answer is the first misplaced member, where there is one, and else the layout of the measure where that
-- is not too large.
abbrev pub Places : Result Layout PlaceRefusal → Option ℕ → Measured → Type 0
Places (Ok layout) misplaced m = (misplaced ≡ None) × (layout ≡ m.laid) × (extent m ≤ most_bytes)
Places (Err (place.Misplaced number)) misplaced m = misplaced ≡ Some number
Places (Err place.TooLarge) misplaced m = (misplaced ≡ None) × (most_bytes < extent m)
Places (Err place.Memory) misplaced m = ⊤

-- What was gathered is these members, one behind another.
pub record Gathers (g : Gathered) (members : List Placed) : Type 0 where
  pub parts : parts_of g.offsets g.laids ≡ parts_behind [] members
  pub paired : length g.offsets ≡ length g.laids
  pub end : g.end ≡ end_of (last_first [] members)
  pub base : g.base ≡ largest_base members
  pub align : g.align ≡ largest_actual members
  pub small : g.end ≤ most_bytes

-- Unless memory was wanting, one more member was gathered, or the end is too far.
abbrev pub Adds : Result Unit LayRefusal → Gathered → Gathered → Placed → Type 0
Adds (Ok done) before now member = (members : List Placed) → Gathers before members → Gathers now (members ++ member ∷ [])
Adds (Err TooLarge) before now member = (members : List Placed) → Gathers before members → most_bytes < end_of (last_first [] (members ++ member ∷ []))
Adds (Err Memory) before now member = ⊤

-- the alignment of what was gathered, together
abbrev pub closed_align : (ℕ → ℕ) → Gathered → ℕ
closed_align raise g = max g.align (raise g.base)

-- what was gathered, together
abbrev pub closed_group : (ℕ → ℕ) → Gathered → Measured
closed_group raise g = record {
  align = closed_align raise g;
  size = least_multiple (closed_align raise g) g.end;
  laid = Group (parts_of g.offsets g.laids) (least_multiple (closed_align raise g) g.end);
}

-- The answer is what was gathered, together, where that is not too large.
abbrev pub Closes : Result Measured LayRefusal → (ℕ → ℕ) → Gathered → Type 0
Closes (Ok got) raise g = (got ≡ closed_group raise g) × (got.size ≤ most_bytes)
Closes (Err TooLarge) raise g = most_bytes < least_multiple (closed_align raise g) g.end
Closes (Err Memory) raise g = ⊥

-- No runtime array is in it, and it has a leaf.
pub record IsShut (m : Measured) : Type 0 where
  pub shut : IsTrue (closed m.laid)
  pub some : 4 ≤ m.size
