-- What a view stands on, and what it shows.
use Rattle.std.specs.Prelude.{◌≡◌, ℕ, ◌+◌, ◌-◌, ◌*◌, ◌/◌, ◌<◌, ◌++◌, List, length, Some, IsSome}
use Rattle.gsl_layout.specs.Layout.{Layout, Leaf, Array, Runtime, element_of, members_of, part_at, offset_at, stride_of}
use Rattle.gsl_views.specs.Seen.{Tree, seen}
use Rattle.gsl_views.specs.declared.view.View.{View}

-- A view's bytes, the place in them where its layout stands, and the layout.
pub record Viewed : Type 0 where
  pub bytes : List ℕ
  pub start : ℕ
  pub layout : Layout

abbrev pub viewed : View → Viewed
viewed view = record { bytes = view.bytes.now; start = view.start; layout = view.laid.now }

abbrev pub standing : List ℕ → ℕ → Layout → Viewed
standing bytes start layout = record { bytes = bytes; start = start; layout = layout }

-- the tree of what is viewed
abbrev pub shown : Viewed → Tree
shown v = seen v.layout v.start v.bytes

-- It is a group with a member of this number.
abbrev pub HasMember : Layout → ℕ → Type 0
HasMember layout i = IsSome (part_at (members_of layout) i)

-- how many elements an array has at a place in so many bytes; of what is no array, none
abbrev pub elements : Layout → ℕ → ℕ → ℕ
elements (Array stride count element) start bytes = count
elements (Runtime stride element) start bytes = (bytes - start) / stride
elements layout start bytes = 0

-- It is an array that has an element of this number.
abbrev pub HasElement : Viewed → ℕ → Type 0
HasElement v i = i < elements v.layout v.start (length v.bytes)

-- It is an array.
abbrev pub IsArray : Layout → Type 0
IsArray (Array stride count element) = Unit {0}
IsArray (Runtime stride element) = Unit {0}
IsArray layout = ⊥

-- It is a run that has a component of this number.
abbrev pub HasComponent : Layout → ℕ → Type 0
HasComponent (Leaf components) c = c < components
HasComponent layout c = ⊥

-- Another has the layout and the place of a member.
pub record IsMember (v : Viewed) (i : ℕ) (w : Viewed) : Type 0 where
  pub layout : part_at (members_of v.layout) i ≡ Some w.layout
  pub place : (offset : ℕ) → offset_at (members_of v.layout) i ≡ Some offset → w.start ≡ v.start + offset

-- Another has the layout and the place of an element.
pub record IsElement (v : Viewed) (i : ℕ) (w : Viewed) : Type 0 where
  pub layout : element_of v.layout ≡ Some w.layout
  pub place : (stride : ℕ) → stride_of v.layout ≡ Some stride → w.start ≡ v.start + stride * i

-- the same, with other bytes in front of its own
abbrev pub behind : List ℕ → Viewed → Viewed
behind front v = record { bytes = front ++ v.bytes; start = length front + v.start; layout = v.layout }
