-- Layouts: where the leaves of a value lie in bytes.
use Rattle.std.specs.Prelude.{◌≡◌, ℕ, zero, suc, Option, Some, None, ◌+◌, ◌-◌, ◌*◌, ◌%◌, ◌^◌, ◌<◌, ◌≤◌, Bool, true, false, ◌&&◌, IsTrue, max}

-- A run of scalar components, an array of so many elements, a runtime array, or a group of members in their order with its size.
mutual
  pub data Layout : Type 0 where
    Leaf : ℕ → Layout
    Array : ℕ → ℕ → Layout → Layout
    Runtime : ℕ → Layout → Layout
    Group : Parts → ℕ → Layout

  -- Members, each with its offset.
  pub data Parts : Type 0 where
    End : Parts
    Part : ℕ → Layout → Parts → Parts

-- the bytes from the start of a layout to where the next may stand; a runtime array has none
abbrev pub size : Layout → ℕ
size (Leaf components) = 4 * components
size (Array stride count element) = stride * count
size (Runtime stride element) = 0
size (Group members all) = all

-- the end of the last leaf, or the offset of the runtime array
abbrev mutual
  pub need : Layout → ℕ
  need (Leaf components) = 4 * components
  need (Array stride count element) = stride * (count - 1) + need element
  need (Runtime stride element) = 0
  need (Group members all) = need_of members

  pub need_of : Parts → ℕ
  need_of End = 0
  need_of (Part offset layout rest) = max (offset + need layout) (need_of rest)

-- whether no runtime array is part of it
abbrev mutual
  pub closed : Layout → Bool
  closed (Leaf components) = true
  closed (Array stride count element) = closed element
  closed (Runtime stride element) = false
  closed (Group members all) = all_closed members

  pub all_closed : Parts → Bool
  all_closed End = true
  all_closed (Part offset layout rest) = closed layout && all_closed rest

-- whether it may be the last member of a group: no part of it is a group that has a runtime array
abbrev pub may_end : Layout → Bool
may_end (Runtime stride element) = true
may_end layout = closed layout

-- It is a multiple of 4.
abbrev pub IsWhole : ℕ → Type 0
IsWhole n = n % 4 ≡ 0

-- Parts stand in order and apart, at whole words. A run of components has one to four. An array has an element, and its stride is not
-- below what its element needs. A runtime array stands nowhere but as the last member of the outermost group. All sizes are below 2^31.
abbrev mutual
  pub IsLayout : Layout → Type 0
  IsLayout (Leaf components) = (1 ≤ components) × (components ≤ 4)
  IsLayout (Array stride count element) =
      IsLayout element × IsTrue (closed element) × IsWhole stride × (4 ≤ stride) × (need element ≤ stride) × (1 ≤ count) × (stride * count < 2 ^ 31)
  IsLayout (Runtime stride element) =
      IsLayout element × IsTrue (closed element) × IsWhole stride × (4 ≤ stride) × (need element ≤ stride)
  IsLayout (Group members all) = AreParts 0 members all × (all < 2 ^ 31)

  -- members from a place on, up to an end
  pub AreParts : ℕ → Parts → ℕ → Type 0
  AreParts from End end = ⊥
  AreParts from (Part offset layout End) end =
      (from ≤ offset) × IsWhole offset × IsLayout layout × (offset + size layout < 2 ^ 31) × IsTrue (may_end layout) × (offset + size layout ≤ end)
  AreParts from (Part offset layout (Part next inner rest)) end =
      (from ≤ offset) × IsWhole offset × IsLayout layout × (offset + size layout < 2 ^ 31) × IsTrue (closed layout) × AreParts (offset + need layout) (Part next inner rest) end

-- the layout of a member, if there is one of that number
abbrev pub part_at : Parts → ℕ → Option Layout
part_at End i = None
part_at (Part offset layout rest) zero = Some layout
part_at (Part offset layout rest) (suc i) = part_at rest i

-- the offset of a member
abbrev pub offset_at : Parts → ℕ → Option ℕ
offset_at End i = None
offset_at (Part offset layout rest) zero = Some offset
offset_at (Part offset layout rest) (suc i) = offset_at rest i

-- the members of a group
abbrev pub members_of : Layout → Parts
members_of (Group members all) = members
members_of _ = End

-- the stride of an array
abbrev pub stride_of : Layout → Option ℕ
stride_of (Array stride count element) = Some stride
stride_of (Runtime stride element) = Some stride
stride_of _ = None

-- the count of an array's elements, or none for a runtime array
abbrev pub count_of : Layout → Option (Option ℕ)
count_of (Array stride count element) = Some (Some count)
count_of (Runtime stride element) = Some None
count_of _ = None

-- the element of an array
abbrev pub element_of : Layout → Option Layout
element_of (Array stride count element) = Some element
element_of (Runtime stride element) = Some element
element_of _ = None

-- a member of a group, or the element of an array whatever the number is
abbrev pub part_of : Layout → ℕ → Option Layout
part_of (Group members all) i = part_at members i
part_of layout i = element_of layout

-- an array of so many elements, or a runtime array
abbrev pub array : ℕ → Option ℕ → Layout → Layout
array stride (Some count) element = Array stride count element
array stride None element = Runtime stride element
