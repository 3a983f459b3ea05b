-- The layout std430 of a block's members (GLSL 4.50, 4.4.5; OpenGL 4.5, 7.6.2.2).
use Rattle.std.specs.Prelude.{ℕ, ◌+◌, ◌-◌, ◌*◌, ◌/◌, List, [], ◌∷◌, map, fold, max}
use Rattle.gsl_form.specs.declared.program.Program.{Program}

-- The types that members have.
pub data MemberType : Type 0 where
  Int : MemberType

-- the base alignment of a type
abbrev pub alignment : MemberType → ℕ
alignment Int = 4

-- the bytes that a value of it takes
abbrev pub size : MemberType → ℕ
size Int = 4

-- the first multiple of an alignment at or after a place
abbrev pub first_multiple : ℕ → ℕ → ℕ
first_multiple alignment place = (place + (alignment - 1)) / alignment * alignment

-- a member stands at the first multiple of its alignment at or after the end of the member before it
abbrev pub offsets_from : ℕ → List MemberType → List ℕ
offsets_from end [] = []
offsets_from end (type ∷ types) = first_multiple (alignment type) end ∷ offsets_from (first_multiple (alignment type) end + size type) types

-- the offsets of a block's members
abbrev pub offsets : List MemberType → List ℕ
offsets types = offsets_from 0 types

-- the end of the last of the members
abbrev pub end_from : ℕ → List MemberType → ℕ
end_from end [] = end
end_from end (type ∷ types) = end_from (first_multiple (alignment type) end + size type) types

-- the bytes that a block needs: up to the end of its last leaf
abbrev pub need : List MemberType → ℕ
need types = end_from 0 types

-- the alignment of a block: that of its member of the greatest
abbrev pub block_alignment : List MemberType → ℕ
block_alignment types = fold max 1 (map alignment types)

-- the size of a block: its need, rounded up to its alignment
abbrev pub block_size : List MemberType → ℕ
block_size types = first_multiple (block_alignment types) (need types)

-- the types of a program's members
abbrev pub member_types : Program → List MemberType
member_types p = map (λ name. Int) p.members
