-- Members one behind another, by their measures and by what is said of their places (GLSL 4.50, 4.4.5).
use Rattle.std.specs.Prelude.{ℕ, ◌+◌, ◌%◌, Bool, false, not, ◌||◌, nat_eq, nat_lt, if◌then◌else◌, List, [], ◌∷◌, get_or, drop, max, Option, Some, None}
use Rattle.std.specs.Int.{is_power_of_two}
use Rattle.gsl_layout.specs.Layout.{Parts, End, Part}
use Rattle.gsl_layout.specs.Rules.{least_multiple}
use Rattle.gsl_layout.specs.declared.measured.Measured.{Measured}
use Rattle.gsl_layout.specs.declared.placing.Placing.{Placing}

-- a member: what is said of its place, and its measure
abbrev pub Placed : Type 0
Placed = Placing × Measured

-- nothing is said
abbrev pub free : Placing
free = record { offset = None; align = None }

-- members with what is said of their places: in their order, and nothing of those that are left
abbrev pub placed : List Placing → List (List ℕ × Measured) → List Placed
placed placings [] = []
placed placings (member ∷ members) = (get_or placings 0 free, member.1) ∷ placed (drop 1 placings) members

-- the number that is stated, or another
abbrev pub stated : Option ℕ → ℕ → ℕ
stated (Some n) other = n
stated None other = other

-- ---- where they stand

-- the larger of a member's base alignment and its `align`, where it has one
abbrev pub actual_align : Placed → ℕ
actual_align member = max member.1.align (stated member.0.align 0)

-- A member stands at the least multiple of its actual alignment that is not below its `offset` or, where it has none, the end of the
-- member before it.
abbrev pub offset_behind : ℕ → Placed → ℕ
offset_behind end member = least_multiple (actual_align member) (stated member.0.offset end)

-- the end of members, the last of them first
abbrev pub end_of : List Placed → ℕ
end_of [] = 0
end_of (member ∷ before) = offset_behind (end_of before) member + member.1.size

-- members in their order, behind others of which the last comes first
abbrev pub parts_behind : List Placed → List Placed → Parts
parts_behind before [] = End
parts_behind before (member ∷ members) = Part (offset_behind (end_of before) member) member.1.laid (parts_behind (member ∷ before) members)

-- all members, the last first
abbrev pub last_first : List Placed → List Placed → List Placed
last_first before [] = before
last_first before (member ∷ members) = last_first (member ∷ before) members

-- the largest base alignment of members, which is at least 4
abbrev pub largest_base : List Placed → ℕ
largest_base [] = 4
largest_base (member ∷ members) = max member.1.align (largest_base members)

-- their largest actual alignment
abbrev pub largest_actual : List Placed → ℕ
largest_actual [] = 4
largest_actual (member ∷ members) = max (actual_align member) (largest_actual members)

-- ---- where they may stand

-- whether an `align` is no power of two
abbrev pub wrong_align : Option ℕ → Bool
wrong_align (Some align) = not (is_power_of_two align)
wrong_align None = false

-- whether an `offset` is no multiple of the base alignment, or below the end of the member before
abbrev pub wrong_offset : Option ℕ → ℕ → ℕ → Bool
wrong_offset (Some offset) base end = not (nat_eq (offset % base) 0) || nat_lt offset end
wrong_offset None base end = false

-- whether a member may not stand behind an end
abbrev pub misplaced : ℕ → Placed → Bool
misplaced end member = wrong_align member.0.align || wrong_offset member.0.offset member.1.align end

-- the number of the first member that may not stand where it does, behind others, where numbers are counted from one
abbrev pub first_misplaced : List Placed → ℕ → List Placed → Option ℕ
first_misplaced before number [] = None
first_misplaced before number (member ∷ members) = if misplaced (end_of before) member then Some number else first_misplaced (member ∷ before) (number + 1) members
