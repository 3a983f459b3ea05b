-- The struct types of many units, each once. Two structs are the same where their names, and the names and types of their members, are the
-- same (GLSL 4.50, 4.1.8).
--
-- Structs of a unit name earlier ones alone, so the types of a struct's members have their new numbers when its turn comes, and a
-- comparison looks at one level only. That this finds the structs that are spelled alike, where each struct is written out: no two structs of the
-- list are spelled alike, since one that is spelled as an earlier one has members that are, which by then have its members' numbers, and so is
-- not put. Two types over such a list are spelled alike where they are one type.
use Rattle.std.specs.Prelude.{ℕ, Bool, true, false, ◌&&◌, bytes_eq, List, [], ◌∷◌, ◌++◌, map, if◌then◌else◌}
use Rattle.std.specs.List.{list_any, position_or_len}
use Rattle.gsl_types.specs.declared.ty.Member.{Member}
use Rattle.gsl_types.specs.declared.ty.StructType.{StructType}
use Rattle.gsl_tree.specs.declared.unit.TypedUnit.{TypedUnit}
use Rattle.gsl_link_units.specs.Types.{retyped, same_type}

abbrev pub same_members : List Member → List Member → Bool
same_members [] [] = true
same_members (a ∷ members) (b ∷ others) = bytes_eq a.name b.name && same_type a.ty b.ty && same_members members others
same_members _ _ = false

-- two structs are the same, where the types of their members have numbers in one list
abbrev pub same_struct : StructType → StructType → Bool
same_struct a b = bytes_eq a.name b.name && same_members a.members b.members

abbrev pub retyped_member : List ℕ → Member → Member
retyped_member numbers member = record { name = member.name; ty = retyped numbers member.ty }

abbrev pub retyped_struct : List ℕ → StructType → StructType
retyped_struct numbers struct = record struct { members = map (retyped_member numbers) struct.members }

-- the list with a struct, which is put at its end where none there is the same
abbrev pub with_struct : List StructType → StructType → List StructType
with_struct joined struct = if list_any (same_struct struct) joined then joined else joined ++ struct ∷ []

-- the number of a struct in the list with it
abbrev pub struct_number : List StructType → StructType → ℕ
struct_number joined struct = position_or_len (same_struct struct) joined

-- The list with the structs of a unit in their order, and their numbers in it, behind those of the structs before them.
abbrev pub with_structs : List StructType → List ℕ → List StructType → List StructType × List ℕ
with_structs joined numbers [] = (joined, numbers)
with_structs joined numbers (struct ∷ structs) =
    with_structs (with_struct joined (retyped_struct numbers struct)) (numbers ++ struct_number joined (retyped_struct numbers struct) ∷ []) structs

-- the list with the structs of units in their order
abbrev pub with_units : List StructType → List TypedUnit → List StructType
with_units joined [] = joined
with_units joined (unit ∷ units) = with_units (with_structs joined [] unit.structs).0 units

-- the structs of all units, each once
abbrev pub joined_structs : List TypedUnit → List StructType
joined_structs units = with_units [] units

-- the new numbers of the structs of each unit
abbrev pub numbers_behind : List StructType → List TypedUnit → List (List ℕ)
numbers_behind joined [] = []
numbers_behind joined (unit ∷ units) = (with_structs joined [] unit.structs).1 ∷ numbers_behind (with_structs joined [] unit.structs).0 units

abbrev pub struct_numbers : List TypedUnit → List (List ℕ)
struct_numbers units = numbers_behind [] units
