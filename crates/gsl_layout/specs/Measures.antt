-- The alignment, size and layout of types, by equations (GLSL 4.50, 4.4.5; OpenGL 4.5, 7.6.2.2).
use Rattle.std.specs.Prelude.{ℕ, ◌*◌, nat_le, if◌then◌else◌, List, [], Option, Some, None, max}
use Rattle.gsl_types.specs.declared.ty.Ty.TheOpen.{Ty-F}
use Rattle.gsl_types.specs.declared.ty.Ty.{Ty}
use Rattle.gsl_types.specs.declared.ty.Member.{Member}
use Rattle.gsl_types.specs.declared.ty.StructType.{StructType}
use Rattle.gsl_types.specs.Structs.{Meaning, meaning, members_meaning}
use Rattle.gsl_layout.specs.Layout.{Leaf, Group, array, size}
use Rattle.gsl_layout.specs.Placings.{Placed, end_of, first_misplaced, largest_actual, largest_base, last_first, parts_behind, placed}
use Rattle.gsl_layout.specs.declared.placing.Placing.{Placing}
use Rattle.gsl_layout.specs.Rules.{least_multiple}
use Rattle.gsl_layout.specs.declared.measured.Measured.{Measured}

-- the alignment of so many components
abbrev pub components_align : ℕ → ℕ
components_align count = if nat_le count 1 then 4 else if nat_le count 2 then 8 else 16

-- so many components in a row
abbrev pub run : ℕ → Measured
run count = record { align = components_align count; size = 4 * count; laid = Leaf count }

-- an array has the alignment of its element, raised, and the element's size rounded up to that as its stride
abbrev pub stride_of : (ℕ → ℕ) → Measured → ℕ
stride_of raise element = least_multiple (raise element.align) element.size

abbrev pub arrayed : (ℕ → ℕ) → Measured → Option ℕ → Measured
arrayed raise element count =
    record { align = raise element.align; size = size (array (stride_of raise element) count element.laid); laid = array (stride_of raise element) count element.laid }

-- A group has the largest base alignment of its members, raised, or their largest actual alignment where that is larger. Its size is its
-- end rounded up to that.
abbrev pub group_align : (ℕ → ℕ) → List Placed → ℕ
group_align raise members = max (largest_actual members) (raise (largest_base members))

abbrev pub group_size : (ℕ → ℕ) → List Placed → ℕ
group_size raise members = least_multiple (group_align raise members) (end_of (last_first [] members))

abbrev pub grouped : (ℕ → ℕ) → List Placed → Measured
grouped raise members =
    record { align = group_align raise members; size = group_size raise members; laid = Group (parts_behind [] members) (group_size raise members) }

abbrev pub measure_of_kind : (ℕ → ℕ) → Ty-F Measured → Measured
measure_of_kind raise (Ty-F.One s) = run 1
measure_of_kind raise (Ty-F.Vector s n) = run n
measure_of_kind raise (Ty-F.Array element n) = arrayed raise element (Some n)
measure_of_kind raise (Ty-F.Runtime element) = arrayed raise element None
measure_of_kind raise _ = run 1

abbrev pub measuring : (ℕ → ℕ) → Meaning Measured
measuring raise = record { kind = measure_of_kind raise; struct = λ name members. grouped raise (placed [] members); none = run 1 }

-- the alignment, size and layout of a type by a rule
abbrev pub measure : (ℕ → ℕ) → List StructType → Ty → Measured
measure raise structs ty = meaning (measuring raise) structs ty

-- the members of a block, with what is said of their places
abbrev pub placed_members : (ℕ → ℕ) → List StructType → List Member → List Placing → List Placed
placed_members raise structs members placings = placed placings (members_meaning (measuring raise) structs members)

-- the alignment, size and layout of a block
abbrev pub block : (ℕ → ℕ) → List StructType → List Member → List Placing → Measured
block raise structs members placings = grouped raise (placed_members raise structs members placings)

-- the number of its first member that may not stand where its placing says
abbrev pub misplaced_in : (ℕ → ℕ) → List StructType → List Member → List Placing → Option ℕ
misplaced_in raise structs members placings = first_misplaced [] 0 (placed_members raise structs members placings)
