-- V8: the offsets and strides of the types that the variables of blocks reach.
use Rattle.std.specs.Prelude.{ℕ, ◌+◌, ◌-◌, ◌*◌, ◌%◌, ◌^◌, Bool, true, false, ◌==◌, ◌&&◌, ◌||◌, not, nat_le, nat_lt, List, [], ◌∷◌, max, Option, Some, None, if◌then◌else◌}
use Rattle.std.specs.List.{list_any, list_all}
use Rattle.gsl_words.specs.declared.module.Instr.{Instr}
use Rattle.gsl_words.specs.declared.module.Module.{Module}
use Rattle.gsl_instr.specs.declared.enumerant.storage_class.TheConstants as storage_class
use Rattle.gsl_instr.specs.declared.enumerant.decoration.TheConstants as decoration
use Rattle.gsl_valid.specs.Instruction.{read}
use Rattle.gsl_valid.specs.Kinds.{Shape, OfVoid, OfBool, OfInt, OfVector, OfArray, OfRuntimeArray, OfStruct, OfPointer, OfFunction, NoType, Variable, shape_of, variable_is, value_of}
use Rattle.gsl_valid.specs.Ids.{result}
use Rattle.gsl_valid.specs.Placed.{Code}
use Rattle.gsl_valid.specs.Search.{first_broken, whole}
use Rattle.gsl_valid.specs.Ids.{defines}
use Rattle.gsl_valid.specs.Types.{Lanes, defined_as, outside_of, is_block_class, has_in, has_lanes, is_words, lanes_in}
use Rattle.gsl_valid.specs.Decorations.{number_on, number_on_member, has}
use Rattle.gsl_valid.specs.DecorationRules.{pointee}

-- What is reached -----------------------------------------------------------------------------------------------

-- whether a type is another or has it in it
abbrev pub reaches : Module → ℕ → ℕ → Bool
reaches m type part = has_in (λ id. id == part) (whole m) type

-- whether a variable of a block, if there is one, reaches a type
abbrev pub reaches_it : Module → ℕ → Option Variable → Bool
reaches_it m part None = false
reaches_it m part (Some v) = is_block_class v.class && reaches m (pointee m v.type) part

-- whether a variable of a block reaches a type
abbrev pub is_in_block : Module → ℕ → Bool
is_in_block m part = list_any (λ i. reaches_it m part (variable_is (read i))) (outside_of m)

-- whether a variable is one of a storage block
abbrev pub is_storage : Module → Variable → Bool
is_storage m v =
    v.class == storage_class.STORAGE_BUFFER || v.class == storage_class.UNIFORM && has m decoration.BUFFER_BLOCK (pointee m v.type)

-- whether a variable of a block, if there is one, does not reach a struct, or is one of a storage block and the struct is its own
abbrev pub owns_it : Module → ℕ → Option Variable → Bool
owns_it m struct None = true
owns_it m struct (Some v) =
    not (is_block_class v.class && reaches m (pointee m v.type) struct) || is_storage m v && pointee m v.type == struct

-- whether a struct may have an array without length as its last member
abbrev pub may_grow : Module → ℕ → Bool
may_grow m struct = list_all (λ i. owns_it m struct (variable_is (read i))) (outside_of m)

-- Measures ------------------------------------------------------------------------------------------------------

-- what an array takes, by its stride, its length and what is behind the last of its strides
abbrev pub array_of : Option ℕ → Option ℕ → (ℕ → ℕ → ℕ) → ℕ
array_of None length measure = 0
array_of (Some stride) None measure = 0
array_of (Some stride) (Some length) measure = measure stride length

-- the end of what stands at an offset
abbrev pub end_after : Option ℕ → ℕ → ℕ
end_after None need = 0
end_after (Some offset) need = offset + need

-- the end of the last of these members, numbered from one on, where `need_of` says what a type needs
abbrev pub end_of_last : Module → (ℕ → ℕ) → ℕ → ℕ → ℕ → List ℕ → ℕ
end_of_last m need_of struct member end [] = end
end_of_last m need_of struct member end (type ∷ types) =
    end_of_last m need_of struct (member + 1) (end_after (number_on_member m decoration.OFFSET struct member) (need_of type)) types

-- the greatest end of these members, by their extents
abbrev pub greatest_end : Module → (ℕ → ℕ) → ℕ → ℕ → ℕ → List ℕ → ℕ
greatest_end m extent_of struct member end [] = end
greatest_end m extent_of struct member end (type ∷ types) =
    greatest_end m extent_of struct (member + 1) (max end (end_after (number_on_member m decoration.OFFSET struct member) (extent_of type))) types

-- the bytes of a scalar or vector
abbrev pub bytes_of : Option Lanes → ℕ
bytes_of None = 0
bytes_of (Some lanes) = 4 * lanes.size

-- what a type with an id needs, by the needs of its parts
abbrev pub need_as : Module → (ℕ → ℕ) → ℕ → Shape → ℕ
need_as m need_of id OfVoid = 0
need_as m need_of id OfBool = 4
need_as m need_of id (OfInt signedness) = 4
need_as m need_of id (OfVector component count) = 4 * count
need_as m need_of id (OfArray element length) =
    array_of (number_on m decoration.ARRAY_STRIDE id) (value_of (defined_as m length)) (λ stride count. stride * (count - 1) + need_of element)
need_as m need_of id (OfRuntimeArray element) = 0
need_as m need_of id (OfStruct struct members) = end_of_last m need_of struct 0 0 members
need_as m need_of id (OfPointer class pointee) = 0
need_as m need_of id (OfFunction returned parameters) = 0
need_as m need_of id NoType = 0

-- how many bytes a type needs, up to the end of its last leaf, where its definition is among these instructions, the last first
abbrev pub need : Module → Code → ℕ → ℕ
need m [] id = 0
need m (i ∷ before) id = if defines i id then need_as m (need m before) id (shape_of (read i)) else need m before id

-- what a type with an id extends over, by the extents of its parts, where each element of an array takes its stride
abbrev pub extent_as : Module → (ℕ → ℕ) → ℕ → Shape → ℕ
extent_as m extent_of id OfVoid = 0
extent_as m extent_of id OfBool = 4
extent_as m extent_of id (OfInt signedness) = 4
extent_as m extent_of id (OfVector component count) = 4 * count
extent_as m extent_of id (OfArray element length) =
    array_of (number_on m decoration.ARRAY_STRIDE id) (value_of (defined_as m length)) (λ stride count. stride * count)
extent_as m extent_of id (OfRuntimeArray element) = 0
extent_as m extent_of id (OfStruct struct members) = greatest_end m extent_of struct 0 0 members
extent_as m extent_of id (OfPointer class pointee) = 0
extent_as m extent_of id (OfFunction returned parameters) = 0
extent_as m extent_of id NoType = 0

-- how many bytes a type extends over
abbrev pub extent : Module → Code → ℕ → ℕ
extent m [] id = 0
extent m (i ∷ before) id = if defines i id then extent_as m (extent m before) id (shape_of (read i)) else extent m before id

-- Members and elements ------------------------------------------------------------------------------------------

-- a bound on all ends
abbrev pub end_limit : ℕ
end_limit = 2 ^ 31

-- whether a member of this extent may have this offset, behind the one that ends there
abbrev pub is_at : Option ℕ → ℕ → ℕ → Bool
is_at None end extent = false
is_at (Some offset) end extent = offset % 4 == 0 && nat_le end offset && nat_lt (offset + extent) end_limit

-- whether a type is one that stands in blocks: a leaf is an Int or a vector of Int
abbrev pub is_part_of_blocks : Module → Shape → Bool
is_part_of_blocks m OfVoid = false
is_part_of_blocks m OfBool = false
is_part_of_blocks m (OfInt signedness) = true
is_part_of_blocks m (OfVector component count) = has_lanes is_words (lanes_in m (OfVector component count))
is_part_of_blocks m (OfArray element length) = true
is_part_of_blocks m (OfRuntimeArray element) = false
is_part_of_blocks m (OfStruct id members) = true
is_part_of_blocks m (OfPointer class pointee) = false
is_part_of_blocks m (OfFunction returned parameters) = false
is_part_of_blocks m NoType = false

-- whether a type may be that of a member, where `last` says whether it may grow
abbrev pub may_be_in : Module → Bool → Shape → Bool
may_be_in m last OfVoid = false
may_be_in m last OfBool = false
may_be_in m last (OfInt signedness) = true
may_be_in m last (OfVector component count) = is_part_of_blocks m (OfVector component count)
may_be_in m last (OfArray element length) = true
may_be_in m last (OfRuntimeArray element) = last
may_be_in m last (OfStruct id members) = true
may_be_in m last (OfPointer class pointee) = false
may_be_in m last (OfFunction returned parameters) = false
may_be_in m last NoType = false

-- whether none of these is left
abbrev pub is_end : List ℕ → Bool
is_end [] = true
is_end (type ∷ types) = false

-- whether these members of a struct, numbered from one on, may be laid behind an end
abbrev pub is_laid : Module → Code → ℕ → ℕ → ℕ → List ℕ → Bool
is_laid m before struct member end [] = true
is_laid m before struct member end (type ∷ types) =
    let offset = number_on_member m decoration.OFFSET struct member in
    may_be_in m (is_end types && may_grow m struct) (shape_of (defined_as m type)) && is_at offset end (extent m before type)
    && is_laid m before struct (member + 1) (end_after offset (need m before type)) types

-- whether elements of a need may follow each other by a stride
abbrev pub is_stride : Option ℕ → ℕ → Bool
is_stride None need = false
is_stride (Some stride) need = stride % 4 == 0 && nat_le need stride

-- whether the elements of an array are laid
abbrev pub elements_laid : Module → Code → ℕ → ℕ → Bool
elements_laid m before id element =
    is_part_of_blocks m (shape_of (defined_as m element)) && is_stride (number_on m decoration.ARRAY_STRIDE id) (need m before element)

-- whether a type that a block reaches is laid
abbrev pub type_laid : Module → Code → ℕ → Shape → Bool
type_laid m before id OfVoid = true
type_laid m before id OfBool = true
type_laid m before id (OfInt signedness) = true
type_laid m before id (OfVector component count) = true
type_laid m before id (OfArray element length) =
    elements_laid m before id element && nat_lt (extent_as m (extent m before) id (OfArray element length)) end_limit
type_laid m before id (OfRuntimeArray element) = elements_laid m before id element
type_laid m before id (OfStruct struct members) = is_laid m before struct 0 0 members
type_laid m before id (OfPointer class pointee) = true
type_laid m before id (OfFunction returned parameters) = true
type_laid m before id NoType = true

-- whether it is laid where a block reaches it, if there is an id
abbrev pub laid_if : Module → Code → Option ℕ → Shape → Bool
laid_if m before None shape = true
laid_if m before (Some id) shape = type_laid m before id shape || not (is_in_block m id)

-- whether V8 is kept by an instruction
abbrev pub laid : Module → Code → Instr → Bool
laid m before i = laid_if m before (result (read i)) (shape_of (read i))

-- the first instruction that breaks V8
abbrev pub layouts : Module → Option ℕ
layouts m = first_broken (laid m) m
