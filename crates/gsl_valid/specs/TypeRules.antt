-- V4: what types are made of; no type is declared twice, but for arrays and structs.
use Rattle.std.specs.Prelude.{ℕ, Bool, true, false, ◌==◌, ◌&&◌, ◌||◌, not, nat_le, drop, Option, Some, None}
use Rattle.std.specs.List.{list_any, list_all}
use Rattle.std.specs.Str.{bytes_eq}
use Rattle.gsl_words.specs.declared.module.Instr.{Instr}
use Rattle.gsl_words.specs.declared.module.Module.{Module}
use Rattle.gsl_valid.specs.Instruction.{read}
use Rattle.gsl_valid.specs.Kinds.{Shape, OfVoid, OfBool, OfInt, OfVector, OfArray, OfRuntimeArray, OfStruct, OfPointer, OfFunction, NoType, shape_of, value_of}
use Rattle.gsl_valid.specs.Placed.{Code}
use Rattle.gsl_valid.specs.Search.{first_broken}
use Rattle.gsl_valid.specs.Types.{defined_as, is_void, is_int, is_value_type, is_runtime, bool_type, local_pointer}

-- whether two types are declared with the same operands, other than their ids
abbrev pub same_type : Instr → Instr → Bool
same_type i j = i.op == j.op && bytes_eq (drop 1 i.args) (drop 1 j.args)

-- whether a type is declared for the first time
abbrev pub is_first : Code → Instr → Bool
is_first before i = not (list_any (same_type i) before)

-- what a function may give
abbrev pub is_returned : Module → ℕ → Bool
is_returned m id = is_void m id || is_value_type m id

-- what a function may take
abbrev pub is_taken : Module → ℕ → Bool
is_taken m id = is_value_type m id || local_pointer (defined_as m id)

-- what a struct may have
abbrev pub is_member : Module → ℕ → Bool
is_member m id = is_value_type m id || is_runtime m id

-- what a vector may have
abbrev pub is_component : Module → ℕ → Bool
is_component m id = is_int m id || bool_type (defined_as m id)

-- whether there is a length, and it is at least 1
abbrev pub is_length : Option ℕ → Bool
is_length None = false
is_length (Some length) = nat_le 1 length

-- whether a type may be made so, where `first` says whether it is declared for the first time
abbrev pub is_made : Module → Bool → Shape → Bool
is_made m first OfVoid = first
is_made m first OfBool = first
is_made m first (OfInt signedness) = nat_le signedness 1 && first
is_made m first (OfVector component count) = is_component m component && nat_le 2 count && nat_le count 4 && first
is_made m first (OfArray element length) = is_value_type m element && is_length (value_of (defined_as m length))
is_made m first (OfRuntimeArray element) = is_value_type m element
is_made m first (OfStruct id members) = list_all (is_member m) members
is_made m first (OfPointer class pointee) = is_value_type m pointee && first
is_made m first (OfFunction returned parameters) = is_returned m returned && list_all (is_taken m) parameters && first
is_made m first NoType = true

-- whether V4 is kept by an instruction
abbrev pub type_made : Module → Code → Instr → Bool
type_made m before i = is_made m (is_first before i) (shape_of (read i))

-- the first instruction that breaks V4
abbrev pub types : Module → Option ℕ
types m = first_broken (type_made m) m
