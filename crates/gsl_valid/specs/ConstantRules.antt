-- V5: constants have the types that their opcodes need.
use Rattle.std.specs.Prelude.{ℕ, Bool, true, false, ◌==◌, ◌&&◌, not, List, [], ◌∷◌, length, Option, Some, None}
use Rattle.std.specs.List.{list_all}
use Rattle.gsl_words.specs.declared.module.Instr.{Instr}
use Rattle.gsl_words.specs.declared.module.Module.{Module}
use Rattle.gsl_valid.specs.Instruction.{read}
use Rattle.gsl_valid.specs.Kinds.{Shape, OfVoid, OfBool, OfInt, OfVector, OfArray, OfRuntimeArray, OfStruct, OfPointer, OfFunction, NoType, Value, Truth, Word, Parts, Zeros, shape_of, constant_is, value_of}
use Rattle.gsl_valid.specs.Placed.{Code}
use Rattle.gsl_valid.specs.Search.{first_broken, whole}
use Rattle.gsl_valid.specs.Types.{defined_as, is_int, bool_type, is_value_type, is_runtime, has_in, constant_of}

-- whether an array without length is in a type
abbrev pub has_runtime : Module → ℕ → Bool
has_runtime m type = has_in (is_runtime m) (whole m) type

-- whether a value of a type can be held where no array without length may be
abbrev pub is_whole : Module → ℕ → Bool
is_whole m type = is_value_type m type && not (has_runtime m type)

-- whether an id is a constant of a type
abbrev pub is_constant_of : Module → ℕ → ℕ → Bool
is_constant_of m type id = constant_of type (defined_as m id)

-- whether these ids have these types one by one, where `has` says whether an id has a type
abbrev pub have_each : (ℕ → ℕ → Bool) → List ℕ → List ℕ → Bool
have_each has [] [] = true
have_each has [] (id ∷ ids) = false
have_each has (type ∷ types) [] = false
have_each has (type ∷ types) (id ∷ ids) = has type id && have_each has types ids

-- whether there are as many ids as said, each of one type
abbrev pub have_all : (ℕ → ℕ → Bool) → ℕ → Option ℕ → List ℕ → Bool
have_all has type None ids = false
have_all has type (Some count) ids = length ids == count && list_all (has type) ids

-- whether these ids are the parts of a type: one for each component, element or member
abbrev pub are_parts : Module → (ℕ → ℕ → Bool) → List ℕ → Shape → Bool
are_parts m has ids OfVoid = false
are_parts m has ids OfBool = false
are_parts m has ids (OfInt signedness) = false
are_parts m has ids (OfVector component count) = have_all has component (Some count) ids
are_parts m has ids (OfArray element length) = have_all has element (value_of (defined_as m length)) ids
are_parts m has ids (OfRuntimeArray element) = false
are_parts m has ids (OfStruct id members) = have_each has members ids
are_parts m has ids (OfPointer class pointee) = false
are_parts m has ids (OfFunction returned parameters) = false
are_parts m has ids NoType = false

-- whether a constant of a type may have a value
abbrev pub is_fixed : Module → ℕ → Value → Bool
is_fixed m type Truth = bool_type (defined_as m type)
is_fixed m type (Word word) = is_int m type
is_fixed m type (Parts parts) = are_parts m (is_constant_of m) parts (shape_of (defined_as m type))
is_fixed m type Zeros = is_whole m type

-- whether a constant, if it is one, has a type that its opcode may give it
abbrev pub is_constant : Module → Option (ℕ × Value) → Bool
is_constant m None = true
is_constant m (Some c) = is_fixed m c.0 c.1

-- whether V5 is kept by an instruction
abbrev pub constant_typed : Module → Code → Instr → Bool
constant_typed m before i = is_constant m (constant_is (read i))

-- the first instruction that breaks V5
abbrev pub constants : Module → Option ℕ
constants m = first_broken (constant_typed m) m
