-- The values of constants, and of types whose leaves are all zero (SPIR-V 1.0, 3.32.7).
use Rattle.std.specs.Prelude.{ℕ, ◌==◌, if◌then◌else◌, [], ◌∷◌, map, replicate, Option, Some, None, unwrap_or}
use Rattle.gsl_instr.specs.declared.op.TheConstants as op
use Rattle.gsl_words.specs.declared.module.Instr.{Instr}
use Rattle.gsl_words.specs.declared.module.Module.{Module}
use Rattle.gsl_values.specs.declared.value.Value.{Value}
use Rattle.gsl_values.specs.declared.value.Value.TheVariants.{Word, Many}
use Rattle.gsl_valid.specs.Ids.{defines}
use Rattle.gsl_valid.specs.Instruction.{read}
use Rattle.gsl_valid.specs.Kinds.{Shape, OfVoid, OfBool, OfInt, OfVector, OfArray, OfRuntimeArray, OfStruct, OfPointer, OfFunction, NoType, Value as Fixed, Truth, Word as OneWord, Parts, Zeros, constant_is, shape_of, value_of}
use Rattle.gsl_valid.specs.Placed.{Code}
use Rattle.gsl_valid.specs.Search.{whole}
use Rattle.gsl_valid.specs.Types.{defined_as}

abbrev pub nothing : Value
nothing = Many []

-- the length of an array, which a constant gives
abbrev pub length_by : Module → ℕ → ℕ
length_by m length = unwrap_or (value_of (defined_as m length)) 0

-- ---- zeros

abbrev pub zeros_as : Module → (ℕ → Value) → Shape → Value
zeros_as m zeros_of OfVoid = nothing
zeros_as m zeros_of OfBool = Word 0
zeros_as m zeros_of (OfInt signedness) = Word 0
zeros_as m zeros_of (OfVector component count) = Many (replicate count (zeros_of component))
zeros_as m zeros_of (OfArray element length) = Many (replicate (length_by m length) (zeros_of element))
zeros_as m zeros_of (OfRuntimeArray element) = nothing
zeros_as m zeros_of (OfStruct id members) = Many (map zeros_of members)
zeros_as m zeros_of (OfPointer class pointee) = nothing
zeros_as m zeros_of (OfFunction returned parameters) = nothing
zeros_as m zeros_of NoType = nothing

-- the zeros of a type, where its definition is among these instructions, the last first
abbrev pub zeros_in : Module → Code → ℕ → Value
zeros_in m [] type = nothing
zeros_in m (i ∷ before) type = if defines i type then zeros_as m (zeros_in m before) (shape_of (read i)) else zeros_in m before type

abbrev pub zeros : Module → ℕ → Value
zeros m type = zeros_in m (whole m) type

-- ---- constants

-- the word of a constant of Bool
abbrev pub truth_of : Instr → ℕ
truth_of i = if i.op == op.CONSTANT_TRUE then 1 else 0

abbrev pub fixed : Module → (ℕ → Value) → Instr → ℕ → Fixed → Value
fixed m value_of_id i type Truth = Word (truth_of i)
fixed m value_of_id i type (OneWord word) = Word word
fixed m value_of_id i type (Parts parts) = Many (map value_of_id parts)
fixed m value_of_id i type Zeros = zeros m type

abbrev pub fixed_if : Module → (ℕ → Value) → Instr → Option (ℕ × Fixed) → Value
fixed_if m value_of_id i None = nothing
fixed_if m value_of_id i (Some c) = fixed m value_of_id i c.0 c.1

-- the value of a constant, where its definition is among these instructions, the last first
abbrev pub constant_in : Module → Code → ℕ → Value
constant_in m [] id = nothing
constant_in m (i ∷ before) id = if defines i id then fixed_if m (constant_in m before) i (constant_is (read i)) else constant_in m before id

abbrev pub constant : Module → ℕ → Value
constant m id = constant_in m (whole m) id
