-- How many words the values of a type of a module have, a word for each leaf, and where parts stand among them (SPIR-V 1.0, 3.32.6).
use Rattle.std.specs.Prelude.{ℕ, ◌+◌, ◌*◌, if◌then◌else◌, List, [], ◌∷◌, length, take, Option, Some, None}
use Rattle.std.specs.List.{sum_by}
use Rattle.gsl_words.specs.declared.module.Module.{Module}
use Rattle.gsl_valid.specs.Ids.{defines}
use Rattle.gsl_valid.specs.Instruction.{read}
use Rattle.gsl_valid.specs.Kinds.{Shape, OfVoid, OfBool, OfInt, OfVector, OfArray, OfRuntimeArray, OfStruct, OfPointer, OfFunction, NoType, shape_of}
use Rattle.gsl_valid.specs.OperandRules.{part_of_at}
use Rattle.gsl_valid.specs.Placed.{Code}
use Rattle.gsl_valid.specs.Search.{whole}
use Rattle.gsl_valid.specs.Types.{defined_as}
use Rattle.gsl_machine.specs.Constants.{length_by}

-- how many parts a type has
abbrev pub parts_as : Module → Shape → ℕ
parts_as m OfVoid = 0
parts_as m OfBool = 0
parts_as m (OfInt signedness) = 0
parts_as m (OfVector component count) = count
parts_as m (OfArray element length) = length_by m length
parts_as m (OfRuntimeArray element) = 0
parts_as m (OfStruct id members) = length members
parts_as m (OfPointer class pointee) = 0
parts_as m (OfFunction returned parameters) = 0
parts_as m NoType = 0

-- how many words stand in front of the part of a number, by those of the types of parts
abbrev pub ahead_as : (ℕ → ℕ) → ℕ → Shape → ℕ
ahead_as leaves number OfVoid = 0
ahead_as leaves number OfBool = 0
ahead_as leaves number (OfInt signedness) = 0
ahead_as leaves number (OfVector component count) = number * leaves component
ahead_as leaves number (OfArray element length) = number * leaves element
ahead_as leaves number (OfRuntimeArray element) = 0
ahead_as leaves number (OfStruct id members) = sum_by leaves (take number members)
ahead_as leaves number (OfPointer class pointee) = 0
ahead_as leaves number (OfFunction returned parameters) = 0
ahead_as leaves number NoType = 0

-- how many words a value of a shape has
abbrev pub leaves_as : Module → (ℕ → ℕ) → Shape → ℕ
leaves_as m leaves OfVoid = 0
leaves_as m leaves OfBool = 1
leaves_as m leaves (OfInt signedness) = 1
leaves_as m leaves (OfVector component count) = count * leaves component
leaves_as m leaves (OfArray element length) = length_by m length * leaves element
leaves_as m leaves (OfRuntimeArray element) = 0
leaves_as m leaves (OfStruct id members) = sum_by leaves members
leaves_as m leaves (OfPointer class pointee) = 0
leaves_as m leaves (OfFunction returned parameters) = 0
leaves_as m leaves NoType = 0

-- of a type whose definition is among these instructions, the last first
abbrev pub leaves_in : Module → Code → ℕ → ℕ
leaves_in m [] type = 0
leaves_in m (i ∷ before) type = if defines i type then leaves_as m (leaves_in m before) (shape_of (read i)) else leaves_in m before type

-- how many words a value of a type has
abbrev pub leaves : Module → ℕ → ℕ
leaves m type = leaves_in m (whole m) type

-- how many words stand in front of the part of a number
abbrev pub ahead : Module → ℕ → ℕ → ℕ
ahead m type number = ahead_as (leaves m) number (shape_of (defined_as m type))

-- how many words of a value of a type stand in front of the part to which a path leads
unfoldable pub offset : Module → Option ℕ → List ℕ → ℕ
offset m None path = 0
offset m (Some type) [] = 0
offset m (Some type) (number ∷ path) = ahead m type number + offset m (part_of_at m number (shape_of (defined_as m type))) path
