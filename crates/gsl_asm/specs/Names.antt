-- The names of opcodes and enumerants (SPIR-V 1.3, 3).
use Rattle.std.specs.Prelude.{ℕ, ◌==◌, if◌then◌else◌, List, [], ◌∷◌, map, Option, Some, None}
use Rattle.std.specs.Str.{bytes_eq}
use Rattle.gsl_instr.specs.declared.slot.Enumeration.{Enumeration}
use Rattle.gsl_instr.specs.declared.slot.Enumeration.TheVariants.{Capability, Addressing, Memory, Model, Mode, Class, Decoration, BuiltIn}
use Rattle.gsl_words.specs.declared.target.Target.{Target}
use Rattle.gsl_words.specs.declared.target.Target.TheVariants.{V10, V13}
use Rattle.gsl_asm.specs.declared.names.TheConstants.{OPCODES_A, OPCODES_B, CAPABILITIES, ADDRESSINGS, MEMORIES, MODELS, MODES, CLASSES, CLASSES_1_3, DECORATIONS, BUILT_INS}

-- what the first row of a table says that has the name
abbrev pub lookup : {A : Type 0} → List (List ℕ × A) → List ℕ → Option A
lookup [] name = None
lookup (row ∷ table) name = if bytes_eq row.0 name then Some row.1 else lookup table name

-- the name in the first row that has the number
abbrev pub name_in : List (List ℕ × ℕ) → ℕ → Option (List ℕ)
name_in [] number = None
name_in (row ∷ table) number = if row.1 == number then Some row.0 else name_in table number

-- the names of an enumeration, by the version of the module
abbrev pub table_of : Target → Enumeration → List (List ℕ × ℕ)
table_of target Capability = map (λ row. (row.0.now, row.1)) CAPABILITIES
table_of target Addressing = map (λ row. (row.0.now, row.1)) ADDRESSINGS
table_of target Memory = map (λ row. (row.0.now, row.1)) MEMORIES
table_of target Model = map (λ row. (row.0.now, row.1)) MODELS
table_of target Mode = map (λ row. (row.0.now, row.1)) MODES
table_of V10 Class = map (λ row. (row.0.now, row.1)) CLASSES
table_of V13 Class = map (λ row. (row.0.now, row.1)) CLASSES_1_3
table_of target Decoration = map (λ row. (row.0.now, row.1)) DECORATIONS
table_of target BuiltIn = map (λ row. (row.0.now, row.1)) BUILT_INS

-- the number of an enumerant's name
unfoldable pub number_of : Target → Enumeration → List ℕ → Option ℕ
number_of target enumeration name = lookup (table_of target enumeration) name

-- the name of an enumerant
unfoldable pub name_of : Target → Enumeration → ℕ → Option (List ℕ)
name_of target enumeration number = name_in (table_of target enumeration) number

-- the first, or else the other
abbrev pub or_else : {A : Type 0} → Option A → Option A → Option A
or_else None other = other
or_else (Some found) other = Some found

-- the opcode of a name
unfoldable pub opcode_of : List ℕ → Option ℕ
opcode_of name = or_else (lookup (map (λ row. (row.0.now, row.1)) OPCODES_A) name) (lookup (map (λ row. (row.0.now, row.1)) OPCODES_B) name)

-- the name of an opcode
unfoldable pub opcode_name : ℕ → Option (List ℕ)
opcode_name op = or_else (name_in (map (λ row. (row.0.now, row.1)) OPCODES_A) op) (name_in (map (λ row. (row.0.now, row.1)) OPCODES_B) op)
