-- The types that were declared, by their opcodes and operands.
use Rattle.std.specs.Prelude.{ℕ, Bool, true, false, ◌==◌, ◌&&◌, not, if◌then◌else◌, List, [], ◌∷◌, ◌++◌, drop, Option, Some, None}
use Rattle.std.specs.List.{list_any}
use Rattle.std.specs.Str.{bytes_eq}
use Rattle.std.specs.Borrow.{Bor}
use Rattle.gsl_words.specs.declared.module.Instr.{Instr}
use Rattle.gsl_words.specs.declared.module.Module.{Module}
use Rattle.gsl_valid.specs.Instruction.{read}
use Rattle.gsl_valid.specs.Kinds.{Kind, Asks, Imports, Sets, Enters, Modes, Debugs, Decorates, Declares, Fixes, Holds, Begins, Takes, Calls, Gives, Does, Opens, Merges, Leaves, Ended, Absent, kind, shape_of}
use Rattle.gsl_valid.specs.Placed.{Placed}
use Rattle.gsl_valid.specs.TypeRules.{is_made}

-- An opcode with the operands behind the id.
pub record Key : Type 0 where
  pub op : ℕ
  pub operands : List ℕ

-- what is kept of a type
abbrev pub key_seen : ℕ × Bor (List ℕ) → Key
key_seen k = record { op = k.0; operands = k.1.now }

-- whether a key is of this opcode and these operands
abbrev pub is_key : ℕ → List ℕ → Key → Bool
is_key op operands k = op == k.op && bytes_eq operands k.operands

-- whether some type was declared with the opcode and the operands of an instruction
abbrev pub is_known : List Key → Instr → Bool
is_known known i = list_any (is_key i.op (drop 1 i.args)) known

-- whether an instruction declares a type
abbrev pub declares : Kind → Bool
declares Asks = false
declares Imports = false
declares Sets = false
declares (Enters model function name interface) = false
declares (Modes function mode parts) = false
declares Debugs = false
declares (Decorates d) = false
declares (Declares shape) = true
declares (Fixes type value) = false
declares (Holds v) = false
declares (Begins type id function_type) = false
declares (Takes type) = false
declares (Calls type function arguments) = false
declares (Gives type) = false
declares Does = false
declares Opens = false
declares Merges = false
declares Leaves = false
declares Ended = false
declares Absent = false

-- whether V4 is kept by an instruction, where these types were declared before
abbrev pub passes : Module → List Key → ℕ → Instr → Bool
passes m known at i = is_made m (not (is_known known i)) (shape_of (read i))

-- with what an instruction declares
abbrev pub with_key : List Key → Instr → List Key
with_key known i = if is_known known i then known else known ++ record { op = i.op; operands = drop 1 i.args } ∷ []

-- the types that were declared up to an instruction
abbrev pub behind : List Key → ℕ → Instr → List Key
behind known at i = if declares (kind (read i)) then with_key known i else known

-- the place of the first instruction that breaks V4, where these types were declared before
unfoldable pub first_bad : Module → List Key → List Placed → Option ℕ
first_bad m known [] = None
first_bad m known (p ∷ placed) = if passes m known 0 p.instr then first_bad m (behind known 0 p.instr) placed else Some p.at
