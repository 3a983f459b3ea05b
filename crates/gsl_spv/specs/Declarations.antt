-- Types, constants and global variables, without their ids (SPIR-V 1.0, 3.32.6, 3.32.7 and 3.32.8).
use Rattle.std.specs.Prelude.{ℕ, Bool, true, false, List, [], ◌∷◌, ◌++◌, Option, Some, None, option_to_list}
use Rattle.gsl_words.specs.declared.module.Instr.{Instr}
use Rattle.gsl_instr.specs.declared.op.TheConstants as op
use Rattle.gsl_spv.specs.declared.plain.PlainType.{PlainType}
use Rattle.gsl_spv.specs.declared.plain.PlainType.TheVariants as plain

-- An instruction without the id that it defines: the opcode, the type of what it defines, if that has one, and the operands behind
-- the id.
pub record Declaration : Type 0 where
  pub op : ℕ
  pub ty : Option ℕ
  pub operands : List ℕ

abbrev pub instr : ℕ → List ℕ → Instr
instr op args = record { op = op; args = args }

-- the instruction that defines this id
abbrev pub defining : Declaration → ℕ → Instr
defining d id = instr d.op (option_to_list d.ty ++ id ∷ d.operands)

abbrev pub declaration : ℕ → Option ℕ → List ℕ → Declaration
declaration op ty operands = record { op = op; ty = ty; operands = operands }

abbrev pub type_by : ℕ → List ℕ → Declaration
type_by op operands = declaration op None operands

abbrev pub signedness : Bool → ℕ
signedness false = 0
signedness true = 1

abbrev pub plain_type : PlainType → Declaration
plain_type plain.Void = type_by op.TYPE_VOID []
plain_type plain.Bool = type_by op.TYPE_BOOL []
plain_type (plain.Int signed) = type_by op.TYPE_INT (32 ∷ signedness signed ∷ [])
plain_type (plain.Vector component count) = type_by op.TYPE_VECTOR (component ∷ count ∷ [])
plain_type (plain.Pointer class pointee) = type_by op.TYPE_POINTER (class ∷ pointee ∷ [])

abbrev pub function_type : ℕ → List ℕ → Declaration
function_type returned params = type_by op.TYPE_FUNCTION (returned ∷ params)

abbrev pub array_type : ℕ → ℕ → Declaration
array_type element length = type_by op.TYPE_ARRAY (element ∷ length ∷ [])

abbrev pub runtime_type : ℕ → Declaration
runtime_type element = type_by op.TYPE_RUNTIME_ARRAY (element ∷ [])

abbrev pub struct_type : List ℕ → Declaration
struct_type members = type_by op.TYPE_STRUCT members

-- a truth value, of the type of this id
abbrev pub truth : Bool → ℕ → Declaration
truth true ty = declaration op.CONSTANT_TRUE (Some ty) []
truth false ty = declaration op.CONSTANT_FALSE (Some ty) []

abbrev pub word : ℕ → ℕ → Declaration
word ty bits = declaration op.CONSTANT (Some ty) (bits ∷ [])

abbrev pub null : ℕ → Declaration
null ty = declaration op.CONSTANT_NULL (Some ty) []

abbrev pub composite : ℕ → List ℕ → Declaration
composite ty parts = declaration op.CONSTANT_COMPOSITE (Some ty) parts

abbrev pub variable : ℕ → ℕ → Option ℕ → Declaration
variable pointer class init = declaration op.VARIABLE (Some pointer) (class ∷ option_to_list init)
