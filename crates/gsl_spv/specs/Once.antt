-- What is declared once: plain types, function types and constants (SPIR-V 1.0, 2.8).
use Rattle.std.specs.Prelude.{◌≡◌, ℕ, ◌==◌, nat_eq, Bool, ◌||◌, if◌then◌else◌, List, [], ◌∷◌, ◌++◌, Option, option_to_list}
use Rattle.std.specs.List.{flat_map}
use Rattle.std.specs.Map.{lookup}
use Rattle.std.specs.Cmp.Lexicographic.{pointwise}
use Rattle.gsl_words.specs.declared.module.Instr.{Instr}
use Rattle.gsl_instr.specs.declared.op.TheConstants as op
use Rattle.gsl_instr.specs.declared.enumerant.storage_class.TheConstants as storage_class
use Rattle.gsl_spv.specs.Declarations.{Declaration, defining}

-- A declaration's opcode and its operands, without the id.
abbrev pub Key : Type 0
Key = List ℕ

abbrev pub key_of : Declaration → Key
key_of d = d.op ∷ option_to_list d.ty ++ d.operands

-- whether these are the same
abbrev pub same : Key → Key → Bool
same a b = pointwise nat_eq a b

-- the opcodes of the types that are declared once
abbrev pub is_type : ℕ → Bool
is_type o = o == op.TYPE_VOID || o == op.TYPE_BOOL || o == op.TYPE_INT || o == op.TYPE_VECTOR || o == op.TYPE_POINTER || o == op.TYPE_FUNCTION

-- the opcodes of constants
abbrev pub is_constant : ℕ → Bool
is_constant o = o == op.CONSTANT_TRUE || o == op.CONSTANT_FALSE || o == op.CONSTANT || o == op.CONSTANT_COMPOSITE || o == op.CONSTANT_NULL

abbrev pub type_entry : ℕ → List ℕ → List (Key × ℕ)
type_entry o [] = []
type_entry o (id ∷ operands) = (o ∷ operands, id) ∷ []

abbrev pub constant_entry : ℕ → List ℕ → List (Key × ℕ)
constant_entry o [] = []
constant_entry o (ty ∷ []) = []
constant_entry o (ty ∷ id ∷ operands) = (o ∷ ty ∷ operands, id) ∷ []

-- what an instruction declares once, with its id
abbrev pub entry_of : Instr → List (Key × ℕ)
entry_of i = if is_type i.op then type_entry i.op i.args else if is_constant i.op then constant_entry i.op i.args else []

-- what instructions declare once, with the ids
abbrev pub entries : List Instr → List (Key × ℕ)
entries code = flat_map entry_of code

-- the id that instructions give a declaration, the first that they give it
abbrev pub id_of : Declaration → List Instr → Option ℕ
id_of d code = lookup (same (key_of d)) (entries code)

abbrev pub variable_interface : List ℕ → List ℕ
variable_interface [] = []
variable_interface (pointer ∷ []) = []
variable_interface (pointer ∷ id ∷ []) = []
variable_interface (pointer ∷ id ∷ class ∷ more) = if class == storage_class.INPUT || class == storage_class.OUTPUT then id ∷ [] else []

-- the ids of global variables that an entry point names (SPIR-V 1.0, 3.32.5 OpEntryPoint)
abbrev pub interface_at : Instr → List ℕ
interface_at i = if i.op == op.VARIABLE then variable_interface i.args else []

-- those of the input and output variables, in their order
abbrev pub interface_of : List Instr → List ℕ
interface_of code = flat_map interface_at code

-- The declaration is one of those that are made once.
pub record IsOnce (d : Declaration) : Type 0 where
  pub entry : (id : ℕ) → entry_of (defining d id) ≡ (key_of d, id) ∷ []
  pub interface : (id : ℕ) → interface_at (defining d id) ≡ []

-- The declaration is no such, nor an input or output variable.
pub record IsAnew (d : Declaration) : Type 0 where
  pub entry : (id : ℕ) → entry_of (defining d id) ≡ []
  pub interface : (id : ℕ) → interface_at (defining d id) ≡ []
