-- The module of a program, section by section (SPIR-V 1.0, 2.4).
use Rattle.std.specs.Prelude.{ℕ, ◌+◌, ◌*◌, ◌==◌, if◌then◌else◌, List, [], ◌∷◌, ◌++◌, length, map, fold, replicate, codes, slice_index}
use Rattle.std.specs.List.{list_any, position_or_len, range_with_len, flat_map}
use Rattle.gsl_words.specs.declared.module.Instr.{Instr}
use Rattle.gsl_words.specs.declared.module.Module.{Module}
use Rattle.gsl_words.specs.declared.target.TheConstants.{VERSION_1_0}
use Rattle.gsl_instr.specs.declared.op.TheConstants as op
use Rattle.gsl_instr.specs.declared.enumerant.capability.TheConstants as capability
use Rattle.gsl_instr.specs.declared.enumerant.memory_model.TheConstants as memory_model
use Rattle.gsl_instr.specs.declared.enumerant.execution_model.TheConstants as execution_model
use Rattle.gsl_instr.specs.declared.enumerant.execution_mode.TheConstants as execution_mode
use Rattle.gsl_instr.specs.declared.enumerant.storage_class.TheConstants as storage_class
use Rattle.gsl_instr.specs.declared.enumerant.decoration.TheConstants as decoration
use Rattle.gsl_instr.specs.Strings.{string_words}
use Rattle.gsl_form.specs.declared.program.Term.{Term}
use Rattle.gsl_form.specs.declared.program.Term.TheVariants.{Member, Literal}
use Rattle.gsl_form.specs.declared.program.Statement.{Statement}
use Rattle.gsl_form.specs.declared.program.Program.{Program}
use Rattle.gsl_cmd.specs.declared.lowering.id.TheConstants as id
use Rattle.gsl_form.specs.Form.{Name, name_of}

abbrev pub Code : Type 0
Code = List Instr

abbrev pub instr : ℕ → List ℕ → Instr
instr op args = record { op = op; args = args }

abbrev pub literals_of : List Term → List ℕ
literals_of [] = []
literals_of (Member i ∷ terms) = literals_of terms
literals_of (Literal n ∷ terms) = n ∷ literals_of terms

-- the values that the code needs as constants: the members' numbers, then the literals as they come
abbrev pub values_used : Program → List ℕ
values_used p = range_with_len 0 (length p.members) ++ flat_map (λ s. literals_of s.terms) p.statements

-- a value has one constant, however often it is used
abbrev pub with_value : List ℕ → ℕ → List ℕ
with_value values value = if list_any (λ other. other == value) values then values else values ++ value ∷ []

-- the values of the module's constants, in the order of their ids
abbrev pub constants_of : Program → List ℕ
constants_of p = fold with_value [] (values_used p)

abbrev pub constant_id : List ℕ → ℕ → ℕ
constant_id constants value = id.FIRST_CONSTANT + position_or_len (λ other. other == value) constants

-- The code of a part is put before the code that follows it, and takes its ids from `next` on.
module _ (constants : List ℕ) where
  -- a pointer to a member of the buffer
  abbrev pub pointer : ℕ → ℕ → Instr
  pointer next member = instr op.ACCESS_CHAIN (id.MEMBER_POINTER ∷ next ∷ id.BUFFER ∷ constant_id constants member ∷ [])

  abbrev pub term_code : ℕ → Term → Code → Code
  term_code next (Member i) follows = pointer next i ∷ instr op.LOAD (id.INT ∷ (next + 1) ∷ next ∷ []) ∷ follows
  term_code next (Literal n) follows = follows

  -- how many ids a term takes
  abbrev pub term_ids : Term → ℕ
  term_ids (Member i) = 2
  term_ids (Literal n) = 0

  -- the id of its value
  abbrev pub term_value : ℕ → Term → ℕ
  term_value next (Member i) = next + 1
  term_value next (Literal n) = constant_id constants n

  -- what is added to the value so far, from left to right
  abbrev pub more_code : ℕ → ℕ → List Term → Code → Code
  more_code next value [] follows = follows
  more_code next value (term ∷ terms) follows =
      let sum = next + term_ids term in
      term_code next term (instr op.I_ADD (id.INT ∷ sum ∷ value ∷ term_value next term ∷ []) ∷ more_code (sum + 1) sum terms follows)

  abbrev pub more_ids : List Term → ℕ
  more_ids [] = 0
  more_ids (term ∷ terms) = term_ids term + 1 + more_ids terms

  abbrev pub more_value : ℕ → ℕ → List Term → ℕ
  more_value next value [] = value
  more_value next value (term ∷ terms) = more_value (next + term_ids term + 1) (next + term_ids term) terms

  abbrev pub sum_code : ℕ → List Term → Code → Code
  sum_code next [] follows = follows
  sum_code next (term ∷ terms) follows = term_code next term (more_code (next + term_ids term) (term_value next term) terms follows)

  abbrev pub sum_ids : List Term → ℕ
  sum_ids [] = 0
  sum_ids (term ∷ terms) = term_ids term + more_ids terms

  abbrev pub sum_value : ℕ → List Term → ℕ
  sum_value next [] = 0
  sum_value next (term ∷ terms) = more_value (next + term_ids term) (term_value next term) terms

  -- the sum, and then a store to the target
  abbrev pub statement_code : ℕ → Statement → Code → Code
  statement_code next s follows =
      let target = next + sum_ids s.terms in
      sum_code next s.terms (pointer target s.target ∷ instr op.STORE (target ∷ sum_value next s.terms ∷ []) ∷ follows)

  abbrev pub statement_ids : Statement → ℕ
  statement_ids s = sum_ids s.terms + 1

  abbrev pub statements_code : ℕ → List Statement → Code → Code
  statements_code next [] follows = follows
  statements_code next (s ∷ statements) follows = statement_code next s (statements_code (next + statement_ids s) statements follows)

  abbrev pub statements_ids : List Statement → ℕ
  statements_ids [] = 0
  statements_ids (s ∷ statements) = statement_ids s + statements_ids statements

  abbrev pub first_id : ℕ
  first_id = id.FIRST_CONSTANT + length constants

  abbrev pub function_code : List Statement → Code
  function_code statements =
      instr op.FUNCTION (id.VOID ∷ id.MAIN ∷ 0 ∷ id.MAIN_TYPE ∷ []) ∷ instr op.LABEL (id.ENTRY ∷ [])
      ∷ statements_code first_id statements (instr op.RETURN [] ∷ instr op.FUNCTION_END [] ∷ [])

  -- one instruction for each constant
  abbrev pub constant_code : Code
  constant_code = map (λ i. instr op.CONSTANT (id.INT ∷ (id.FIRST_CONSTANT + i) ∷ slice_index constants i ∷ [])) (range_with_len 0 (length constants))

abbrev pub preamble : Code
preamble =
    instr op.CAPABILITY (capability.SHADER ∷ [])
    ∷ instr op.MEMORY_MODEL (memory_model.LOGICAL ∷ memory_model.GLSL450 ∷ [])
    ∷ instr op.ENTRY_POINT (execution_model.GL_COMPUTE ∷ id.MAIN ∷ string_words (codes "main"))
    ∷ instr op.EXECUTION_MODE (id.MAIN ∷ execution_mode.LOCAL_SIZE ∷ 1 ∷ 1 ∷ 1 ∷ []) ∷ []

-- the names of the block and of its members
abbrev pub name_code : List Name → Code
name_code members =
    instr op.NAME (id.BLOCK ∷ string_words (codes "B"))
    ∷ map (λ i. instr op.MEMBER_NAME (id.BLOCK ∷ i ∷ string_words (name_of members i))) (range_with_len 0 (length members))

-- each member four bytes after the one before it; the buffer at set 0 and binding 0
abbrev pub decoration_code : ℕ → Code
decoration_code members =
    instr op.DECORATE (id.BLOCK ∷ decoration.BUFFER_BLOCK ∷ [])
    ∷ map (λ i. instr op.MEMBER_DECORATE (id.BLOCK ∷ i ∷ decoration.OFFSET ∷ (4 * i) ∷ [])) (range_with_len 0 members)
    ++ instr op.DECORATE (id.BUFFER ∷ decoration.DESCRIPTOR_SET ∷ 0 ∷ [])
    ∷ instr op.DECORATE (id.BUFFER ∷ decoration.BINDING ∷ 0 ∷ []) ∷ []

abbrev pub type_code : ℕ → Code
type_code members =
    instr op.TYPE_VOID (id.VOID ∷ [])
    ∷ instr op.TYPE_FUNCTION (id.MAIN_TYPE ∷ id.VOID ∷ [])
    ∷ instr op.TYPE_INT (id.INT ∷ 32 ∷ 1 ∷ [])
    ∷ instr op.TYPE_STRUCT (id.BLOCK ∷ replicate members id.INT)
    ∷ instr op.TYPE_POINTER (id.BLOCK_POINTER ∷ storage_class.UNIFORM ∷ id.BLOCK ∷ [])
    ∷ instr op.TYPE_POINTER (id.MEMBER_POINTER ∷ storage_class.UNIFORM ∷ id.INT ∷ []) ∷ []

abbrev pub variable_code : Code
variable_code = instr op.VARIABLE (id.BLOCK_POINTER ∷ id.BUFFER ∷ storage_class.UNIFORM ∷ []) ∷ []

-- the sections in their order
abbrev pub code_of : Program → Code
code_of p =
    preamble ++ name_code p.members ++ decoration_code (length p.members) ++ type_code (length p.members)
    ++ constant_code (constants_of p) ++ variable_code ++ function_code (constants_of p) p.statements

abbrev pub module_of : Program → Module
module_of p = record {
  version = VERSION_1_0;
  bound = first_id (constants_of p) + statements_ids (constants_of p) p.statements;
  instrs = code_of p;
}
