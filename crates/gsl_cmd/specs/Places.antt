-- Where a module puts what a program declares: its stage, its buffer with the members' offsets, and its names.
use Rattle.std.specs.Prelude.{◌≡◌, ℕ, ◌+◌, Bool, true, false, List, [], ◌∷◌, length, filter_map, replicate, codes, Option, Some, None, if◌then◌else◌}
use Rattle.gsl_words.specs.declared.module.Module.{Module}
use Rattle.gsl_instr.specs.declared.enumerant.execution_model.TheConstants as execution_model
use Rattle.gsl_instr.specs.declared.enumerant.execution_mode.TheConstants as execution_mode
use Rattle.gsl_instr.specs.declared.enumerant.storage_class.TheConstants as storage_class
use Rattle.gsl_instr.specs.declared.enumerant.decoration.TheConstants as decoration
use Rattle.gsl_instr.specs.Strings.{string_words}
use Rattle.gsl_instr.specs.declared.instruction.Instruction.{Instruction}
use Rattle.gsl_instr.specs.declared.instruction.Instruction.TheVariants as instruction
use Rattle.gsl_valid.specs.Instruction.{read}
use Rattle.gsl_valid.specs.Placed.{Code}
use Rattle.gsl_valid.specs.Types.{defined_as}
use Rattle.gsl_valid.specs.Kinds.{On}
use Rattle.gsl_valid.specs.Decorations.{literals_on, number_on}
use Rattle.gsl_form.specs.declared.program.Program.{Program}
use Rattle.gsl_form.specs.Form.{Name as Text}
use Rattle.gsl_cmd.specs.Layout.{offsets, member_types}

-- an instruction, if there is one and it is of a class
abbrev pub if_such : (Instruction → Bool) → Option Instruction → Option Instruction
if_such of_class None = None
if_such of_class (Some i) = if of_class i then Some i else None

-- the instructions of a class
abbrev pub those : (Instruction → Bool) → Code → List Instruction
those of_class code = filter_map (λ i. if_such of_class (read i)) code

-- entry points
abbrev pub is_entry : Instruction → Bool
is_entry (instruction.EntryPoint model function name interface) = true
is_entry _ = false

-- modes of entry points
abbrev pub is_mode : Instruction → Bool
is_mode (instruction.ExecutionMode function mode parts) = true
is_mode _ = false

-- variables
abbrev pub is_variable : Instruction → Bool
is_variable (instruction.Variable type r class initialiser) = true
is_variable _ = false

-- names
abbrev pub is_name : Instruction → Bool
is_name (instruction.Name target text) = true
is_name (instruction.MemberName target member text) = true
is_name _ = false

-- decorations of members
abbrev pub is_of_member : Instruction → Bool
is_of_member (instruction.MemberDecorate target member d literals) = true
is_of_member _ = false

-- the names of members, numbered from one on
abbrev pub member_names : ℕ → ℕ → List Text → List Instruction
member_names block member [] = []
member_names block member (name ∷ names) = instruction.MemberName block member (string_words name) ∷ member_names block (member + 1) names

-- the offsets of members, numbered from one on
abbrev pub member_offsets : ℕ → ℕ → List ℕ → List Instruction
member_offsets block member [] = []
member_offsets block member (offset ∷ offsets) = instruction.MemberDecorate block member decoration.OFFSET (offset ∷ []) ∷ member_offsets block (member + 1) offsets

-- The module places the program, with its entry point, its types `int` and of the block, and its one variable by their ids.
pub record Places (m : Module) (p : Program) : Type 0 where
  pub main : ℕ
  pub int : ℕ
  pub block : ℕ
  pub pointer : ℕ
  pub buffer : ℕ
  -- the entry point is that of a compute shader, of one invocation a group
  pub entry : those is_entry m.instrs ≡ instruction.EntryPoint execution_model.GL_COMPUTE main (string_words (codes "main")) [] ∷ []
  pub mode : those is_mode m.instrs ≡ instruction.ExecutionMode main execution_mode.LOCAL_SIZE (1 ∷ 1 ∷ 1 ∷ []) ∷ []
  -- one variable, which is the buffer at set 0 and binding 0
  pub variable : those is_variable m.instrs ≡ instruction.Variable pointer buffer storage_class.UNIFORM [] ∷ []
  pub points : defined_as m pointer ≡ Some (instruction.TypePointer pointer storage_class.UNIFORM block)
  pub set : number_on m decoration.DESCRIPTOR_SET buffer ≡ Some 0
  pub binding : number_on m decoration.BINDING buffer ≡ Some 0
  -- its struct is a buffer's block of `int` members, each at its offset and with no other decoration
  pub buffer_block : literals_on m.instrs (On block) decoration.BUFFER_BLOCK ≡ Some []
  pub struct : defined_as m block ≡ Some (instruction.TypeStruct block (replicate (length p.members) int))
  pub ints : defined_as m int ≡ Some (instruction.TypeInt int 32 1)
  pub offset : those is_of_member m.instrs ≡ member_offsets block 0 (offsets (member_types p))
  -- the block and its members have their names, and nothing else has one
  pub names : those is_name m.instrs ≡ instruction.Name block (string_words (codes "B")) ∷ member_names block 0 p.members
