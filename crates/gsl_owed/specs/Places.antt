-- Where a module puts what a program declares: its stage, its blocks, its inputs and outputs, and their names.
use Rattle.std.specs.Prelude.{◌≡◌, ℕ, ◌+◌, Bool, true, false, ◌==◌, ◌&&◌, if◌then◌else◌, IsTrue, List, [], ◌∷◌, length, filter}
use Rattle.std.specs.List.{list_any, list_all}
use Rattle.gsl_base.specs.declared.stage.Stage.{Stage}
use Rattle.gsl_base.specs.declared.stage.Stage.TheVariants.{Vertex, Fragment, Compute}
use Rattle.gsl_instr.specs.declared.enumerant.decoration.TheConstants as decoration
use Rattle.gsl_instr.specs.declared.enumerant.execution_model.TheConstants as execution_model
use Rattle.gsl_instr.specs.declared.enumerant.storage_class.TheConstants as storage_class
use Rattle.gsl_instr.specs.declared.instruction.Instruction.{Instruction}
use Rattle.gsl_instr.specs.declared.instruction.Instruction.TheVariants as instruction
use Rattle.gsl_instr.specs.Strings.{string_words}
use Rattle.gsl_types.specs.declared.ty.StructType.{StructType}
use Rattle.gsl_words.specs.declared.module.Module.{Module}
use Rattle.gsl_words.specs.declared.target.TheConstants.{VERSION_1_0}
use Rattle.gsl_tree.specs.declared.program.Program.{Program}
use Rattle.gsl_tree.specs.declared.unit.Block.{Block}
use Rattle.gsl_tree.specs.declared.unit.BlockKind.{BlockKind}
use Rattle.gsl_tree.specs.declared.unit.BlockKind.TheVariants.{Uniform, Buffer, Push}
use Rattle.gsl_tree.specs.declared.unit.BlockMember.{BlockMember}
use Rattle.gsl_tree.specs.declared.unit.Interface.{Interface}
use Rattle.gsl_tree.specs.Laying.{layout_of}
use Rattle.gsl_tree.specs.Weights.{sum_over}
use Rattle.gsl_tree.specs.WellTyped.{is_push}
use Rattle.gsl_valid.specs.DecorationRules.{pointee}
use Rattle.gsl_valid.specs.Decorations.{has, member_has, number_on}
use Rattle.gsl_valid.specs.EntryRules.{model_of}
use Rattle.gsl_valid.specs.Instruction.{is_such, read}
use Rattle.gsl_valid.specs.Kinds.{OfStruct, Shape, Variable}
use Rattle.gsl_machine.specs.Interfaces.{all_variables, block_variables, local_size}
use Rattle.gsl_owed.specs.Types.{is_number, lies, shape_at, stands_for}

-- whether two truth values are one
abbrev pub same_truth : Bool → Bool → Bool
same_truth true b = b
same_truth false true = false
same_truth false false = true

-- how many items pass a test
abbrev pub count_of : {A : Type 0} → (A → Bool) → List A → ℕ
count_of test items = length (filter test items)

-- ---- the stage

abbrev pub model : Stage → ℕ
model Vertex = execution_model.VERTEX
model Fragment = execution_model.FRAGMENT
model Compute = execution_model.GL_COMPUTE

-- ---- names

abbrev pub bytes_equal : List ℕ → List ℕ → Bool
bytes_equal [] [] = true
bytes_equal [] (b ∷ bs) = false
bytes_equal (a ∷ as_) [] = false
bytes_equal (a ∷ as_) (b ∷ bs) = a == b && bytes_equal as_ bs

abbrev pub is_name_of : ℕ → List ℕ → Instruction → Bool
is_name_of id name (instruction.Name target text) = target == id && bytes_equal text (string_words name)
is_name_of id name _ = false

abbrev pub is_member_name_of : ℕ → ℕ → List ℕ → Instruction → Bool
is_member_name_of id number name (instruction.MemberName target member text) = target == id && member == number && bytes_equal text (string_words name)
is_member_name_of id number name _ = false

abbrev pub is_debug : Instruction → Bool
is_debug (instruction.Name target text) = true
is_debug (instruction.MemberName target member text) = true
is_debug _ = false

abbrev pub has_such : Module → (Instruction → Bool) → Bool
has_such m test = list_any (λ i. is_such test (read i)) m.instrs

-- one for each block and one for each of its members
abbrev pub names_of : Program → ℕ
names_of p = sum_over (λ (b : Block). 1 + length b.members) p.blocks

-- ---- blocks

module _ (m : Module) where
  -- version 1.0 has its storage blocks in the class Uniform
  abbrev pub class_of : BlockKind → ℕ
  class_of Uniform = storage_class.UNIFORM
  class_of Buffer = if m.version == VERSION_1_0 then storage_class.UNIFORM else storage_class.STORAGE_BUFFER
  class_of Push = storage_class.PUSH_CONSTANT

  abbrev pub mark_of : BlockKind → ℕ
  mark_of Uniform = decoration.BLOCK
  mark_of Buffer = if m.version == VERSION_1_0 then decoration.BUFFER_BLOCK else decoration.BLOCK
  mark_of Push = decoration.BLOCK

  -- a push constant block has no set and binding
  abbrev pub is_bound : Block → ℕ → Bool
  is_bound b id = if is_push b.kind then true else is_number b.set (number_on m decoration.DESCRIPTOR_SET id) && is_number b.binding (number_on m decoration.BINDING id)

  -- a member's words, each with the decoration that it has exactly then
  abbrev pub is_marked : ℕ → ℕ → BlockMember → Bool
  is_marked struct number member =
      same_truth (member_has m decoration.NON_WRITABLE struct number) member.readonly && same_truth (member_has m decoration.NON_READABLE struct number) member.writeonly
      && same_truth (member_has m decoration.COHERENT struct number) member.coherent && same_truth (member_has m decoration.VOLATILE struct number) member.volatile

  -- members, numbered from one on, have their types, marks and names
  abbrev pub members_stand : List StructType → ℕ → ℕ → List BlockMember → List ℕ → Bool
  members_stand structs struct number [] [] = true
  members_stand structs struct number [] (type ∷ types) = false
  members_stand structs struct number (member ∷ members) [] = false
  members_stand structs struct number (member ∷ members) (type ∷ types) =
      stands_for m structs member.ty type && is_marked struct number member && has_such m (is_member_name_of struct number member.name)
      && members_stand structs struct (number + 1) members types

  abbrev pub struct_stands : List StructType → List BlockMember → Shape → Bool
  struct_stands structs members (OfStruct struct types) = members_stand structs struct 0 members types
  struct_stands structs members _ = false

  -- whether a variable is that of a block: of its class, set and binding, with a struct of its members, each where its layout has it
  abbrev pub is_block_of : List StructType → Block → Variable → Bool
  is_block_of structs b v =
      v.class == class_of b.kind && is_bound b v.id && has m (mark_of b.kind) (pointee m v.type)
      && struct_stands structs b.members (shape_at m (pointee m v.type)) && lies m (layout_of structs b) (pointee m v.type)
      && has_such m (is_name_of (pointee m v.type) b.name)

  -- ---- inputs and outputs

  abbrev pub interface_class : Interface → ℕ
  interface_class i = if i.output then storage_class.OUTPUT else storage_class.INPUT

  abbrev pub is_interface_of : List StructType → Interface → Variable → Bool
  is_interface_of structs i v =
      v.class == interface_class i && is_number i.location (number_on m decoration.LOCATION v.id) && stands_for m structs i.ty (pointee m v.type)
      && same_truth (has m decoration.FLAT v.id) i.flat

  abbrev pub is_located : Variable → Bool
  is_located v = has m decoration.LOCATION v.id

-- The module puts everything where it belongs: the stage and the size of a work group; one variable for each block, with its members where
-- their layout has them, and no others of their classes; one for each input and output, and no other with a location; the
-- names of blocks and of their members, and no others.
pub record Places (m : Module) (p : Program) : Type 0 where
  pub stage : model_of m.instrs ≡ model p.stage
  pub size : p.stage ≡ Compute → local_size m ≡ p.local_size
  pub blocks : IsTrue (list_all (λ (b : Block). count_of (is_block_of m p.structs b) (all_variables m) == 1) p.blocks)
  pub no_other_block : length (block_variables m) ≡ length p.blocks
  pub interfaces : IsTrue (list_all (λ (i : Interface). count_of (is_interface_of m p.structs i) (all_variables m) == 1) p.interfaces)
  pub no_other_location : count_of (is_located m) (all_variables m) ≡ length p.interfaces
  pub names : count_of (λ i. is_such is_debug (read i)) m.instrs ≡ names_of p
