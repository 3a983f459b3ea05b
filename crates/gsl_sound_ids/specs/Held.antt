-- What ids stand for while a valid module runs: a value where their type is one of values, and a pointer that leads somewhere where it is
use Rattle.std.specs.Prelude.{◌≡◌, ℕ, ◌<◌, ◌⊎◌, Bool, true, false, ◌||◌, not, if◌then◌else◌, List, Option, Some, None}
use Rattle.gsl_base.specs.declared.input.Buffer.{Buffer}
use Rattle.gsl_base.specs.declared.input.Input.{Input}
use Rattle.gsl_instr.specs.declared.enumerant.decoration.TheConstants as decoration
use Rattle.gsl_instr.specs.declared.instruction.Instruction.{Instruction}
use Rattle.gsl_words.specs.declared.module.Module.{Module}
use Rattle.gsl_valid.specs.DecorationRules.{pointee}
use Rattle.gsl_valid.specs.Decorations.{number_on}
use Rattle.gsl_valid.specs.Ids.{defined}
use Rattle.gsl_valid.specs.Kinds.{Variable, type_of, variable_is}
use Rattle.gsl_valid.specs.LayoutRules.{is_in_block}
use Rattle.gsl_valid.specs.LocalityRules.{of_block, of_function}
use Rattle.gsl_valid.specs.Placed.{Code}
use Rattle.gsl_valid.specs.TypeRules.{is_component}
use Rattle.gsl_valid.specs.Types.{Target, defined_as, is_block_class, is_void, target_of}
use Rattle.gsl_machine.specs.Memory.{bytes_if, is_push}
use Rattle.gsl_machine.specs.State.{Held, Ids, InBlock, InVariable, Pointer, Points, Whole}

-- The id is a block's variable.
pub record IsBlock (m : Module) (id : ℕ) : Type 0 where
  pub variable : Variable
  pub is : variable_is (defined_as m id) ≡ Some variable
  pub class : is_block_class variable.class ≡ true

-- A type of what stands in a block: one that a block reaches, or that of a vector's components.
abbrev pub StandsInBlocks : Module → ℕ → Type 0
StandsInBlocks m type = (is_in_block m type ≡ true) ⊎ (is_component m type ≡ true)

-- A pointer leads into a block, or into one of so many variables.
abbrev pub LeadsSomewhere : Module → ℕ → Pointer → Type 0
LeadsSomewhere m count (InBlock variable offset pointee) = IsBlock m variable × StandsInBlocks m pointee
LeadsSomewhere m count (InVariable number path) = number < count

-- What is held is of a type that points to this, or to nothing.
abbrev pub IsOf : Module → ℕ → Option Target → Held → Type 0
IsOf m count None (Whole value) = Unit {0}
IsOf m count None (Points to) = ⊥
IsOf m count (Some target) (Whole value) = ⊥
IsOf m count (Some target) (Points to) = LeadsSomewhere m count to

-- Something is held, of a type.
pub record IsGiven (m : Module) (count type : ℕ) (held : Option Held) : Type 0 where
  pub it : Held
  pub is : held ≡ Some it
  pub of : IsOf m count (target_of (defined_as m type)) it

-- whether an id that an instruction defines may be used where a function and a block have these instructions
abbrev pub usable_as : Code → Code → ℕ → Option Instruction → Bool
usable_as body block id d = if of_block d then defined block id else (not (of_function d) || defined body id)

-- Each id that may be used and has a type stands for something of it, and each block's variable points to its start.
pub record Agrees (m : Module) (count : ℕ) (body block : Code) (ids : Ids) : Type 0 where
  pub given : (id type : ℕ) → type_of (defined_as m id) ≡ Some type → is_void m type ≡ false → usable_as body block id (defined_as m id) ≡ true → IsGiven m count type (ids id)
  pub blocks : (id : ℕ) (v : Variable) → variable_is (defined_as m id) ≡ Some v → is_block_class v.class ≡ true → ids id ≡ Some (Points (InBlock id 0 (pointee m v.type)))

-- the bytes of a block's variable, where these are the buffers
abbrev pub bytes_in : Module → Input → List Buffer → ℕ → Option (List ℕ)
bytes_in m input buffers variable =
    if is_push m variable then input.push else bytes_if buffers (number_on m decoration.DESCRIPTOR_SET variable) (number_on m decoration.BINDING variable)

-- There are bytes.
pub record HasBytes (bytes : Option (List ℕ)) : Type 0 where
  pub it : List ℕ
  pub is : bytes ≡ Some it

-- Each block's variable has its bytes.
pub record HaveBytes (m : Module) (input : Input) (buffers : List Buffer) : Type 0 where
  pub each : (id : ℕ) → IsBlock m id → HasBytes (bytes_in m input buffers id)
