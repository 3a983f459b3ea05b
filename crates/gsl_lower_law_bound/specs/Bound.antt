-- The variables of blocks in the module of a program: what each stands for, and where what is in it lies (SPIR-V 1.0, 3.20 and 3.32.8).
use Rattle.std.specs.Prelude.{◌≡◌, ℕ, true, false, List, Some}
use Rattle.gsl_instr.specs.declared.enumerant.decoration.TheConstants as decoration
use Rattle.gsl_types.specs.declared.ty.StructType.{StructType}
use Rattle.gsl_words.specs.declared.module.Module.{Module}
use Rattle.gsl_tree.specs.Laying.{layout_of}
use Rattle.gsl_tree.specs.WellTyped.{is_push}
use Rattle.gsl_tree.specs.declared.unit.Block.{Block}
use Rattle.gsl_valid.specs.DecorationRules.{pointee}
use Rattle.gsl_valid.specs.Decorations.{number_on}
use Rattle.gsl_valid.specs.Kinds.{Variable, variable_is}
use Rattle.gsl_valid.specs.Types.{defined_as, is_block_class}
use Rattle.gsl_machine.specs.Memory as memory
use Rattle.gsl_owed.specs.Types.{lies}
pub use Rattle.gsl_lower_follows.specs.Sizes.{IsShort}

-- The variable of an id is that of a block: it is of a class of blocks, what it holds lies by the block's layout, and its bytes are the push constants or those at the block's set and binding.
pub record IsBound (m : Module) (structs : List StructType) (block : Block) (id : ℕ) : Type 0 where
  pub variable : Variable
  pub is : variable_is (defined_as m id) ≡ Some variable
  pub class : is_block_class variable.class ≡ true
  pub push : memory.is_push m id ≡ is_push block.kind
  pub lie : lies m (layout_of structs block) (pointee m variable.type) ≡ true
  pub set : is_push block.kind ≡ false → number_on m decoration.DESCRIPTOR_SET id ≡ Some block.set
  pub binding : is_push block.kind ≡ false → number_on m decoration.BINDING id ≡ Some block.binding
