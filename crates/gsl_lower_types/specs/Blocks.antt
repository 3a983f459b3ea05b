-- Blocks as variables of a module: the struct type of a block with its marks and names, and its variable with its set and binding
-- (SPIR-V 1.0, 3.7 and 3.20).
use Rattle.std.specs.Prelude.{ℕ, ◌+◌, Bool, true, false, if◌then◌else◌, List, [], ◌∷◌, map, Some, None}
use Rattle.gsl_instr.specs.declared.enumerant.decoration.TheConstants as decoration
use Rattle.gsl_instr.specs.declared.enumerant.storage_class.TheConstants as storage_class
use Rattle.gsl_layout.specs.Layout.{Layout, members_of}
use Rattle.gsl_types.specs.declared.ty.StructType.{StructType}
use Rattle.gsl_types.specs.declared.ty.Ty.{Ty}
use Rattle.gsl_words.specs.declared.target.Target.{Target}
use Rattle.gsl_words.specs.declared.target.Target.TheVariants.{V10, V13}
use Rattle.gsl_tree.specs.Laying.{layout_of}
use Rattle.gsl_tree.specs.declared.unit.Block.{Block}
use Rattle.gsl_tree.specs.declared.unit.BlockKind.{BlockKind}
use Rattle.gsl_tree.specs.declared.unit.BlockKind.TheVariants.{Uniform, Buffer, Push}
use Rattle.gsl_tree.specs.declared.unit.BlockMember.{BlockMember}
use Rattle.gsl_lower_values.specs.Building.{Step, ◌>>=◌, given}
use Rattle.gsl_lower_types.specs.Declaring.{decorated, named, variable_in}
use Rattle.gsl_lower_types.specs.Known.{Known, Put, aside}
use Rattle.gsl_lower_types.specs.Laid.{grouped, types_laid}
use Rattle.gsl_lower_types.specs.declared.blocks.LaidTypes.{LaidTypes}

-- ---- what a kind of block is in a module

-- version 1.0 has its storage blocks in the class Uniform
abbrev pub storage_class_of : Target → ℕ
storage_class_of V10 = storage_class.UNIFORM
storage_class_of V13 = storage_class.STORAGE_BUFFER

abbrev pub class_of : Target → BlockKind → ℕ
class_of target Uniform = storage_class.UNIFORM
class_of target Buffer = storage_class_of target
class_of target Push = storage_class.PUSH_CONSTANT

abbrev pub storage_mark_of : Target → ℕ
storage_mark_of V10 = decoration.BUFFER_BLOCK
storage_mark_of V13 = decoration.BLOCK

abbrev pub mark_of : Target → BlockKind → ℕ
mark_of target Uniform = decoration.BLOCK
mark_of target Buffer = storage_mark_of target
mark_of target Push = decoration.BLOCK

-- ---- members

-- a member with a decoration, where a word stands on it
abbrev pub marked : ℕ → ℕ → ℕ → Bool → Step (Unit {0})
marked id number what word = if word then decorated id (Some number) what None else given tt

-- the marks of a member and its name; the word `restrict` leaves no mark
unfoldable pub member_marked : ℕ → ℕ → BlockMember → Step (Unit {0})
member_marked id number member =
    marked id number decoration.NON_WRITABLE member.readonly >>= (λ a. marked id number decoration.NON_READABLE member.writeonly >>= (λ b.
    marked id number decoration.COHERENT member.coherent >>= (λ c. marked id number decoration.VOLATILE member.volatile >>= (λ d. named id (Some number) member.name))))

-- members, numbered from one on
unfoldable pub members_marked : ℕ → ℕ → List BlockMember → Step (Unit {0})
members_marked id number [] = given tt
members_marked id number (member ∷ members) = member_marked id number member >>= (λ done. members_marked id (number + 1) members)

-- ---- the struct of a block

abbrev pub member_types_of : List BlockMember → List Ty
member_types_of members = map (λ (member : BlockMember). member.ty) members

-- a struct type of its own for each block
abbrev pub block_laid : List StructType → Layout → Block → Put ℕ
block_laid structs layout block = grouped (members_of layout) (types_laid structs (members_of layout) (member_types_of block.members))

abbrev pub block_marked : Target → Block → ℕ → Step (Unit {0})
block_marked target block id =
    decorated id None (mark_of target block.kind) None >>= (λ a. named id None block.name >>= (λ b. members_marked id 0 block.members))

-- ---- its variable

-- a push constant block has no set and binding
abbrev pub bound_by : BlockKind → ℕ → ℕ → ℕ → Step (Unit {0})
bound_by Push set binding id = given tt
bound_by _ set binding id = decorated id None decoration.DESCRIPTOR_SET (Some set) >>= (λ done. decorated id None decoration.BINDING (Some binding))

-- a variable of a struct type
abbrev pub block_variable : Target → Block → ℕ → Step ℕ
block_variable target block struct =
    variable_in (class_of target block.kind) struct None >>= (λ id. bound_by block.kind block.set block.binding id >>= (λ done. given id))

abbrev pub block_by : Target → Block → ℕ → Step ℕ
block_by target block struct = block_marked target block struct >>= (λ done. block_variable target block struct)

-- a block, by what is known of the types that its rule lays out: the id of its variable
unfoldable pub block_put : Target → List StructType → Block → Put ℕ
block_put target structs block known = block_laid structs (layout_of structs block) block known >>= (λ r. aside (block_by target block r.0) r.1)

-- ---- all blocks

-- what is known of the types by std140 and by std430, which lay them out differently
abbrev pub with_std140 : LaidTypes → ℕ × Known → Step (ℕ × LaidTypes)
with_std140 laid r = given (r.0, record laid { std140 = r.1 })

abbrev pub with_std430 : LaidTypes → ℕ × Known → Step (ℕ × LaidTypes)
with_std430 laid r = given (r.0, record laid { std430 = r.1 })

abbrev pub by_rule : Bool → (Known → Step (ℕ × Known)) → LaidTypes → Step (ℕ × LaidTypes)
by_rule true put laid = put laid.std140 >>= with_std140 laid
by_rule false put laid = put laid.std430 >>= with_std430 laid

unfoldable pub block_in : Target → List StructType → Block → LaidTypes → Step (ℕ × LaidTypes)
block_in target structs block laid = by_rule block.std140 (block_put target structs block) laid

-- the variables of blocks, in their order
unfoldable pub blocks_put : Target → List StructType → List Block → LaidTypes → Step (List ℕ × LaidTypes)
blocks_put target structs [] laid = given ([], laid)
blocks_put target structs (block ∷ blocks) laid =
    block_in target structs block laid >>= (λ r. blocks_put target structs blocks r.1 >>= (λ rs. given (r.0 ∷ rs.0, rs.1)))

-- their storage classes
abbrev pub classes_of : Target → List Block → List ℕ
classes_of target blocks = map (λ (block : Block). class_of target block.kind) blocks
