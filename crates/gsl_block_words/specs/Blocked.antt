-- The words of blocks put into buffers, in words of which each is one call of the code.
use Rattle.std.specs.Prelude.{ℕ, Bool, not, ◌==◌, ◌&&◌, if◌then◌else◌, List, ◌∷◌}
use Rattle.gsl_base.specs.declared.input.Buffer.{Buffer}
use Rattle.gsl_types.specs.declared.ty.StructType.{StructType}
use Rattle.gsl_values.specs.declared.value.Value.{Value}
use Rattle.gsl_tree.specs.declared.unit.Block.{Block}
use Rattle.gsl_tree.specs.Laying.{layout_of}
use Rattle.gsl_tree.specs.WellTyped.{is_push}
use Rattle.gsl_meaning.specs.Blocks.{put_value}

-- whether the buffer at a set and binding is a block's
unfoldable pub stands_at : Block → ℕ → ℕ → Bool
stands_at block set binding = not (is_push block.kind) && (set == block.set && binding == block.binding)

-- the bytes of the buffer at a set and binding with the words of a block put, where it is that block's
unfoldable pub put_where : List StructType → Block → Value → ℕ → ℕ → List ℕ → List ℕ
put_where structs block v set binding bytes = if stands_at block set binding then put_value (layout_of structs block) 0 v bytes else bytes

-- the same of all blocks
abbrev pub put_into : List StructType → List Block → List Value → ℕ → ℕ → List ℕ → List ℕ
put_into structs (block ∷ blocks) (v ∷ vs) set binding bytes = put_into structs blocks vs set binding (put_where structs block v set binding bytes)
put_into structs _ _ set binding bytes = bytes

-- a buffer with the words of all blocks put
unfoldable pub put_all : List StructType → List Block → List Value → Buffer → Buffer
put_all structs blocks vs buffer = record buffer { bytes = put_into structs blocks vs buffer.set buffer.binding buffer.bytes }
