-- The words of a block in the bytes of its buffer.
use Rattle.std.specs.Prelude.{ℕ, ◌+◌, not, ◌&&◌, if◌then◌else◌, List, [], ◌∷◌, map, Option, unwrap_or}
use Rattle.std.specs.List.{range_with_len}
use Rattle.gsl_base.specs.declared.input.Buffer.{Buffer}
use Rattle.gsl_base.specs.declared.input.Input.{Input}
use Rattle.gsl_types.specs.declared.ty.StructType.{StructType}
use Rattle.gsl_values.specs.declared.value.Value.{Value}
use Rattle.gsl_values.specs.declared.value.Value.TheVariants.{Many}
use Rattle.gsl_layout.specs.Layout.{Layout, Leaf, Array, Runtime, Group, Parts, End, Part}
use Rattle.gsl_views.specs.Buffers.{bytes_at, is_at, put_words}
use Rattle.gsl_views.specs.Seen.{Tree, Words, Many as Parted, seen}
use Rattle.gsl_tree.specs.declared.unit.Block.{Block}
use Rattle.gsl_tree.specs.Laying.{layout_of}
use Rattle.gsl_tree.specs.Values.{components_in, of_components, parts_in}
use Rattle.gsl_tree.specs.WellTyped.{is_push}

-- ---- from bytes

-- the value of a tree of words
abbrev pub value_of : Tree → Value
value_of (Words words) = of_components words
value_of (Parted count parts) = Many (map (λ i. value_of (parts i)) (range_with_len 0 count))

-- the bytes that are given for a block
abbrev pub given_bytes : Input → Block → Option (List ℕ)
given_bytes input block = if is_push block.kind then input.push else bytes_at input.buffers block.set block.binding

-- the words of a block's leaves as they are seen in its bytes
abbrev pub words_in : List StructType → Block → List ℕ → Value
words_in structs block bytes = value_of (seen (layout_of structs block) 0 bytes)

abbrev pub begun : List StructType → Input → Block → Value
begun structs input block = words_in structs block (unwrap_or (given_bytes input block) [])

-- ---- to bytes

-- values one stride behind the other
abbrev pub put_row : (ℕ → Value → List ℕ → List ℕ) → ℕ → ℕ → List Value → List ℕ → List ℕ
put_row put stride at [] bytes = bytes
put_row put stride at (v ∷ vs) bytes = put_row put stride (at + stride) vs (put at v bytes)

-- the bytes with each leaf of a value put where its layout has it
abbrev mutual
  pub put_value : Layout → ℕ → Value → List ℕ → List ℕ
  put_value (Leaf components) at v bytes = put_words at (components_in v) bytes
  put_value (Array stride count element) at v bytes = put_row (λ at v bytes. put_value element at v bytes) stride at (parts_in v) bytes
  put_value (Runtime stride element) at v bytes = put_row (λ at v bytes. put_value element at v bytes) stride at (parts_in v) bytes
  put_value (Group members all) at v bytes = put_members members at (parts_in v) bytes

  pub put_members : Parts → ℕ → List Value → List ℕ → List ℕ
  put_members End at vs bytes = bytes
  put_members (Part offset layout rest) at [] bytes = bytes
  put_members (Part offset layout rest) at (v ∷ vs) bytes = put_members rest at vs (put_value layout (at + offset) v bytes)

-- a buffer with the words of a block put, where it is that block's
abbrev pub put_block : List StructType → Block → Value → Buffer → Buffer
put_block structs block v buffer =
    if not (is_push block.kind) && is_at block.set block.binding buffer then record buffer { bytes = put_value (layout_of structs block) 0 v buffer.bytes }
    else buffer

-- the buffers with the words of all blocks put
abbrev pub put_blocks : List StructType → List Block → List Value → List Buffer → List Buffer
put_blocks structs (block ∷ blocks) (v ∷ vs) buffers = put_blocks structs blocks vs (map (put_block structs block v) buffers)
put_blocks structs _ _ buffers = buffers
