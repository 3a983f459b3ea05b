-- Where the members of a block stand, and how many bytes its buffer must have (GLSL 4.50, 4.4.5).
use Rattle.std.specs.Prelude.{◌≡◌, ℕ, ◌≤◌, Bool, true, false, List, [], ◌∷◌, Option, None}
use Rattle.gsl_types.specs.declared.ty.Member.{Member}
use Rattle.gsl_types.specs.declared.ty.StructType.{StructType}
use Rattle.gsl_layout.specs.declared.placing.Placing.{Placing}
use Rattle.gsl_layout.specs.Extents.{extent, most_bytes}
use Rattle.gsl_layout.specs.Layout.{Layout, need}
use Rattle.gsl_layout.specs.Measures as measures
use Rattle.gsl_layout.specs.Rules.{raise_std140, raise_std430}
use Rattle.gsl_tree.specs.declared.unit.Block.{Block}
use Rattle.gsl_tree.specs.declared.unit.BlockMember.{BlockMember}

-- the rule of a block, by whether it is std140
abbrev pub rule_of : Bool → ℕ → ℕ
rule_of true = raise_std140
rule_of false = raise_std430

abbrev pub members_of : List BlockMember → List Member
members_of [] = []
members_of (member ∷ members) = record { name = member.name; ty = member.ty } ∷ members_of members

-- what the members say of their places
abbrev pub placings_of : List BlockMember → List Placing
placings_of [] = []
placings_of (member ∷ members) = record { offset = member.offset; align = member.align } ∷ placings_of members

-- the larger of the size of a block and the largest stride of its runtime arrays
abbrev pub extent_of : List StructType → Block → ℕ
extent_of structs block = extent (measures.block (rule_of block.std140) structs (members_of block.members) (placings_of block.members))

-- the layout of a block
abbrev pub layout_of : List StructType → Block → Layout
layout_of structs block = (measures.block (rule_of block.std140) structs (members_of block.members) (placings_of block.members)).laid

-- the number of its first member that may not stand where its `offset` and `align` say
abbrev pub misplaced_of : List StructType → Block → Option ℕ
misplaced_of structs block = measures.misplaced_in (rule_of block.std140) structs (members_of block.members) (placings_of block.members)

-- Each member may stand where it does, the block and the strides of its runtime arrays are not too large, and its `need` is the end of its
-- last leaf or the offset of its runtime array.
pub record IsLaid (structs : List StructType) (block : Block) : Type 0 where
  pub placed : misplaced_of structs block ≡ None
  pub small : extent_of structs block ≤ most_bytes
  pub need : block.need ≡ need (layout_of structs block)
