-- Members of structs and blocks by their names (GLSL 4.50, 4.1.8 and 4.3.9).
use Rattle.std.specs.Prelude.{ℕ, ◌+◌, List, [], ◌∷◌, take, slice_get, Option, Some, None, if◌then◌else◌}
use Rattle.std.specs.Str.{bytes_eq}
use Rattle.gsl_types.specs.declared.ty.Member.{Member}
use Rattle.gsl_types.specs.declared.ty.Ty.{Ty}
use Rattle.gsl_types.specs.declared.ty.StructType.{StructType}
use Rattle.gsl_tree.specs.declared.unit.Block.{Block}
use Rattle.gsl_tree.specs.declared.unit.BlockMember.{BlockMember}
use Rattle.gsl_tree.specs.Expressions.{most_parts}

-- a member: its number, and its type
abbrev pub Found : Type 0
Found = ℕ × Ty

-- the first member of a name among some that stand from a number on
abbrev pub member_from : ℕ → List Member → List ℕ → Option Found
member_from number [] name = None
member_from number (member ∷ members) name = if bytes_eq member.name name then Some (number, member.ty) else member_from (number + 1) members name

abbrev pub members_in : Option StructType → List Member
members_in None = []
members_in (Some struct) = struct.members

-- the member of a name of the struct of a number; no struct has more members than are looked at
unfoldable pub struct_member : List StructType → ℕ → List ℕ → Option Found
struct_member structs number name = member_from 0 (take most_parts (members_in (slice_get structs number))) name

abbrev pub block_member_from : ℕ → List BlockMember → List ℕ → Option Found
block_member_from number [] name = None
block_member_from number (member ∷ members) name = if bytes_eq member.name name then Some (number, member.ty) else block_member_from (number + 1) members name

abbrev pub block_members_in : Option Block → List BlockMember
block_members_in None = []
block_members_in (Some block) = block.members

-- the member of a name of the block of a number; no block has more members than are looked at
unfoldable pub block_member_of : List Block → ℕ → List ℕ → Option Found
block_member_of blocks number name = block_member_from 0 (take most_parts (block_members_in (slice_get blocks number))) name
