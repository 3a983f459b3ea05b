-- What is known of the members of a block so far, which thereby have a layout.
use Rattle.std.specs.Prelude.{◌≡◌, ℕ, ◌<◌, ◌≤◌, Bool, true, false, IsTrue, List, [], ◌∷◌, ◌++◌, length, min, Option, Some, None, is_some, Ok}
use Rattle.std.specs.List.{AllByRecursion}
use Rattle.gsl_base.specs.Checked.{Checked, ◌>>=◌}
use Rattle.gsl_syntax.specs.declared.declaration.Name.{Name}
use Rattle.gsl_types.specs.Known.{IsSound}
use Rattle.gsl_types.specs.declared.ty.Member.{Member}
use Rattle.gsl_types.specs.declared.ty.StructType.{StructType}
use Rattle.gsl_types.specs.declared.ty.Ty.{Ty}
use Rattle.gsl_layout.specs.Extents.{AreMembers, may_be_last, most_bytes, plain}
use Rattle.gsl_layout.specs.Layout.{need}
use Rattle.gsl_layout.specs.Measures.{misplaced_in, placed_members}
use Rattle.gsl_layout.specs.Outlines.{AreOutlined, most_told}
use Rattle.gsl_layout.specs.Placings.{end_of, last_first}
use Rattle.gsl_names.specs.declared.entry.Entry.TheVariants as entry
use Rattle.gsl_names.specs.Scopes.{declare}
use Rattle.gsl_tree.specs.declared.unit.Block.{Block}
use Rattle.gsl_tree.specs.declared.unit.BlockMember.{BlockMember}
use Rattle.gsl_tree.specs.Laying.{rule_of, members_of, placings_of, extent_of, layout_of}
use Rattle.gsl_check_expr.specs.declared.env.Env.{Env}
use Rattle.gsl_check_decl.specs.Globals.{with_block}
use Rattle.gsl_check_decl.specs.Tables.{members_above}
use Rattle.gsl_qualifiers.specs.declared.qualified.Qualified.{Qualified}
use Rattle.gsl_check_blocks.specs.declared.so_far.SoFar.{SoFar}
use Rattle.gsl_check_blocks.specs.Blocks.{may_be_block, with_need}

-- a type that the last member of a block may have
pub record IsMemberType (structs : List StructType) (t : Ty) : Type 0 where
  pub sound : IsSound (length structs) t
  pub ends : IsTrue (may_be_last t)

-- there are no members, or they are those of a block
abbrev pub MayEnd : List Member → Type 0
MayEnd [] = Unit {0}
MayEnd (member ∷ members) = AreMembers (member ∷ members)

-- Members stand where they may, and none of them is a runtime array unless the block has ended.
pub record Stand (std140 : Bool) (structs : List StructType) (ended : Bool) (members : List BlockMember) : Type 0 where
  pub sound : AllByRecursion (λ (member : Member). IsSound (length structs) member.ty) (members_of members)
  pub ends : MayEnd (members_of members)
  pub shut : ended ≡ false → AllByRecursion (λ (member : Member). IsTrue (plain member.ty)) (members_of members)
  pub placed : misplaced_in (rule_of std140) structs (members_of members) (placings_of members) ≡ None

-- the end of members in bytes, counted up to 2^32
unfoldable pub end_told : Bool → List StructType → List BlockMember → ℕ
end_told std140 structs members = min (end_of (last_first [] (placed_members (rule_of std140) structs (members_of members) (placings_of members)))) most_told

-- whether one of these members may not stand where it does
abbrev pub some_misplaced : Bool → List StructType → List BlockMember → Bool
some_misplaced std140 structs members = is_some (misplaced_in (rule_of std140) structs (members_of members) (placings_of members))

-- the end of members, or none where the last of them may not stand where it does
abbrev pub EndsBehind : Option ℕ → Bool → List StructType → List BlockMember → Type 0
EndsBehind None std140 structs members = some_misplaced std140 structs members ≡ true
EndsBehind (Some end) std140 structs members = (some_misplaced std140 structs members ≡ false) × (end ≡ end_told std140 structs members)

-- The table has the names of the members.
abbrev pub HasNames : SoFar → Type 0
HasNames all = all.names ≡ members_above [] (members_of all.members) ∷ []

-- Members stand, their names are in the table, and the end of the last is told.
pub record Stands (std140 : Bool) (structs : List StructType) (ended : Bool) (all : SoFar) : Type 0 where
  pub stand : Stand std140 structs ended all.members
  pub names : HasNames all
  pub outlined : AreOutlined (rule_of std140) structs all.outlines
  pub outlines : length all.outlines ≡ length structs
  pub end : all.end ≡ end_told std140 structs all.members

-- They are others with one more member, which ends there.
pub record AreWith (before : SoFar) (member : BlockMember) (reached : ℕ) (all : SoFar) : Type 0 where
  pub members : all.members ≡ before.members ++ member ∷ []
  pub names : all.names ≡ declare member.name entry.Size before.names
  pub outlines : all.outlines ≡ before.outlines
  pub end : all.end ≡ reached

-- how many bytes a block needs that is not too large
abbrev pub Needs : Option ℕ → List StructType → Block → Type 0
Needs (Some n) structs block = (extent_of structs block ≤ most_bytes) × (n ≡ need (layout_of structs block))
Needs None structs block = most_bytes < extent_of structs block

-- what is declared behind a block whose `need` is not known yet
unfoldable pub with_draft : Qualified → Name → Option Name → Block → Env → Checked Env
with_draft q name instance draft env = may_be_block env q name instance (with_need env.scene.structs draft)
    >>= (λ _. Ok (with_block (with_need env.scene.structs draft) env))
