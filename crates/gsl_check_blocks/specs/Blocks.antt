-- Blocks and their members (GLSL 4.50, 4.3.9 and 4.4.5; GL_KHR_vulkan_glsl).
use Rattle.std.specs.Prelude.{ℕ, Bool, true, false, not, ◌&&◌, ◌||◌, nat_le, nat_lt, List, [], ◌∷◌, ◌++◌, map, length, Option, Some, None, is_none, is_some, unwrap_or, Ok}
use Rattle.std.specs.List.{list_any}
use Rattle.std.specs.Str.{bytes_eq}
use Rattle.gsl_base.specs.Checked.{Checked, ◌>>=◌}
use Rattle.gsl_base.specs.declared.fault.Place.{Place}
use Rattle.gsl_base.specs.declared.fault.Code.TheVariants.{E0403, E0404, E0510, E0706, E0707, E0708, E0709, E0905, E0908}
use Rattle.gsl_syntax.specs.declared.declaration.Name.{Name}
use Rattle.gsl_syntax.specs.declared.declaration.Declared.{Declared}
use Rattle.gsl_syntax.specs.declared.declaration.Member.{Member as MemberLine}
use Rattle.gsl_syntax.specs.declared.declaration.Qual.{Qual}
use Rattle.gsl_types.specs.declared.ty.StructType.{StructType}
use Rattle.gsl_types.specs.declared.ty.Ty.{Ty}
use Rattle.gsl_types.specs.declared.ty.Ty.TheVariants as ty
use Rattle.gsl_layout.specs.Layout.{need}
use Rattle.gsl_layout.specs.Extents.{most_bytes}
use Rattle.gsl_layout.specs.Measures.{misplaced_in}
use Rattle.gsl_tree.specs.declared.unit.Block.{Block}
use Rattle.gsl_tree.specs.declared.unit.BlockKind.{BlockKind}
use Rattle.gsl_tree.specs.declared.unit.BlockKind.TheVariants as kind
use Rattle.gsl_tree.specs.declared.unit.BlockMember.{BlockMember}
use Rattle.gsl_tree.specs.Expressions.{most_parts}
use Rattle.gsl_tree.specs.Laying.{rule_of, members_of, placings_of, extent_of, layout_of}
use Rattle.gsl_tree.specs.WellTyped.{push_blocks}
use Rattle.gsl_typing.specs.declared.scene.Scene.{Scene}
use Rattle.gsl_typing.specs.Rows.{unless}
use Rattle.gsl_check_expr.specs.declared.env.Env.{Env}
use Rattle.gsl_check_expr.specs.declared.writing.Written.{Written}
use Rattle.gsl_check_expr.specs.declared.writing.Written.TheVariants.{Whole, Open}
use Rattle.gsl_check_expr.specs.Expressions.{bracket}
use Rattle.gsl_check_expr.specs.Written.{written_type, declared}
use Rattle.gsl_check_decl.specs.Declaring.{is_declared, is_reserved, may_be_had, is_high}
use Rattle.gsl_check_decl.specs.Globals.{with_block}
use Rattle.gsl_qualifiers.specs.declared.qualified.Role.{Role}
use Rattle.gsl_qualifiers.specs.declared.qualified.Role.TheVariants.{Variable, Input, Output, Uniform, Buffer, Push, Member, Size, Nothing}
use Rattle.gsl_qualifiers.specs.declared.qualified.Qualified.{Qualified}
use Rattle.gsl_qualifiers.specs.Qualifiers.{qualified}
use Rattle.gsl_check_blocks.specs.declared.frame.Frame.{Frame}

-- ---- one member

-- the type of a member: one whose size is left out is a runtime array
abbrev pub member_type : Written → Ty
member_type (Whole t) = t
member_type (Open place element) = ty.Runtime element

-- the type that must be one of variables: of a runtime array that of its elements
abbrev pub had_type : Written → Ty
had_type (Whole t) = t
had_type (Open place element) = element

abbrev pub is_open : Written → Bool
is_open (Whole t) = false
is_open (Open place element) = true

-- one of the members has this name
unfoldable pub has_member : List BlockMember → List ℕ → Bool
has_member members name = list_any (λ (member : BlockMember). bytes_eq member.name name) members

-- the name of a member of this block, or, where its members are names of their own, one that is declared already
unfoldable pub is_taken : Frame → Env → List BlockMember → List ℕ → Bool
is_taken frame env members name = has_member members name || (frame.bare && is_declared env name)

-- a runtime array that is not the last member of a buffer block
unfoldable pub is_misplaced_array : Frame → Bool → Written → Bool
is_misplaced_array frame last t = is_open t && not (frame.buffer && last)

abbrev pub either : Option ℕ → Option ℕ → Option ℕ
either None other = other
either (Some n) other = Some n

abbrev pub offset_in : Option (Place × ℕ) → Option ℕ
offset_in None = None
offset_in (Some at) = Some at.1

abbrev pub offset_place : Place → Option (Place × ℕ) → Place
offset_place place None = place
offset_place place (Some at) = at.0

-- The member that is declared. Words on the block serve each member, its `align` those that have none of their own.
abbrev pub member_of : Frame → Qualified → Name → Ty → BlockMember
member_of frame q name t = record {
  name = name.text;
  ty = t;
  readonly = q.readonly || frame.said.readonly;
  writeonly = q.writeonly || frame.said.writeonly;
  coherent = q.coherent || frame.said.coherent;
  volatile = q.volatile || frame.said.volatile;
  restrict = q.restrict || frame.said.restrict;
  offset = offset_in q.offset;
  align = either q.align frame.said.align;
  place = name.place;
}

-- the last of these members may not stand where its `offset` says
unfoldable pub is_misplaced : Frame → Scene → List BlockMember → Bool
is_misplaced frame scene members = is_some (misplaced_in (rule_of frame.std140) scene.structs (members_of members) (placings_of members))

-- a member may be declared behind these, by its name and its type
unfoldable pub may_be_member : Frame → Bool → Env → Name → Written → List BlockMember → Checked (Unit {0})
may_be_member frame last env name t members = unless name.place (
    (E0403, is_taken frame env members name.text)
    ∷ (E0404, is_reserved name.text)
    ∷ (E0510, not (may_be_had env.scene (had_type t)))
    ∷ (E0708, is_misplaced_array frame last t)
    ∷ []
    )
    (Ok tt)

-- It may stand where it does; a wrong `offset` is the fault of that name.
unfoldable pub may_stand : Env → Frame → Qualified → Name → List BlockMember → BlockMember → Checked (Unit {0})
may_stand env frame q name members member =
    unless (offset_place name.place q.offset) ((E0709, is_misplaced frame env.scene (members ++ member ∷ [])) ∷ [])
    (unless name.place ((E0908, is_high env.scene member.ty) ∷ []) (Ok tt))

-- the members with one more
unfoldable pub with_member : Frame → Bool → Env → Qualified → Name → Written → List BlockMember → Checked (List BlockMember)
with_member frame last env q name t members = may_be_member frame last env name t members
    >>= (λ _. may_stand env frame q name members (member_of frame q name (member_type t))
    >>= (λ _. Ok (members ++ member_of frame q name (member_type t) ∷ [])))

abbrev pub is_end : {A : Type 0} → List A → Bool
is_end [] = true
is_end (x ∷ xs) = false

-- the members with one more, where this type stands before its name
unfoldable pub with_name : Frame → Bool → Env → Qualified → Written → Declared → List BlockMember → Checked (List BlockMember)
with_name frame last env q base one members = declared (map (bracket env) one.dims) base >>= (λ t. with_member frame last env q one.name t members)

-- the members of one type, behind those before it; `last` says whether no line follows
abbrev pub with_names : Frame → Bool → Env → Qualified → Written → List Declared → List BlockMember → Checked (List BlockMember)
with_names frame last env q base [] members = Ok members
with_names frame last env q base (one ∷ more) members =
    with_name frame (last && is_end more) env q base one members >>= with_names frame last env q base more

-- the members of one line: its qualifiers, its type and its names
unfoldable pub with_line : Frame → Bool → Env → MemberLine → List BlockMember → Checked (List BlockMember)
with_line frame last env line members = qualified env (Member frame.buffer) line.quals
    >>= (λ q. written_type env line.ty >>= (λ base. with_names frame last env q base line.names members))

-- the members of all lines
abbrev pub with_lines : Frame → Env → List MemberLine → List BlockMember → Checked (List BlockMember)
with_lines frame env [] members = Ok members
with_lines frame env (line ∷ lines) members = with_line frame (is_end lines) env line members >>= with_lines frame env lines

-- ---- the block

abbrev pub kind_of : Role → BlockKind
kind_of Variable = kind.Uniform
kind_of Input = kind.Uniform
kind_of Output = kind.Uniform
kind_of Uniform = kind.Uniform
kind_of Buffer = kind.Buffer
kind_of Push = kind.Push
kind_of (Member in_buffer) = kind.Uniform
kind_of Size = kind.Uniform
kind_of Nothing = kind.Uniform

abbrev pub is_uniform : BlockKind → Bool
is_uniform kind.Uniform = true
is_uniform kind.Buffer = false
is_uniform kind.Push = false

abbrev pub is_buffer : BlockKind → Bool
is_buffer kind.Uniform = false
is_buffer kind.Buffer = true
is_buffer kind.Push = false

abbrev pub is_push : BlockKind → Bool
is_push kind.Uniform = false
is_push kind.Buffer = false
is_push kind.Push = true

-- what stands around the members: where no layout is stated, uniform blocks have std140 and all others std430
abbrev pub frame_of : BlockKind → Option Name → Qualified → Frame
frame_of k instance q = record { buffer = is_buffer k; bare = is_none instance; std140 = unwrap_or q.std140 (is_uniform k); said = q }

-- the instance name may be declared
abbrev pub may_be_instance : Env → Option Name → Checked (Unit {0})
may_be_instance env None = Ok tt
may_be_instance env (Some name) = unless name.place ((E0403, is_declared env name.text) ∷ (E0404, is_reserved name.text) ∷ []) (Ok tt)

abbrev pub text_of : Option Name → Option (List ℕ)
text_of None = None
text_of (Some name) = Some name.text

abbrev pub is_instance : Option Name → List ℕ → Bool
is_instance None name = false
is_instance (Some instance) name = bytes_eq instance.text name

-- a name that is declared already, by the block itself too
unfoldable pub is_block_taken : Env → Name → Option Name → List BlockMember → Bool
is_block_taken env name instance members =
    is_declared env name.text || is_instance instance name.text || (is_none instance && has_member members name.text)

-- the block of these members, whose `need` is as its layout gives it
abbrev pub with_need : List StructType → Block → Block
with_need structs block = record block { need = need (layout_of structs block) }

-- a block whose `need` is not known yet
abbrev pub draft_of : BlockKind → Qualified → Name → Option Name → List BlockMember → Block
draft_of k q name instance members = record {
  name = name.text;
  instance = text_of instance;
  kind = k;
  set = unwrap_or q.set 0;
  binding = unwrap_or q.binding 0;
  std140 = unwrap_or q.std140 (is_uniform k);
  members = members;
  need = 0;
  place = name.place;
}

unfoldable pub block_of : BlockKind → Qualified → Name → Option Name → List BlockMember → List StructType → Block
block_of k q name instance members structs = with_need structs (draft_of k q name instance members)

-- a block may be declared
unfoldable pub may_be_block : Env → Qualified → Name → Option Name → Block → Checked (Unit {0})
may_be_block env q name instance block = unless name.place (
    (E0403, is_block_taken env name instance block.members)
    ∷ (E0404, is_reserved name.text)
    ∷ (E0706, not (is_push block.kind) && is_none q.binding)
    ∷ (E0707, is_push block.kind && nat_lt 0 (push_blocks env.scene.blocks))
    ∷ (E0708, is_uniform block.kind && not block.std140)
    ∷ (E0905, not (nat_le (extent_of env.scene.structs block) most_bytes))
    ∷ (E0908, not (nat_le (length block.members) most_parts))
    ∷ []
    )
    (Ok tt)

-- the block behind its members
unfoldable pub block_with : BlockKind → Qualified → Name → Option Name → List BlockMember → Env → Checked Env
block_with k q name instance members env = may_be_instance env instance
    >>= (λ _. may_be_block env q name instance (block_of k q name instance members env.scene.structs)
    >>= (λ _. Ok (with_block (block_of k q name instance members env.scene.structs) env)))

-- A block: its qualifiers, its members, its instance name, and then the block.
unfoldable pub block : Role → List Qual → Name → List MemberLine → Option Name → Env → Checked Env
block role quals name lines instance env = qualified env role quals
    >>= (λ q. with_lines (frame_of (kind_of role) instance q) env lines [] >>= (λ members. block_with (kind_of role) q name instance members env))
