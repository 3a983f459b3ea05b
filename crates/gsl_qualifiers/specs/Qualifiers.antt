-- Qualifiers of declarations at the top of a unit and in blocks (GLSL 4.50, 4.3 to 4.10; GL_KHR_vulkan_glsl). The form of a declaration and its first
-- storage qualifier say what it declares; then each qualifier is judged, from left to right, by that and by those before it.
use Rattle.std.specs.Prelude.{ℕ, Bool, true, false, not, ◌&&◌, ◌||◌, nat_le, List, [], ◌∷◌, codes, Option, Some, None, is_none, Ok, if◌then◌else◌}
use Rattle.std.specs.Str.{bytes_eq}
use Rattle.std.specs.List.{list_any}
use Rattle.gsl_base.specs.Checked.{Checked, ◌>>=◌}
use Rattle.gsl_base.specs.declared.fault.Place.{Place}
use Rattle.gsl_base.specs.declared.fault.Code.TheVariants.{E0507, E0601, E0602, E0701, E0704, E0705, E0709}
use Rattle.gsl_base.specs.declared.stage.Stage.{Stage}
use Rattle.gsl_base.specs.declared.stage.Stage.TheVariants.{Vertex, Fragment, Compute}
use Rattle.gsl_syntax.specs.declared.declaration.Name.{Name}
use Rattle.gsl_syntax.specs.declared.declaration.Lay.{Lay}
use Rattle.gsl_syntax.specs.declared.declaration.Lay.TheVariants as lay
use Rattle.gsl_syntax.specs.declared.declaration.Qual.{Qual}
use Rattle.gsl_syntax.specs.declared.declaration.Qual.TheVariants as qual
use Rattle.gsl_layout.specs.Placings.{wrong_align}
use Rattle.gsl_typing.specs.declared.scene.Scene.{Scene}
use Rattle.gsl_typing.specs.declared.scene.Part.{Part}
use Rattle.gsl_typing.specs.Rows.{fault, unless}
use Rattle.gsl_typing.specs.Uses.{is_unread}
use Rattle.gsl_tree.specs.Constants.{constant_of}
use Rattle.gsl_makers.specs.Paths.{is_index}
use Rattle.gsl_check_expr.specs.declared.env.Env.{Env}
use Rattle.gsl_check_expr.specs.Sizes.{is_not_constant, is_left_open, word_of}
use Rattle.gsl_check_expr.specs.Expressions.{taken_expression}
use Rattle.gsl_qualifiers.specs.declared.qualified.Role.{Role}
use Rattle.gsl_qualifiers.specs.declared.qualified.Role.TheVariants.{Variable, Input, Output, Uniform, Buffer, Push, Member, Size, Nothing}
use Rattle.gsl_qualifiers.specs.declared.qualified.Qualified.{Qualified}
use Rattle.gsl_qualifiers.specs.declared.valued.Valued.{Valued}
use Rattle.gsl_qualifiers.specs.declared.valued.Valued.TheVariants.{Location, Set, Binding, Offset, Align, SizeX, SizeY, SizeZ}

-- ---- what is declared

-- Where the values of a declaration are stored.
pub data Storage : Type 0 where
  Fixed : Storage
  Within : Storage
  Outward : Storage
  Both : Storage
  OfUniform : Storage
  OfBuffer : Storage

abbrev pub storage_of : Qual → Option Storage
storage_of (qual.Const place) = Some Fixed
storage_of (qual.In place) = Some Within
storage_of (qual.Out place) = Some Outward
storage_of (qual.Inout place) = Some Both
storage_of (qual.Uniform place) = Some OfUniform
storage_of (qual.Buffer place) = Some OfBuffer
storage_of (qual.Flat place) = None
storage_of (qual.Coherent place) = None
storage_of (qual.Volatile place) = None
storage_of (qual.Restrict place) = None
storage_of (qual.Readonly place) = None
storage_of (qual.Writeonly place) = None
storage_of (qual.Layout place items) = None

abbrev pub or_later : Option Storage → Option Storage → Option Storage
or_later None later = later
or_later (Some storage) later = Some storage

-- the first storage qualifier
abbrev pub storage_in : List Qual → Option Storage
storage_in [] = None
storage_in (q ∷ quals) = or_later (storage_of q) (storage_in quals)

abbrev pub is_push_item : Lay → Bool
is_push_item (lay.Flag name) = bytes_eq name.text (codes "push_constant")
is_push_item (lay.Value name e) = false

abbrev pub says_push : Qual → Bool
says_push (qual.Const place) = false
says_push (qual.In place) = false
says_push (qual.Out place) = false
says_push (qual.Inout place) = false
says_push (qual.Uniform place) = false
says_push (qual.Buffer place) = false
says_push (qual.Flat place) = false
says_push (qual.Coherent place) = false
says_push (qual.Volatile place) = false
says_push (qual.Restrict place) = false
says_push (qual.Readonly place) = false
says_push (qual.Writeonly place) = false
says_push (qual.Layout place items) = list_any is_push_item items

-- what variables are
abbrev pub variables_by : Option Storage → Role
variables_by None = Variable
variables_by (Some Fixed) = Variable
variables_by (Some Within) = Input
variables_by (Some Outward) = Output
variables_by (Some Both) = Variable
variables_by (Some OfUniform) = Variable
variables_by (Some OfBuffer) = Variable

unfoldable pub role_of_variables : List Qual → Role
role_of_variables quals = variables_by (storage_in quals)

-- what a block is: a `uniform` one with `push_constant` has the push constants
abbrev pub block_by : Bool → Option Storage → Role
block_by push None = Nothing
block_by push (Some Fixed) = Nothing
block_by push (Some Within) = Nothing
block_by push (Some Outward) = Nothing
block_by push (Some Both) = Nothing
block_by push (Some OfUniform) = if push then Push else Uniform
block_by push (Some OfBuffer) = Buffer

unfoldable pub role_of_block : List Qual → Role
role_of_block quals = block_by (list_any says_push quals) (storage_in quals)

-- what qualifiers alone declare: the size of the work group, in a compute shader
abbrev pub alone_by : Stage → Option Storage → Role
alone_by Vertex storage = Nothing
alone_by Fragment storage = Nothing
alone_by Compute None = Nothing
alone_by Compute (Some Fixed) = Nothing
alone_by Compute (Some Within) = Size
alone_by Compute (Some Outward) = Nothing
alone_by Compute (Some Both) = Nothing
alone_by Compute (Some OfUniform) = Nothing
alone_by Compute (Some OfBuffer) = Nothing

unfoldable pub role_alone : Stage → List Qual → Role
role_alone stage quals = alone_by stage (storage_in quals)

-- ---- which words may stand where

abbrev pub may_be_fixed : Role → Bool
may_be_fixed Variable = true
may_be_fixed Input = false
may_be_fixed Output = false
may_be_fixed Uniform = false
may_be_fixed Buffer = false
may_be_fixed Push = false
may_be_fixed (Member in_buffer) = false
may_be_fixed Size = false
may_be_fixed Nothing = false

abbrev pub may_be_in : Role → Bool
may_be_in Variable = false
may_be_in Input = true
may_be_in Output = false
may_be_in Uniform = false
may_be_in Buffer = false
may_be_in Push = false
may_be_in (Member in_buffer) = false
may_be_in Size = true
may_be_in Nothing = false

abbrev pub is_output : Role → Bool
is_output Variable = false
is_output Input = false
is_output Output = true
is_output Uniform = false
is_output Buffer = false
is_output Push = false
is_output (Member in_buffer) = false
is_output Size = false
is_output Nothing = false

abbrev pub may_be_uniform : Role → Bool
may_be_uniform Variable = false
may_be_uniform Input = false
may_be_uniform Output = false
may_be_uniform Uniform = true
may_be_uniform Buffer = false
may_be_uniform Push = true
may_be_uniform (Member in_buffer) = false
may_be_uniform Size = false
may_be_uniform Nothing = false

abbrev pub may_be_buffer : Role → Bool
may_be_buffer Variable = false
may_be_buffer Input = false
may_be_buffer Output = false
may_be_buffer Uniform = false
may_be_buffer Buffer = true
may_be_buffer Push = false
may_be_buffer (Member in_buffer) = false
may_be_buffer Size = false
may_be_buffer Nothing = false

-- an input of a fragment shader is `flat`, an output of a vertex shader may be
abbrev pub may_be_flat : Stage → Role → Bool
may_be_flat Vertex role = is_output role
may_be_flat Fragment Input = true
may_be_flat Fragment _ = false
may_be_flat Compute role = false

-- memory qualifiers stand on buffer blocks and on their members
abbrev pub has_memory : Role → Bool
has_memory Variable = false
has_memory Input = false
has_memory Output = false
has_memory Uniform = false
has_memory Buffer = true
has_memory Push = false
has_memory (Member in_buffer) = in_buffer
has_memory Size = false
has_memory Nothing = false

-- ---- layout names

-- a name, where it may stand and this is it
abbrev pub named : Bool → Valued → Option Valued
named true which = Some which
named false which = None

abbrev pub first : Option Valued → Option Valued → Option Valued
first None later = later
first (Some which) later = Some which

abbrev pub interface_names : List ℕ → Option Valued
interface_names name = named (bytes_eq name (codes "location")) Location

abbrev pub align_name : List ℕ → Option Valued
align_name name = named (bytes_eq name (codes "align")) Align

abbrev pub bound_names : List ℕ → Option Valued
bound_names name = first (named (bytes_eq name (codes "set")) Set) (first (named (bytes_eq name (codes "binding")) Binding) (align_name name))

abbrev pub member_names : List ℕ → Option Valued
member_names name = first (named (bytes_eq name (codes "offset")) Offset) (align_name name)

abbrev pub size_names : List ℕ → Option Valued
size_names name =
    first (named (bytes_eq name (codes "local_size_x")) SizeX)
    (first (named (bytes_eq name (codes "local_size_y")) SizeY) (named (bytes_eq name (codes "local_size_z")) SizeZ))

-- which name with a value this is, where it may stand here
abbrev pub valued : Role → List ℕ → Option Valued
valued Variable name = None
valued Input name = interface_names name
valued Output name = interface_names name
valued Uniform name = bound_names name
valued Buffer name = bound_names name
valued Push name = align_name name
valued (Member in_buffer) name = member_names name
valued Size name = size_names name
valued Nothing name = None

abbrev pub is_block : Role → Bool
is_block Variable = false
is_block Input = false
is_block Output = false
is_block Uniform = true
is_block Buffer = true
is_block Push = true
is_block (Member in_buffer) = false
is_block Size = false
is_block Nothing = false

abbrev pub is_push : Role → Bool
is_push Variable = false
is_push Input = false
is_push Output = false
is_push Uniform = false
is_push Buffer = false
is_push Push = true
is_push (Member in_buffer) = false
is_push Size = false
is_push Nothing = false

-- the least and the greatest value of a name
abbrev pub least_of : Valued → ℕ
least_of Location = 0
least_of Set = 0
least_of Binding = 0
least_of Offset = 0
least_of Align = 1
least_of SizeX = 1
least_of SizeY = 1
least_of SizeZ = 1

abbrev pub most_of : Valued → ℕ
most_of Location = 1023
most_of Set = 31
most_of Binding = 65535
most_of Offset = 16777212
most_of Align = 16777216
most_of SizeX = 1024
most_of SizeY = 1024
most_of SizeZ = 1024

-- whether a word is a value of a name, if there is one
abbrev pub is_value_of : Option Valued → ℕ → Bool
is_value_of None word = false
is_value_of (Some which) word = nat_le (least_of which) word && nat_le word (most_of which)

-- an alignment that is no power of two
abbrev pub is_wrong : Option Valued → ℕ → Bool
is_wrong None word = false
is_wrong (Some Location) word = false
is_wrong (Some Set) word = false
is_wrong (Some Binding) word = false
is_wrong (Some Offset) word = false
is_wrong (Some Align) word = wrong_align (Some word)
is_wrong (Some SizeX) word = false
is_wrong (Some SizeY) word = false
is_wrong (Some SizeZ) word = false

-- the value that a layout name states; what it owes as a constant expression comes first
unfoldable pub stated_value : Scene → Option Valued → Place → Part → Checked ℕ
stated_value scene which place x = unless place (
    (E0507, is_unread scene x)
    ∷ (E0601, is_not_constant (constant_of scene.consts x.expr))
    ∷ (E0602, is_left_open (constant_of scene.consts x.expr))
    ∷ (E0704, is_none which)
    ∷ (E0705, not (is_index x && is_value_of which (word_of scene x)))
    ∷ (E0709, is_wrong which (word_of scene x))
    ∷ []
    )
    (Ok (word_of scene x))

-- what was said, with the value of a name
abbrev pub with_value : Option Valued → Place → ℕ → Qualified → Qualified
with_value None place word q = q
with_value (Some Location) place word q = record q { location = Some word }
with_value (Some Set) place word q = record q { set = Some word }
with_value (Some Binding) place word q = record q { binding = Some word }
with_value (Some Offset) place word q = record q { offset = Some (place, word) }
with_value (Some Align) place word q = record q { align = Some word }
with_value (Some SizeX) place word q = record q { size_x = Some word }
with_value (Some SizeY) place word q = record q { size_y = Some word }
with_value (Some SizeZ) place word q = record q { size_z = Some word }

-- `std140`, `std430` and `push_constant`, where they may stand
abbrev pub flag_by : Bool → Bool → Bool → Role → Name → Qualified → Checked Qualified
flag_by true is430 push role name q = unless name.place ((E0704, not (is_block role)) ∷ []) (Ok (record q { std140 = Some true }))
flag_by false true push role name q = unless name.place ((E0704, not (is_block role)) ∷ []) (Ok (record q { std140 = Some false }))
flag_by false false true role name q = unless name.place ((E0704, not (is_push role)) ∷ []) (Ok q)
flag_by false false false role name q = unless name.place ((E0704, is_none (valued role name.text)) ∷ []) (fault name.place E0705)

-- A layout name without a value. One that has a value lacks it.
unfoldable pub flag : Role → Name → Qualified → Checked Qualified
flag role name q = flag_by (bytes_eq name.text (codes "std140")) (bytes_eq name.text (codes "std430")) (bytes_eq name.text (codes "push_constant")) role name q

abbrev pub laid_by : Env → Role → Lay → Qualified → Checked Qualified
laid_by env role (lay.Flag name) q = flag role name q
laid_by env role (lay.Value name e) q = taken_expression env e
    >>= (λ x. stated_value env.scene (valued role name.text) name.place x >>= (λ word. Ok (with_value (valued role name.text) name.place word q)))

-- the items of a layout qualifier, from left to right; of a name that is repeated the last value stays
abbrev pub laid : Env → Role → List Lay → Qualified → Checked Qualified
laid env role [] q = Ok q
laid env role (item ∷ items) q = laid_by env role item q >>= laid env role items

-- ---- all qualifiers

-- a word that may stand here, and has not stood before
abbrev pub once : Place → Bool → Bool → Qualified → Checked Qualified
once place stood may q = unless place ((E0701, stood || not may) ∷ []) (Ok q)

-- a storage qualifier, which is the only one
abbrev pub stored : Place → Bool → Qualified → Qualified → Checked Qualified
stored place may before q = once place before.stored may (record q { stored = true })

abbrev pub qualified_by : Env → Role → Qualified → Qual → Checked Qualified
qualified_by env role q (qual.Const place) = stored place (may_be_fixed role) q (record q { fixed = true })
qualified_by env role q (qual.In place) = stored place (may_be_in role) q (record q { within = Some place })
qualified_by env role q (qual.Out place) = stored place (is_output role) q q
qualified_by env role q (qual.Inout place) = fault place E0701
qualified_by env role q (qual.Uniform place) = stored place (may_be_uniform role) q q
qualified_by env role q (qual.Buffer place) = stored place (may_be_buffer role) q q
qualified_by env role q (qual.Flat place) = once place q.flat (may_be_flat env.scene.stage role) (record q { flat = true })
qualified_by env role q (qual.Coherent place) = once place q.coherent (has_memory role) (record q { coherent = true })
qualified_by env role q (qual.Volatile place) = once place q.volatile (has_memory role) (record q { volatile = true })
qualified_by env role q (qual.Restrict place) = once place q.restrict (has_memory role) (record q { restrict = true })
qualified_by env role q (qual.Readonly place) = once place q.readonly (has_memory role) (record q { readonly = true })
qualified_by env role q (qual.Writeonly place) = once place q.writeonly (has_memory role) (record q { writeonly = true })
qualified_by env role q (qual.Layout place items) = laid env role items q

abbrev pub qualified_from : Env → Role → Qualified → List Qual → Checked Qualified
qualified_from env role q [] = Ok q
qualified_from env role q (qual ∷ quals) = qualified_by env role q qual >>= (λ more. qualified_from env role more quals)

-- nothing was said
abbrev pub unsaid : Qualified
unsaid = record {
  stored = false;
  fixed = false;
  flat = false;
  coherent = false;
  volatile = false;
  restrict = false;
  readonly = false;
  writeonly = false;
  std140 = None;
  location = None;
  set = None;
  binding = None;
  offset = None;
  align = None;
  size_x = None;
  size_y = None;
  size_z = None;
  within = None;
}

-- What the qualifiers of a declaration say, from left to right.
unfoldable pub qualified : Env → Role → List Qual → Checked Qualified
qualified env role quals = qualified_from env role unsaid quals
