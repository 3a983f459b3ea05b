-- When two declarations of one name agree (GLSL 4.50, 3.3, 4.3 and 4.4).
use Rattle.std.specs.Prelude.{ℕ, Bool, true, false, not, ◌&&◌, ◌||◌, nat_eq, bytes_eq, List, [], ◌∷◌, Option, Some, is_some, if◌then◌else◌}
use Rattle.std.specs.List.{list_any}
use Rattle.gsl_types.specs.declared.ty.Direction.{Direction}
use Rattle.gsl_types.specs.declared.ty.Direction.TheVariants.{In, Out, InOut}
use Rattle.gsl_types.specs.declared.ty.Ty.{Ty}
use Rattle.gsl_types.specs.declared.ty.StructType.{StructType}
use Rattle.gsl_values.specs.declared.value.Value.{Value}
use Rattle.gsl_layout.specs.Layout.{Layout, Leaf, Array, Runtime, Group, Parts, End, Part}
use Rattle.gsl_tree.specs.declared.unit.Block.{Block}
use Rattle.gsl_tree.specs.declared.unit.BlockKind.{BlockKind}
use Rattle.gsl_tree.specs.declared.unit.BlockKind.TheVariants.{Uniform, Buffer, Push}
use Rattle.gsl_tree.specs.declared.unit.BlockMember.{BlockMember}
use Rattle.gsl_tree.specs.declared.unit.GlobalVar.{GlobalVar}
use Rattle.gsl_tree.specs.declared.unit.Interface.{Interface}
use Rattle.gsl_tree.specs.declared.unit.Prototype.{Prototype}
use Rattle.gsl_tree.specs.Laying.{layout_of}
use Rattle.gsl_tree.specs.Values.{same_value}
use Rattle.gsl_tree.specs.WellTyped.{is_push}
use Rattle.gsl_link_units.specs.Types.{same_type}
use Rattle.gsl_link_units.specs.Declarations.{Declaration, OfVariable, OfInterface, OfBlock, OfFunction, name_of}

abbrev pub both_or_neither : Bool → Bool → Bool
both_or_neither true b = b
both_or_neither false b = not b

-- ---- variables

-- where both have an initialiser, its values are equal
abbrev pub same_initial : Option Value → Option Value → Bool
same_initial (Some v) (Some w) = same_value v w
same_initial _ _ = true

abbrev pub agree_variables : GlobalVar → GlobalVar → Bool
agree_variables a b = same_type a.ty b.ty && same_initial a.value b.value

-- inputs and outputs agree in all qualifiers
abbrev pub agree_interfaces : Interface → Interface → Bool
agree_interfaces a b =
    same_type a.ty b.ty && both_or_neither a.output b.output && both_or_neither a.flat b.flat && nat_eq a.location b.location

-- ---- functions

abbrev pub same_direction : Direction → Direction → Bool
same_direction In In = true
same_direction Out Out = true
same_direction InOut InOut = true
same_direction _ _ = false

abbrev pub same_params : List (Direction × Ty) → List (Direction × Ty) → Bool
same_params [] [] = true
same_params (a ∷ params) (b ∷ others) = same_type a.1 b.1 && same_params params others
same_params _ _ = false

abbrev pub same_directions : List (Direction × Ty) → List (Direction × Ty) → Bool
same_directions [] [] = true
same_directions (a ∷ params) (b ∷ others) = same_direction a.0 b.0 && same_directions params others
same_directions _ _ = false

-- Two heads are of one function: of one name, with one list of parameter types.
abbrev pub same_function : Prototype → Prototype → Bool
same_function a b = bytes_eq a.name b.name && same_params a.params b.params

-- functions of one name are overloads, unless their parameters have the same types
abbrev pub agree_functions : Prototype → Prototype → Bool
agree_functions a b = not (same_params a.params b.params) || (same_type a.result b.result && same_directions a.params b.params)

-- ---- blocks

abbrev pub same_kind : BlockKind → BlockKind → Bool
same_kind Uniform Uniform = true
same_kind Buffer Buffer = true
same_kind Push Push = true
same_kind _ _ = false

abbrev pub same_qualifiers : BlockMember → BlockMember → Bool
same_qualifiers a b =
    both_or_neither a.readonly b.readonly && both_or_neither a.writeonly b.writeonly && both_or_neither a.coherent b.coherent
    && both_or_neither a.volatile b.volatile && both_or_neither a.restrict b.restrict

abbrev pub agree_member : BlockMember → BlockMember → Bool
agree_member a b = bytes_eq a.name b.name && same_type a.ty b.ty && same_qualifiers a b

abbrev pub agree_members : List BlockMember → List BlockMember → Bool
agree_members [] [] = true
agree_members (a ∷ members) (b ∷ others) = agree_member a b && agree_members members others
agree_members _ _ = false

abbrev pub offsets_in : Parts → List ℕ
offsets_in End = []
offsets_in (Part offset layout rest) = offset ∷ offsets_in rest

abbrev pub offsets : Layout → List ℕ
offsets (Leaf components) = []
offsets (Array stride count element) = []
offsets (Runtime stride element) = []
offsets (Group members all) = offsets_in members

-- the offsets of the members of a block, as they are computed
abbrev pub offsets_of : List StructType → Block → List ℕ
offsets_of structs block = offsets (layout_of structs block)

-- blocks agree in what they are for, where they are bound, how they are laid out, whether they have an instance name, and their members
abbrev pub agree_blocks : List StructType → Block → Block → Bool
agree_blocks structs a b =
    same_kind a.kind b.kind && nat_eq a.set b.set && nat_eq a.binding b.binding && both_or_neither a.std140 b.std140
    && both_or_neither (is_some a.instance) (is_some b.instance) && agree_members a.members b.members
    && bytes_eq (offsets_of structs a) (offsets_of structs b)

-- ---- declarations

-- Two declarations of one name agree. Those of two kinds do not, and neither do a private variable and an input or output.
abbrev pub agree : List StructType → Declaration → Declaration → Bool
agree structs (OfVariable a) (OfVariable b) = agree_variables a b
agree structs (OfInterface a) (OfInterface b) = agree_interfaces a b
agree structs (OfBlock a) (OfBlock b) = agree_blocks structs a b
agree structs (OfFunction a) (OfFunction b) = agree_functions a b
agree structs _ _ = false

abbrev pub is_push_block : Declaration → Bool
is_push_block (OfVariable g) = false
is_push_block (OfInterface i) = false
is_push_block (OfBlock block) = is_push block.kind
is_push_block (OfFunction p) = false

-- a declaration is against another: they have one name and do not agree, or are push constant blocks of two names
abbrev pub is_against : List StructType → Declaration → Declaration → Bool
is_against structs a b =
    if bytes_eq (name_of a) (name_of b) then not (agree structs a b) else is_push_block a && is_push_block b

-- whether a declaration is against one of these
abbrev pub is_against_any : List StructType → List Declaration → Declaration → Bool
is_against_any structs others a = list_any (is_against structs a) others
