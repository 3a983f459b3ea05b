-- Indexes, members, swizzles and lengths over typed parts, with the faults of their nodes (GLSL 4.50, 5.5 to 5.7, 4.1.9).
use Rattle.std.specs.Prelude.{ℕ, Bool, true, false, not, ◌&&◌, ◌||◌, List, [], ◌∷◌, Option, Some, None, is_none, unwrap_or, Ok}
use Rattle.std.specs.Str.{bytes_eq}
use Rattle.gsl_base.specs.Checked.{Checked}
use Rattle.gsl_base.specs.declared.fault.Place.{Place}
use Rattle.gsl_base.specs.declared.fault.Code.TheVariants.{E0506, E0507, E0508, E0509, E0606}
use Rattle.gsl_types.specs.declared.ty.Scalar.{Scalar}
use Rattle.gsl_types.specs.declared.ty.Scalar.TheVariants.{Int}
use Rattle.gsl_types.specs.declared.ty.Ty.{Ty}
use Rattle.gsl_types.specs.declared.ty.Ty.TheOpen.{Ty-F}
use Rattle.gsl_types.specs.declared.ty.Ty.TheViews.{out-Ty}
use Rattle.gsl_types.specs.declared.ty.Ty.TheVariants as ty
use Rattle.gsl_types.specs.declared.ty.StructType.{StructType}
use Rattle.gsl_values.specs.declared.lane.Lanes.{Lanes}
use Rattle.gsl_tree.specs.declared.expr.ExprKind.{ExprKind}
use Rattle.gsl_tree.specs.declared.expr.ExprKind.TheVariants as kind
use Rattle.gsl_tree.specs.declared.folded.Folded.{Folded}
use Rattle.gsl_tree.specs.Trees.{typed}
use Rattle.gsl_tree.specs.Shapes.{is_integer, of_shape}
use Rattle.gsl_tree.specs.Constants.{constant_of}
use Rattle.gsl_tree.specs.Expressions.{element_of, in_range_by, has_length_kind}
use Rattle.gsl_typing.specs.declared.scene.Scene.{Scene}
use Rattle.gsl_typing.specs.declared.scene.Part.{Part}
use Rattle.gsl_typing.specs.Rows.{fault, unless}
use Rattle.gsl_typing.specs.Scene.{type_in, made}
use Rattle.gsl_typing.specs.Uses.{is_unread}
use Rattle.gsl_makers.specs.declared.paths.Picked.{Picked}
use Rattle.gsl_makers.specs.declared.paths.Picked.TheVariants.{Nothing, Field, Components}
use Rattle.gsl_makers.specs.Members.{Found, struct_member, block_member_of}
use Rattle.gsl_makers.specs.Swizzles.{swizzle}

-- a part of a part, which may be written where that may
abbrev pub inside : Place → Ty → ExprKind → Part → Part
inside place ty kind of = record { expr = typed place ty kind; fixed = of.fixed }

-- ---- indexes

abbrev pub is_index_kind : Ty-F Ty → Bool
is_index_kind (Ty-F.One s) = is_integer s
is_index_kind _ = false

-- an integer scalar
abbrev pub is_index : Part → Bool
is_index i = is_index_kind (out-Ty (type_in i))

-- what an index into a type gives
unfoldable pub element : Ty → Option Ty
element t = element_of t

-- a constant index is in the range of what it goes into
unfoldable pub in_range : Folded → Ty → Ty → Bool
in_range folded base i = in_range_by folded base i

-- `a[i]`
unfoldable pub index : Scene → Place → Part → Part → Checked Part
index scene place a i = unless place (
    (E0507, is_unread scene i)
    ∷ (E0508, is_none (element (type_in a)) || not (is_index i))
    ∷ (E0606, not (in_range (constant_of scene.consts i.expr) (type_in a) (type_in i)))
    ∷ []
    )
    (Ok (inside place (unwrap_or (element (type_in a)) ty.Void) (kind.Index a.expr i.expr) a))

-- ---- members and swizzles

abbrev pub field : Option Found → Picked
field None = Nothing
field (Some found) = Field found.0 found.1

abbrev pub components_of : Scalar → Option Lanes → Picked
components_of s None = Nothing
components_of s (Some lanes) = Components lanes (of_shape (s, lanes.count))

abbrev pub picked_by : Scene → Ty-F Ty → List ℕ → Picked
picked_by scene (Ty-F.Struct number) name = field (struct_member scene.structs number name)
picked_by scene (Ty-F.One s) name = components_of s (swizzle 1 name)
picked_by scene (Ty-F.Vector s n) name = components_of s (swizzle n name)
picked_by scene _ name = Nothing

-- what a name picks of a type: a member of a struct, or components of a scalar or vector
unfoldable pub picked : Scene → Ty → List ℕ → Picked
picked scene t name = picked_by scene (out-Ty t) name

abbrev pub member_by : Place → Part → Picked → Checked Part
member_by place a Nothing = fault place E0506
member_by place a (Field number t) = Ok (inside place t (kind.Member a.expr number) a)
member_by place a (Components lanes t) = Ok (inside place t (kind.Swizzle a.expr lanes) a)

-- `a.NAME`
unfoldable pub member : Scene → Place → Part → List ℕ → Checked Part
member scene place a name = member_by place a (picked scene (type_in a) name)

abbrev pub block_member_by : Place → ℕ → Option Found → Checked Part
block_member_by place block None = fault place E0506
block_member_by place block (Some found) = Ok (made place found.1 (kind.BlockMember block found.0))

-- `b.NAME`, where `b` is the instance name of a block
unfoldable pub block_member : Scene → Place → ℕ → List ℕ → Checked Part
block_member scene place block name = block_member_by place block (block_member_of scene.blocks block name)

-- ---- lengths

-- the name `length`
abbrev pub length_name : List ℕ
length_name = 108 ∷ 101 ∷ 110 ∷ 103 ∷ 116 ∷ 104 ∷ []

abbrev pub has_length : Part → Bool
has_length a = has_length_kind (out-Ty (type_in a))

-- `a.NAME()`: the length of an array or a vector, which is not evaluated for it
unfoldable pub method : Place → Part → List ℕ → Checked Part
method place a name = unless place ((E0506, not (bytes_eq name length_name)) ∷ (E0509, not (has_length a)) ∷ [])
    (Ok (made place (ty.One Int) (kind.Length a.expr)))
