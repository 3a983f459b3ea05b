-- What is put for a block whose struct has a truth value and an array, by either layout.
use Rattle.std.proofs.Common.{◌≡◌, refl, ℕ, Bool, true, false, List, [], ◌∷◌, None, Some}
use Rattle.std.specs.Prelude.{codes}
use Rattle.gsl_base.specs.declared.fault.Place.{Place}
use Rattle.gsl_base.specs.declared.stage.Stage.TheVariants.{Compute}
use Rattle.gsl_instr.specs.declared.enumerant.decoration.TheConstants as decoration
use Rattle.gsl_instr.specs.declared.enumerant.storage_class.TheConstants as storage_class
use Rattle.gsl_instr.specs.declared.op.TheConstants as op
use Rattle.gsl_layout.specs.Layout.{Layout, Leaf, Array, Group, End, Part}
use Rattle.gsl_types.specs.declared.ty.Member.{Member}
use Rattle.gsl_types.specs.declared.ty.Scalar.TheVariants.{Bool as Boolean, Int}
use Rattle.gsl_types.specs.declared.ty.StructType.{StructType}
use Rattle.gsl_types.specs.declared.ty.Ty.{Ty}
use Rattle.gsl_types.specs.declared.ty.Ty.TheVariants as ty
use Rattle.gsl_types.specs.declared.ty.Ty.TheVariants.{outs-Array, outs-One, outs-Struct}
use Rattle.gsl_words.specs.declared.module.Instr.{Instr}
use Rattle.gsl_words.specs.declared.target.Target.TheVariants.{V10}
use Rattle.gsl_tree.specs.declared.unit.Block.{Block}
use Rattle.gsl_tree.specs.declared.unit.BlockKind.TheVariants.{Buffer}
use Rattle.gsl_tree.specs.declared.unit.BlockMember.{BlockMember}
use Rattle.gsl_spv.specs.Calls.{decorating, intern, naming}
use Rattle.gsl_spv.specs.Declarations.{instr}
use Rattle.gsl_spv.specs.Sections.{Sections, empty}
use Rattle.gsl_lower_values.specs.Building.{Built, Made, ◌>>=◌}
use Rattle.gsl_lower_values.specs.Types.{scalar_constant, scalar_type, type_of}
use Rattle.gsl_lower_types.specs.Blocks.{block_by, block_laid, member_marked, members_marked}
use Rattle.gsl_lower_types.specs.Known.{Known, aside}
use Rattle.gsl_lower_types.specs.Laid.{offsets}

abbrev here : Place
here = record { unit = 0; line = 1 }

abbrev of_bool : Member
of_bool = record { name = codes "x"; ty = ty.One Boolean }

abbrev of_array : Member
of_array = record { name = codes "y"; ty = ty.Array (ty.One Int) 2 }

-- struct S { bool x; int y[2]; };
abbrev structs : List StructType
structs = record { name = codes "S"; members = of_bool ∷ of_array ∷ []; leaves = 3 } ∷ []

abbrev member : List ℕ → Ty → Bool → BlockMember
member name t readonly =
    record { name = name; ty = t; readonly = readonly; writeonly = false; coherent = false; volatile = false; restrict = false; offset = None; align = None; place = here }

-- layout(set = 1, binding = 2) buffer B { S s; readonly bool p; };
abbrev block : Block
block = record {
  name = codes "B";
  instance = None;
  kind = Buffer;
  set = 1;
  binding = 2;
  std140 = false;
  members = member (codes "s") (ty.Struct 0) false ∷ member (codes "p") (ty.One Boolean) true ∷ [];
  need = 16;
  place = here;
}

-- the layout, by the stride of the array, the place of it, and the places of the second member and of the end
abbrev layout : ℕ → ℕ → ℕ → ℕ → Layout
layout stride at second end = Group (Part 0 (Group (Part 0 (Leaf 1) (Part at (Array stride 2 (Leaf 1)) End)) second) (Part second (Leaf 1) End)) end

abbrev put : Layout → Built (ℕ × Known)
put l = (block_laid structs l block [] >>= (λ r. aside (block_by V10 block r.0) r.1)) (empty Compute V10)

abbrev decorations : ℕ → ℕ → ℕ → List Instr
decorations stride at second =
    decorating 4 None decoration.ARRAY_STRIDE (Some stride)
    ∷ decorating 5 (Some 0) decoration.OFFSET (Some 0) ∷ decorating 5 (Some 1) decoration.OFFSET (Some at)
    ∷ decorating 6 (Some 0) decoration.OFFSET (Some 0) ∷ decorating 6 (Some 1) decoration.OFFSET (Some second)
    ∷ decorating 6 None decoration.BUFFER_BLOCK None ∷ decorating 6 (Some 1) decoration.NON_WRITABLE None
    ∷ decorating 8 None decoration.DESCRIPTOR_SET (Some 1) ∷ decorating 8 None decoration.BINDING (Some 2) ∷ []

abbrev names : List Instr
names = naming 6 None (codes "B") ∷ naming 6 (Some 0) (codes "s") ∷ naming 6 (Some 1) (codes "p") ∷ []

-- `uint` stands for `bool`
abbrev globals : List Instr
globals =
    instr op.TYPE_INT (1 ∷ 32 ∷ 0 ∷ []) ∷ instr op.TYPE_INT (2 ∷ 32 ∷ 1 ∷ []) ∷ instr op.CONSTANT (1 ∷ 3 ∷ 2 ∷ []) ∷ instr op.TYPE_ARRAY (4 ∷ 2 ∷ 3 ∷ []) ∷ instr op.TYPE_STRUCT (5 ∷ 1 ∷ 4 ∷ [])
    ∷ instr op.TYPE_STRUCT (6 ∷ 5 ∷ 1 ∷ []) ∷ instr op.TYPE_POINTER (7 ∷ storage_class.UNIFORM ∷ 6 ∷ []) ∷ instr op.VARIABLE (7 ∷ 8 ∷ storage_class.UNIFORM ∷ []) ∷ []

abbrev after : ℕ → ℕ → ℕ → Sections
after stride at second = record (empty Compute V10) { names = names; decorations = decorations stride at second; globals = globals; last = 8 }

abbrev known : Known
known = (ty.Array (ty.One Int) 2, 4) ∷ (ty.Struct 0, 5) ∷ []

ruleset computes = (outs-Array, outs-One, outs-Struct)

by_std430 : put (layout 4 4 12 16) ≡ Made (8, known) (after 4 4 12)
unfolding intern member_marked members_marked offsets scalar_constant scalar_type type_of
by_std430 = simp computes refl

by_std140 : put (layout 16 16 48 64) ≡ Made (8, known) (after 16 16 48)
unfolding intern member_marked members_marked offsets scalar_constant scalar_type type_of
by_std140 = simp computes refl
