-- Which types have a layout, and which layouts are too large.
use Rattle.std.specs.Prelude.{◌≡◌, ℕ, Bool, true, false, IsTrue, List, [], ◌∷◌, max, slice_get, Some}
use Rattle.std.specs.List.{AllByRecursion}
use Rattle.gsl_types.specs.declared.ty.Ty.{Ty}
use Rattle.gsl_types.specs.declared.ty.Ty.TheOpen.{Ty-F}
use Rattle.gsl_types.specs.declared.ty.Ty.TheViews.{out-Ty}
use Rattle.gsl_types.specs.declared.ty.Ty.TheFolds.{fold-Ty}
use Rattle.gsl_types.specs.declared.ty.Member.{Member}
use Rattle.gsl_types.specs.declared.ty.StructType.{StructType}
use Rattle.gsl_layout.specs.Layout.{Layout, Leaf, Array, Runtime, Group, Parts, End, Part}
use Rattle.gsl_layout.specs.declared.measured.Measured.{Measured}

abbrev pub plain_kind : Ty-F Bool → Bool
plain_kind Ty-F.Void = false
plain_kind (Ty-F.One s) = true
plain_kind (Ty-F.Vector s n) = true
plain_kind (Ty-F.Array element n) = element
plain_kind (Ty-F.Runtime element) = false
plain_kind (Ty-F.Struct number) = true

-- whether a type has neither void nor a runtime array in it, apart from its structs
abbrev pub plain : Ty → Bool
plain = fold-Ty Bool plain_kind

abbrev pub last_open : Ty-F Ty → Ty → Bool
last_open (Ty-F.Runtime element) ty = plain element
last_open _ ty = plain ty

-- whether a type may be that of a block's last member, which may be a runtime array
abbrev pub may_be_last : Ty → Bool
may_be_last ty = last_open (out-Ty ty) ty

-- Members are plain, but that the last may be a runtime array.
abbrev pub AreMembers : List Member → Type 0
AreMembers [] = ⊥
AreMembers (member ∷ []) = IsTrue (may_be_last member.ty)
AreMembers (member ∷ next ∷ members) = IsTrue (plain member.ty) × AreMembers (next ∷ members)

-- Structs have plain members alone.
abbrev pub ArePlain : List StructType → Type 0
ArePlain structs = (number : ℕ) (struct : StructType) → slice_get structs number ≡ Some struct → AllByRecursion (λ (member : Member). IsTrue (plain member.ty)) struct.members

-- no block and no stride of a runtime array has more bytes
abbrev pub most_bytes : ℕ
most_bytes = 16777216

-- the largest stride of a runtime array in a layout
abbrev mutual
  pub open_stride : Layout → ℕ
  open_stride (Leaf components) = 0
  open_stride (Array stride count element) = open_stride element
  open_stride (Runtime stride element) = max stride (open_stride element)
  open_stride (Group members all) = open_strides members

  pub open_strides : Parts → ℕ
  open_strides End = 0
  open_strides (Part offset layout rest) = max (open_stride layout) (open_strides rest)

-- the larger of the size and the largest stride of a runtime array
abbrev pub extent : Measured → ℕ
extent measured = max measured.size (open_stride measured.laid)
