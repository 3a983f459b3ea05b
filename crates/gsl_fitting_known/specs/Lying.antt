-- What stands for types of the program in a module, part by part, where expressions lead.
use Rattle.std.specs.Prelude.{◌≡◌, ℕ, ◌+◌, ◌<◌, false, List, [], ◌∷◌, Option, Some, slice_get, suc}
use Rattle.gsl_types.specs.declared.ty.Member.{Member}
use Rattle.gsl_types.specs.declared.ty.Scalar.{Scalar}
use Rattle.gsl_types.specs.declared.ty.StructType.{StructType}
use Rattle.gsl_types.specs.declared.ty.Ty.{Ty}
use Rattle.gsl_types.specs.declared.ty.Ty.TheOpen.{Ty-F}
use Rattle.gsl_types.specs.declared.ty.Ty.TheViews.{out-Ty}
use Rattle.gsl_tree.specs.Shapes.{Shape, shape_of}
use Rattle.gsl_spv.specs.Sections.{Sections}
use Rattle.gsl_lower_places.specs.declared.reached.Part.{Part}
use Rattle.gsl_lower_places.specs.declared.reached.Part.TheVariants.{By, Fixed}
use Rattle.gsl_lower_holders.specs.declared.place.FlowPlace.{FlowPlace}
use Rattle.gsl_fitting.specs.Fits.{Frame}
use Rattle.gsl_fitting_reaching.specs.Reached.{May, Parts, Stands}
use Rattle.gsl_fitting_known.specs.Ids.{is_in_block, type_for}

module _ (whole : Sections) (main : ℕ) (local_size : List ℕ) (rank : ℕ → ℕ) (f : Frame) (place : FlowPlace) (structs : List StructType) (home : Option ℕ) (may : May) where
  -- Outside blocks it is the type that the place tells.
  abbrev pub IsOwn : Ty → ℕ → Type 0
  IsOwn t type = is_in_block home ≡ false → type ≡ type_for whole place t

  -- A type in a module stands for one of the program where an expression leads: each part of it is there, and stands for that part. So many
  -- indexes lead to its scalars and vectors at most.
  mutual
    pub data Lies : ℕ → Ty → ℕ → Type 0 where
      plain : {room type : ℕ} {t : Ty} {shape : Shape} → shape_of t ≡ Some shape → Stands whole main local_size rank f home (Some shape) type → Lies room t type
      array : {room type other n : ℕ} {t element : Ty} → out-Ty t ≡ Ty-F.Array element n → IsOwn t type → ((number : ℕ) → number < n → Parts whole main local_size rank f home may type (Fixed number) other)
          → ((class id : ℕ) (s : Scalar) → home ≡ Some class → Parts whole main local_size rank f home may type (By s id) other) → Lies room element other → Lies (suc room) t type
      runtime : {room type other : ℕ} {t element : Ty} → out-Ty t ≡ Ty-F.Runtime element → ((part : Part) → Parts whole main local_size rank f home may type part other) → Lies room element other → Lies (suc room) t type
      struct : {room type k : ℕ} {t : Ty} {of : StructType} → out-Ty t ≡ Ty-F.Struct k → slice_get structs k ≡ Some of → IsOwn t type → LieAll room 0 of.members type → Lies (suc room) t type

    -- members from a number on
    pub data LieAll : ℕ → ℕ → List Member → ℕ → Type 0 where
      none : {room type k : ℕ} → LieAll room k [] type
      more : {room type other k : ℕ} {member : Member} {members : List Member} → Parts whole main local_size rank f home may type (Fixed k) other → Lies room member.ty other → LieAll room (k + 1) members type → LieAll room k (member ∷ members) type
