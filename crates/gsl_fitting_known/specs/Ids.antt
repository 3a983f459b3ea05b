-- The ids of types in a module, and the types of the holders that are asked for at a part of an expression.
use Rattle.std.specs.Prelude.{◌≡◌, ℕ, Bool, true, false, ◌==◌, List, [], ◌∷◌, ◌++◌, map, Option, Some, None}
use Rattle.std.specs.Option.{unwrap_or}
use Rattle.gsl_types.specs.declared.ty.Scalar.{Scalar}
use Rattle.gsl_types.specs.declared.ty.Ty.{Ty}
use Rattle.gsl_types.specs.declared.ty.Ty.TheOpen.{Ty-F}
use Rattle.gsl_types.specs.declared.ty.Ty.TheViews.{out-Ty}
use Rattle.gsl_tree.specs.Shapes.{Shape}
use Rattle.gsl_spv.specs.Declarations as d
use Rattle.gsl_spv.specs.Once.{id_of}
use Rattle.gsl_spv.specs.Sections.{Sections}
use Rattle.gsl_spv.specs.declared.plain.PlainType.TheVariants as plain
use Rattle.gsl_lower_places.specs.Reached.{is_block_class}
use Rattle.gsl_lower_holders.specs.Flow.{find_type}
use Rattle.gsl_lower_holders.specs.declared.place.FlowPlace.{FlowPlace}
use Rattle.gsl_lower_needs.specs.Asking.{Ask, Asks}
use Rattle.gsl_lower_needs.specs.declared.need.Need.{Need}
use Rattle.gsl_lower_needs.specs.declared.need.Need.TheVariants.{Built, Holder, Stage}
use Rattle.gsl_lower_needs.specs.declared.lead.Lead.{Lead}
use Rattle.gsl_fitting_reaching.specs.Reached.{Spot, scalar_id}

-- ---- types

abbrev pub vector_id : Sections → Shape → ℕ
vector_id whole shape = unwrap_or (id_of (d.plain_type (plain.Vector (scalar_id whole shape.0) shape.1)) whole.globals) 0

abbrev pub plain_id_by : Bool → Sections → Shape → ℕ
plain_id_by true whole shape = scalar_id whole shape.0
plain_id_by false whole shape = vector_id whole shape

-- the id of the type of a scalar or vector, if it is declared
abbrev pub plain_id : Sections → Shape → ℕ
plain_id whole shape = plain_id_by (shape.1 == 1) whole shape

abbrev pub layer_id : Sections → FlowPlace → Ty → Ty-F Ty → ℕ
layer_id whole place t Ty-F.Void = unwrap_or (id_of (d.plain_type plain.Void) whole.globals) 0
layer_id whole place t (Ty-F.One s) = plain_id whole (s, 1)
layer_id whole place t (Ty-F.Vector s n) = plain_id whole (s, n)
layer_id whole place t layer = unwrap_or (find_type t place.composites) 0

-- the id of the type that stands for one of the program outside blocks, if there is one
abbrev pub type_for : Sections → FlowPlace → Ty → ℕ
type_for whole place t = layer_id whole place t (out-Ty t)

abbrev pub types_for : Sections → FlowPlace → List Ty → List ℕ
types_for whole place ts = map (type_for whole place) ts

-- ---- what is asked for

abbrev pub holder_type : Need → List Ty
holder_type (Holder t) = t ∷ []
holder_type (Built t) = []
holder_type (Stage var) = []

-- the types of the holders among what is asked for
abbrev pub holder_types : List Need → List Ty
holder_types [] = []
holder_types (one ∷ needs) = holder_type one ++ holder_types needs

-- A part asks for holders of these types, whatever was asked for before it, and comes to this.
pub record Wants {A : Type 0} (ask : Ask A) (a : A) (types : List Ty) : Type 0 where
  pub needs : List Need
  pub is : (before : List Need) → ask before ≡ Asks a (before ++ needs)
  pub holders : holder_types needs ≡ types

-- ---- places

-- whether a place is in a block
abbrev pub is_in_block : Option ℕ → Bool
is_in_block None = false
is_in_block (Some class) = is_block_class class

-- whether it is in no variable
abbrev pub is_nowhere : Option ℕ → Bool
is_nowhere None = true
is_nowhere (Some class) = false

abbrev pub is_picked : Option (Option Scalar) → Bool
is_picked None = false
is_picked (Some by) = true

abbrev pub word_of : Option (Option Scalar) → Option Scalar
word_of None = None
word_of (Some by) = by

-- What is known of a place is what is asked for it: whether it is in a block, the types of the ids in it, and by what components are picked.
pub record Agree (whole : Sections) (place : FlowPlace) (spot : Spot) (lead : Lead) : Type 0 where
  pub blocked : is_in_block spot.home ≡ lead.in_block
  pub waiting : spot.held ≡ types_for whole place lead.waiting
  pub picked : is_picked spot.picked ≡ lead.picked
  pub by : word_of spot.picked ≡ lead.by
