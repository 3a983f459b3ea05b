-- What stands for what an expression leads to, while the ids in it wait in holders.
use Rattle.std.specs.Prelude.{◌≡◌, ℕ, Bool, true, false, List, [], ◌∷◌, Option, Some, None}
use Rattle.gsl_types.specs.declared.ty.Scalar.{Scalar}
use Rattle.gsl_tree.specs.Shapes.{is_integer}
use Rattle.gsl_spv.specs.Sections.{Sections}
use Rattle.gsl_lower_places.specs.declared.reached.Base.{Base}
use Rattle.gsl_lower_places.specs.declared.reached.Base.TheVariants.{Value, Variable}
use Rattle.gsl_lower_places.specs.declared.reached.Part.{Part}
use Rattle.gsl_lower_places.specs.declared.reached.Part.TheVariants.{By, Fixed}
use Rattle.gsl_lower_places.specs.declared.reached.Picked.{Picked}
use Rattle.gsl_lower_places.specs.declared.reached.Reached.{Reached}
use Rattle.gsl_fitting.specs.Fits.{Frame}
use Rattle.gsl_fitting_types.specs.Making.{IsTypeOf}
use Rattle.gsl_fitting_flow.specs.Flowing.{IsHolder}
use Rattle.gsl_fitting_reaching.specs.Reached.{IsReached, Spot, scalar_id}

-- the types of the holders that what was reached takes, where it waits
abbrev pub held_if : Bool → List ℕ → List ℕ
held_if true held = held
held_if false held = []

module _ (whole : Sections) (main : ℕ) (local_size : List ℕ) (rank : ℕ → ℕ) (f : Frame) where
  -- A part stands for another, whose word waits in a holder of its type.
  pub data PartWaits : Part → Part → Type 0 where
    by_number : {number : ℕ} → PartWaits (Fixed number) (Fixed number)
    by_word : {s : Scalar} {id h : ℕ} → is_integer s ≡ true → IsTypeOf whole (s, 1) (scalar_id whole s) → IsHolder whole main local_size rank f (scalar_id whole s) h → PartWaits (By s id) (By s h)

  pub data PartsWait : List Part → List Part → Type 0 where
    no_parts : PartsWait [] []
    more_parts : {part kept : Part} {parts others : List Part} → PartWaits part kept → PartsWait parts others → PartsWait (part ∷ parts) (kept ∷ others)

  pub data BaseWaits : Base → Base → Type 0 where
    in_variable : {id class : ℕ} → BaseWaits (Variable id class) (Variable id class)
    in_value : {id type h : ℕ} → IsHolder whole main local_size rank f type h → BaseWaits (Value id type) (Value h type)

  pub data ChoiceWaits : Option Part → Option Part → Type 0 where
    by_positions : ChoiceWaits None None
    by_part : {one kept : Part} → PartWaits one kept → ChoiceWaits (Some one) (Some kept)

  pub data PickedWaits : Option Picked → Option Picked → Type 0 where
    unpicked : PickedWaits None None
    some_picked : {p : Picked} {kept : Option Part} → ChoiceWaits p.by kept → PickedWaits (Some p) (Some (record p { by = kept }))

  -- It stands for what an expression led to in some block.
  pub record IsKept (spot : Spot) (kept : Reached) : Type 0 where
    pub given : List ℕ
    pub reached : Reached
    pub is : IsReached whole main local_size rank f given spot reached
    pub base : BaseWaits reached.base kept.base
    pub path : PartsWait reached.path kept.path
    pub picked : PickedWaits reached.picked kept.picked

  -- What was reached waits so, or stays as it is.
  abbrev pub StaysReached : Bool → List ℕ → Spot → Reached → Type 0
  StaysReached false given spot r = IsReached whole main local_size rank f given spot r
  StaysReached true given spot r = IsKept spot r
