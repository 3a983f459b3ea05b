-- Types of a unit mean by the joined structs what they meant by its own.
use Rattle.std.proofs.Common.{◌≡◌, sym, ap, ◌∙◌, ℕ, zero, suc, ◌<◌, ◌≤◌, List, length, arith}
use Rattle.std.proofs.lemmas.Option.{slice_get_within}
use Rattle.gsl_types.specs.declared.ty.StructType.{StructType}
use Rattle.gsl_types.specs.declared.ty.Ty.{Ty}
use Rattle.gsl_types.specs.Structs.{Meaning, meaning, numbered, struct_over, members_over}
use Rattle.gsl_types.specs.Known.{AreStructs, IsSound}
use Rattle.gsl_types.proofs.Structs.{numbered_is}
use Rattle.gsl_types.proofs.Shapes.{slice_found}
use Rattle.gsl_link_units.specs.Types.{new_number, retyped}
use Rattle.gsl_link_units.specs.Structs.{retyped_struct}
use Rattle.gsl_link_law.specs.Placed.{IsAt, ArePlaced}
use Rattle.gsl_link_law.proofs.Retyped.{retyped_agrees, retyped_struct_agrees}

module _ {A : Type 0} (m : Meaning A) where
  -- a struct that stands under a number has its members' meaning there
  pub at_means : (joined : List StructType) (number : ℕ) (s : StructType) → AreStructs joined → IsAt joined number s → numbered m joined number ≡ struct_over m (numbered m joined) s
  at_means joined number s known is =
      numbered_is m joined number is.struct is.there (known number is.struct is.there).earlier
      ∙ ap (λ ms. m.struct is.struct.name (members_over m (numbered m joined) ms)) is.members
      ∙ ap (λ n. m.struct n (members_over m (numbered m joined) s.members)) is.name

  module _ (structs joined : List StructType) (numbers : List ℕ) (whole : length numbers ≤ length structs) (own : AreStructs structs) (known : AreStructs joined) (placed : ArePlaced structs joined numbers) where
    up_to : (n k : ℕ) → k < n → k < length numbers → numbered m structs k ≡ numbered m joined (new_number numbers k)
    up_to zero k less below = let never : ⊥ = omega (arith, less) in elim never [ ]
    up_to (suc n) k less below =
        let found = slice_found structs k (omega (arith, below, whole)) in
        let earlier = (own k found.0 found.1).earlier in
        numbered_is m structs k found.0 found.1 earlier
        ∙ retyped_struct_agrees m numbers k (numbered m structs) (numbered m joined) (λ j lower. up_to n j (omega (arith, lower, less)) (omega (arith, lower, below))) found.0 earlier
        ∙ sym (at_means joined (new_number numbers k) (retyped_struct numbers found.0) known (placed k found.0 below found.1))

    pub struct_means : (k : ℕ) → k < length numbers → numbered m structs k ≡ numbered m joined (new_number numbers k)
    struct_means k below = up_to (suc k) k (omega arith) below

    pub type_means : (t : Ty) → IsSound (length numbers) t → meaning m structs t ≡ meaning m joined (retyped numbers t)
    type_means t sound = retyped_agrees m numbers (length numbers) (numbered m structs) (numbered m joined) struct_means t sound

-- new numbers are those of structs that are there
pub number_within : (structs joined : List StructType) (numbers : List ℕ) → length numbers ≤ length structs → ArePlaced structs joined numbers
    → (k : ℕ) → k < length numbers → new_number numbers k < length joined
number_within structs joined numbers whole placed k below =
    let found = slice_found structs k (omega (arith, below, whole)) in
    let is = placed k found.0 below found.1 in
    slice_get_within joined (new_number numbers k) is.struct is.there
