-- The part to which one index leads is the same in each state.
use Rattle.std.proofs.Common.{◌≡◌, ap, ℕ, Bool, true, false, if◌then◌else◌, List, [], ◌∷◌, ◌++◌, length, Option, Some, None}
use Rattle.std.specs.Prelude.{nat_lt, slice_get}
use Rattle.gsl_base.specs.declared.input.Input.{Input}
use Rattle.gsl_words.specs.declared.module.Module.{Module}
use Rattle.gsl_values.specs.declared.value.Value.{Value}
use Rattle.gsl_tree.specs.Operations.{value_at}
use Rattle.gsl_tree.specs.Values.{parts_in}
use Rattle.gsl_valid.specs.Kinds.{shape_of}
use Rattle.gsl_valid.specs.Types.{defined_as}
use Rattle.gsl_machine.specs.Memory.{bytes_of, into_block, into_variable, part_as, parts_as}
use Rattle.gsl_machine.specs.State.{Going, Held, Whole, InBlock, InVariable, Outcome, Pointer, Points, State, Strayed, Stuck, on}
use Rattle.gsl_lower_law_places.specs.Leading.{LeadsTo}

-- ---- a pointer that is shown

abbrev shows : State → Pointer → Outcome
shows state p = Going (record state { ids = λ id. Some (Points p) })

held_to : Pointer → Option Held → Pointer
held_to other None = other
held_to other (Some (Whole v)) = other
held_to other (Some (Points p)) = p

shown_by : Pointer → Outcome → Pointer
shown_by other (Going state) = held_to other (state.ids 0)
shown_by other _ = other

going_strayed : (state : State) → Strayed 0 ≡ Going state → ⊥
going_strayed state e = let z : Strayed 0 ≡ Going state = e in cc

going_stuck : (state : State) → Stuck ≡ Going state → ⊥
going_stuck state e = let z : Stuck ≡ Going state = e in cc

-- the part at an index of what a pointer leads to
abbrev pub part_of : Module → Pointer → ℕ → Option Pointer
part_of m (InBlock variable offset pointee) k = part_as m variable offset pointee k (shape_of (defined_as m pointee))
part_of m (InVariable number path) k = Some (InVariable number (path ++ k ∷ []))

module _ (m : Module) (input : Input) (state : State) where
  pub part_is : (to one : Pointer) (k : ℕ) → LeadsTo m input state to (k ∷ []) one → part_of m to k ≡ Some one
  unfolding shown_by held_to
  part_is (InVariable number path) one k leads = by (slice_get state.variables number) (leads 0 (shows state))
    where
      by_less : (b : Bool) → (if b then shows state (InVariable number (path ++ k ∷ [])) else Strayed 0) ≡ shows state one → Some (InVariable number (path ++ k ∷ [])) ≡ Some one
      by_less true e = ap (λ o. Some (shown_by one o)) e
      by_less false e = absurd (going_strayed (record state { ids = λ id. Some (Points one) }) e)

      by : (held : Option Value) → on held (into_variable m input 0 number path k (shows state)) ≡ shows state one → Some (InVariable number (path ++ k ∷ [])) ≡ Some one
      by None e = absurd (going_stuck (record state { ids = λ id. Some (Points one) }) e)
      by (Some v) e = by_less (nat_lt k (length (parts_in (value_at v path)))) e
  part_is (InBlock variable offset pointee) one k leads = by (bytes_of m input state variable) (leads 0 (shows state))
    where
      by_part : (part : Option Pointer) → on part (shows state) ≡ shows state one → part ≡ Some one
      by_part None e = absurd (going_stuck (record state { ids = λ id. Some (Points one) }) e)
      by_part (Some p) e = ap (λ o. Some (shown_by one o)) e

      by_less : (b : Bool) → (if b then on (part_as m variable offset pointee k (shape_of (defined_as m pointee))) (shows state) else Strayed 0) ≡ shows state one → part_as m variable offset pointee k (shape_of (defined_as m pointee)) ≡ Some one
      by_less true e = by_part (part_as m variable offset pointee k (shape_of (defined_as m pointee))) e
      by_less false e = absurd (going_strayed (record state { ids = λ id. Some (Points one) }) e)

      by : (held : Option (List ℕ)) → on held (into_block m input 0 variable offset pointee k (shows state)) ≡ shows state one → part_as m variable offset pointee k (shape_of (defined_as m pointee)) ≡ Some one
      by None e = absurd (going_stuck (record state { ids = λ id. Some (Points one) }) e)
      by (Some bytes) e = by_less (nat_lt k (parts_as m (length bytes) offset pointee (shape_of (defined_as m pointee)))) e
