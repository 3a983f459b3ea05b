-- Operands that operators take, and what is said of values beside the operations of the language.
use Rattle.std.specs.Prelude.{◌≡◌, ℕ, ◌⊎◌, Bool, false, List, [], ◌∷◌, length, map, slice_index, Option, Some, None, if◌then◌else◌}
use Rattle.std.specs.List.{range_with_len}
use Rattle.gsl_types.specs.declared.ty.Scalar.{Scalar}
use Rattle.gsl_values.specs.declared.value.Value.{Value}
use Rattle.gsl_values.specs.declared.op.BinaryOp.{BinaryOp}
use Rattle.gsl_values.specs.declared.op.BinaryOp.TheVariants.{Equal, Unequal}
use Rattle.gsl_tree.specs.Operations.{converted, decides, is_signed_scalar, logic_word}
use Rattle.gsl_tree.specs.Shapes.{Shape}
use Rattle.gsl_tree.specs.declared.expr.LogicOp.{LogicOp}
use Rattle.gsl_tree.specs.Values.{components_in, of_components}
use Rattle.gsl_machine.specs.State.{Ids}
use Rattle.gsl_lower_values.specs.Constructors.{place_among}
use Rattle.gsl_lower_values.specs.declared.operand.Operand.{Operand}
use Rattle.gsl_lower_law.specs.Values.{IsOf, Stands}

-- Both have as many components, or one is a scalar.
abbrev pub Beside : ℕ → ℕ → Type 0
Beside a b = (a ≡ b) ⊎ ((a ≡ 1) ⊎ (b ≡ 1))

-- Operands of these counts of components are those of an operator: what is compared has as many.
abbrev pub Fit : BinaryOp → ℕ → ℕ → Type 0
Fit Equal a b = a ≡ b
Fit Unequal a b = a ≡ b
Fit which a b = Beside a b

-- a scalar or vector with each component as one of a scalar type
abbrev pub converted_value : Scalar → Value → Value
converted_value to v = of_components (map (converted to) (components_in v))

-- what a logical operator gives on two words: the first where that decides
abbrev pub logic_answer : LogicOp → ℕ → ℕ → ℕ
logic_answer which a b = if decides which a then a else logic_word which a b

-- Operands stand for values of their shapes, in their order.
abbrev pub AllStand : Ids → List Operand → List Value → Type 0
AllStand ids [] [] = Unit {0}
AllStand ids [] (v ∷ vs) = ⊥
AllStand ids (a ∷ args) [] = ⊥
AllStand ids (a ∷ args) (v ∷ vs) = IsOf a.shape v × Stands ids a.id v × AllStand ids args vs

-- whether the first is of ints
abbrev pub first_signed : List Operand → Bool
first_signed [] = false
first_signed (a ∷ args) = is_signed_scalar a.shape.0

abbrev pub shapes_of : List Operand → List Shape
shapes_of args = map (λ a. a.shape) args

-- the components at some positions, as a scalar or vector of its own
abbrev pub picked_value : Value → List ℕ → Value
picked_value v positions = of_components (map (slice_index (components_in v)) positions)

-- a component of a vector where the new ones stand at some positions: the new one that stands there, or the old one
abbrev pub new_or_old : List ℕ → List ℕ → Option ℕ → ℕ → ℕ
new_or_old old new None position = slice_index old position
new_or_old old new (Some place) position = slice_index new place

-- a vector with the components of another at some positions
abbrev pub replaced_value : Value → List ℕ → Value → Value
replaced_value v positions new =
    of_components (map (λ position. new_or_old (components_in v) (components_in new) (place_among position positions 0) position) (range_with_len 0 (length (components_in v))))
