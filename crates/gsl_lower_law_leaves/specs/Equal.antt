-- Equality of values leaf by leaf (GLSL 4.50, 5.9).
use Rattle.std.specs.Prelude.{ℕ, Bool, true, ◌&&◌, not, ◌≤◌, List, [], ◌∷◌, map}
use Rattle.gsl_values.specs.declared.op.BinaryOp.{BinaryOp}
use Rattle.gsl_values.specs.declared.op.BinaryOp.TheVariants.{Unequal}
use Rattle.gsl_values.specs.declared.value.Value.{Value}
use Rattle.gsl_values.specs.Word.{word_of_bool}
use Rattle.gsl_tree.specs.Operations.{value_at}
use Rattle.gsl_tree.specs.Values.{same_value}
use Rattle.gsl_lower_places.specs.Reading.{number_in}
use Rattle.gsl_lower_leaves.specs.declared.leaf.Leaf.{Leaf}
use Rattle.gsl_lower_law_places.specs.OfLaw.{IsOf}

-- the scalar or vector to which the numbers of a leaf lead
abbrev pub leaf_in : Value → Leaf → Value
leaf_in v one = value_at v (map number_in one.path)

-- whether two values are equal in each leaf
abbrev pub same_leaves : Value → Value → List Leaf → Bool
same_leaves v w [] = true
same_leaves v w (one ∷ more) = same_value (leaf_in v one) (leaf_in w one) && same_leaves v w more

-- what an operator of equality tells of values that are equal or not
abbrev pub told : BinaryOp → Bool → ℕ
told Unequal same = word_of_bool (not same)
told which same = word_of_bool same

-- A value has each leaf: a scalar or vector of its shape.
abbrev pub HasLeaves : Value → List Leaf → Type 0
HasLeaves v [] = Unit {0}
HasLeaves v (one ∷ more) = ((1 ≤ one.shape.1) × IsOf one.shape (leaf_in v one)) × HasLeaves v more
