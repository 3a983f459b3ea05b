-- Leaves at the offsets of a layout, and values with the leaves of another as they lie in a class.
use Rattle.std.specs.Prelude.{ℕ, List, [], ◌∷◌}
use Rattle.gsl_layout.specs.Layout.{Layout, Leaf as Run}
use Rattle.gsl_values.specs.declared.value.Value.{Value}
use Rattle.gsl_tree.specs.Operations.{with_value_at}
use Rattle.gsl_views.specs.Paths.{Leads}
use Rattle.gsl_lower_places.specs.Reached.{stored_shape}
use Rattle.gsl_lower_leaves.specs.declared.leaf.Leaf.{Leaf}
use Rattle.gsl_lower_law.specs.Operands.{converted_value}
use Rattle.gsl_lower_law_copies.specs.OfLawLeaves.{leaf_in}
use Rattle.gsl_lower_law_copies.specs.Copying.{Place, numbers_of}

-- In so many bytes, the numbers of leaves lead from a layout to runs at the offsets of places, in their order.
abbrev pub ArePlaced : ℕ → Layout → ℕ → List Leaf → List Place → Type 0
ArePlaced size l at [] [] = Unit {0}
ArePlaced size l at [] (place ∷ places) = ⊥
ArePlaced size l at (one ∷ more) [] = ⊥
ArePlaced size l at (one ∷ more) (place ∷ places) = Leads size l at (numbers_of one) (Run one.shape.1) place.offset × ArePlaced size l at more places

-- a value with the leaves of another, one after the other, as they lie in a class
abbrev pub with_leaves : ℕ → Value → Value → List Leaf → Value
with_leaves class old v [] = old
with_leaves class old v (one ∷ more) = with_leaves class (with_value_at old (numbers_of one) (converted_value (stored_shape class one.shape).0 (leaf_in v one))) v more
