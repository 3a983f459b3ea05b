-- Each child of a layout has fewer nodes.
use Rattle.std.specs.Prelude.{◌≡◌, ℕ, ◌+◌, ◌≤◌, List, [], ◌∷◌, length, Some, None}
use Rattle.std.proofs.Common.{arith}
use denote.Param.Weighed.{most}
use Rattle.gsl_layout.specs.Layout.{Layout}
use Rattle.gsl_layout.specs.Parts.{parts_of}
use Rattle.gsl_layout.specs.Nodes.{layout_of, IsPaired, nodes, nodes_of}
use Rattle.gsl_layout.specs.declared.laid.Node.{Node}
use Rattle.gsl_layout.specs.declared.laid.Node.TheVariants as node
use Rattle.gsl_layout.specs.declared.laid.Laid.TheDeep.{deep-Node}

most_le : (offsets : List ℕ) (members : List Layout) → length offsets ≡ length members → most (λ layout. nodes layout + 1) members ≤ nodes_of (parts_of offsets members) + 1
most_le offsets [] paired = omega arith
most_le [] (layout ∷ members) paired = omega (arith, paired)
most_le (offset ∷ offsets) (layout ∷ members) paired = omega (arith, most_le offsets members (omega (arith, paired)))

pub falls : (n : Node) → IsPaired n → deep-Node n ≤ nodes (layout_of n)
falls (node.Leaf components) paired = omega arith
falls (node.Array stride (Some count) element) paired = omega arith
falls (node.Array stride None element) paired = omega arith
falls (node.Group offsets members all) paired = omega (arith, most_le offsets members paired)
