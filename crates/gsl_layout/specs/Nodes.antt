-- What a node of the tree in memory stands for.
use Rattle.std.specs.Prelude.{◌≡◌, ℕ, ◌+◌, length, Some, None, ⊤}
use Rattle.gsl_layout.specs.Layout.{Layout, Leaf, Array, Runtime, Group, Parts, End, Part}
use Rattle.gsl_layout.specs.Parts.{parts_of}
use Rattle.gsl_layout.specs.declared.laid.Node.{Node}
use Rattle.gsl_layout.specs.declared.laid.Node.TheVariants as node

-- what a node stands for
abbrev pub layout_of : Node → Layout
layout_of (node.Leaf components) = Leaf components
layout_of (node.Array stride (Some count) element) = Array stride count element
layout_of (node.Array stride None element) = Runtime stride element
layout_of (node.Group offsets members all) = Group (parts_of offsets members) all

-- A group has one offset for each member.
abbrev pub IsPaired : Node → Type 0
IsPaired (node.Group offsets members all) = length offsets ≡ length members
IsPaired _ = ⊤

-- how many nodes a layout has
abbrev mutual
  pub nodes : Layout → ℕ
  nodes (Leaf components) = 1
  nodes (Array stride count element) = nodes element + 1
  nodes (Runtime stride element) = nodes element + 1
  nodes (Group members all) = nodes_of members + 1

  pub nodes_of : Parts → ℕ
  nodes_of End = 0
  nodes_of (Part offset layout rest) = nodes layout + nodes_of rest
