-- Strides that are multiples of 16.
use Rattle.std.specs.Prelude.{◌≡◌, ◌%◌, ⊤}
use Rattle.gsl_layout.specs.Layout.{Layout, Leaf, Array, Runtime, Group, Parts, End, Part}

-- Every array in a layout has such a stride.
abbrev mutual
  pub StridesOf16 : Layout → Type 0
  StridesOf16 (Leaf components) = ⊤
  StridesOf16 (Array stride count element) = (stride % 16 ≡ 0) × StridesOf16 element
  StridesOf16 (Runtime stride element) = (stride % 16 ≡ 0) × StridesOf16 element
  StridesOf16 (Group members all) = AllOf16 members

  pub AllOf16 : Parts → Type 0
  AllOf16 End = ⊤
  AllOf16 (Part offset layout rest) = StridesOf16 layout × AllOf16 rest
