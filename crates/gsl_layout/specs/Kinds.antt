-- What stands at the top of a layout.
use Rattle.std.specs.Prelude.{ℕ, ◌+◌}
use Rattle.gsl_layout.specs.Layout.{Layout, Leaf, Array, Runtime, Group, Parts, End, Part}
use Rattle.gsl_layout.specs.declared.kind.Kind.{Kind}
use Rattle.gsl_layout.specs.declared.kind.Kind.TheVariants as kind

-- how many members there are
abbrev pub part_count : Parts → ℕ
part_count End = 0
part_count (Part offset layout rest) = part_count rest + 1

abbrev pub kind_of : Layout → Kind
kind_of (Leaf components) = kind.Leaf components
kind_of (Array stride count element) = kind.Array
kind_of (Runtime stride element) = kind.Array
kind_of (Group members all) = kind.Group (part_count members)
