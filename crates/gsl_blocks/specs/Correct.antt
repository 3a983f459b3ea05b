-- What is proved of the order of blocks.
use Rattle.std.specs.Prelude.{ℕ, ◌≡◌, ◌↔◌, true, List, Option, Some}
use Rattle.gsl_blocks.specs.declared.block.Block.{Block}
use Rattle.gsl_blocks.specs.Blocks.{labels}
use Rattle.gsl_blocks.specs.Order.{IsOrdered}
use Rattle.gsl_blocks.specs.Reading.{nesting_of}
use Rattle.gsl_blocks.specs.Targets.{all_differ}

-- Where the labels of these blocks differ, this is how many of their constructs stand within each other, if they are in
-- order, and nothing else.
abbrev pub IsNesting : List Block → Option ℕ → Type 0
IsNesting bs found = all_differ (labels bs) ≡ true → (n : ℕ) → (found ≡ Some n) ↔ IsOrdered bs n

-- What is read of blocks whose labels differ is how many of their constructs stand within each other, if they are in order.
abbrev pub Decides : Type 0
Decides = (bs : List Block) → IsNesting bs (nesting_of bs)
