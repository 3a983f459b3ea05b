-- How long the buffers of an input may be for a program.
use Rattle.std.specs.Prelude.{◌≡◌, ℕ, slice_get, Some}
use Rattle.gsl_base.specs.declared.input.Input.{Input}
use Rattle.gsl_tree.specs.declared.program.Program.{Program}
use Rattle.gsl_tree.specs.declared.unit.Block.{Block}
use Rattle.gsl_lower_follows.specs.Sizes.{IsShort}

-- Where the program has a block, the count of the bytes of each buffer is a word, and so is that of the push constants.
abbrev pub IsShortFor : Program → Input → Type 0
IsShortFor p input = (number : ℕ) (block : Block) → slice_get p.blocks number ≡ Some block → IsShort input
