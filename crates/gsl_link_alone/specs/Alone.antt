-- What is said of a program that is taken as one unit.
use Rattle.std.specs.Prelude.{◌≡◌, ℕ, ◌<◌, List, [], length}
use Rattle.std.specs.List.{position_or_len}
use Rattle.gsl_tree.specs.declared.program.Program.{Program}
use Rattle.gsl_tree.specs.WellTyped.{Lists}
use Rattle.gsl_link_units.specs.Agreement.{same_function}
use Rattle.gsl_link_units.specs.Firsts.{again}
use Rattle.gsl_link_units.specs.Structs.{same_struct}
use Rattle.gsl_link_units.specs.Types.{new_number}
use Rattle.gsl_link_whole.specs.Numbers.{Numbering, same_block, same_interface, same_shared}
use Rattle.gsl_link_whole.specs.Whole.{is_main}

-- Each struct, shared variable, block, input and output, and head of a function of a program stands once, and its `main` is the first function
-- that may be it.
pub record StandsOnce (p : Program) : Type 0 where
  pub structs : again same_struct p.structs ≡ []
  pub globals : again same_shared p.globals ≡ []
  pub blocks : again same_block p.blocks ≡ []
  pub interfaces : again same_interface p.interfaces ≡ []
  pub heads : again same_function p.prototypes ≡ []
  pub main : p.main ≡ position_or_len (is_main p.prototypes) p.functions

-- numbers of which the first so many are those of their places
abbrev pub InRow : List ℕ → ℕ → Type 0
InRow numbers count = (k : ℕ) → k < count → new_number numbers k ≡ k

-- Each number of what is in these lists is its own new number.
pub record IsIdentity (n : Numbering) (lists : Lists) : Type 0 where
  pub structs : InRow n.structs (length lists.structs)
  pub globals : InRow n.globals (length lists.globals)
  pub blocks : InRow n.blocks (length lists.blocks)
  pub interfaces : InRow n.interfaces (length lists.interfaces)
  pub heads : InRow n.heads (length lists.prototypes)
