-- The lists of units joined, item by item as they are declared.
use Rattle.std.specs.Prelude.{ℕ, List, [], ◌∷◌, map, bytes_eq}
use Rattle.std.specs.List.{position_or_len}
use Rattle.indexmap.specs.IndexSet.{insert_all}
use Rattle.gsl_tree.specs.declared.unit.Block.{Block}
use Rattle.gsl_tree.specs.declared.unit.Interface.{Interface}
use Rattle.gsl_tree.specs.declared.unit.Prototype.{Prototype}
use Rattle.gsl_link_units.specs.Declarations.{Side}
use Rattle.gsl_link_units.specs.Agreement.{same_function}
use Rattle.gsl_link_whole.specs.Numbers.{same_block, same_interface}
use Rattle.gsl_link_structs.specs.Keys.{head_words}

-- each block that is declared, behind those that are there
abbrev pub blocks_behind : List Block → List Side → List Block
blocks_behind blocks [] = blocks
blocks_behind blocks (side ∷ sides) = blocks_behind (insert_all same_block blocks side.unit.blocks) sides

-- each input and output
abbrev pub interfaces_behind : List Interface → List Side → List Interface
interfaces_behind interfaces [] = interfaces
interfaces_behind interfaces (side ∷ sides) = interfaces_behind (insert_all same_interface interfaces side.unit.interfaces) sides

-- each head of a function
abbrev pub heads_behind : List Prototype → List Side → List Prototype
heads_behind heads [] = heads
heads_behind heads (side ∷ sides) = heads_behind (insert_all same_function heads side.unit.prototypes) sides

-- ---- what each kind is found by

abbrev pub block_names : List Block → List (List ℕ)
block_names blocks = map (λ (block : Block). block.name) blocks

abbrev pub interface_names : List Interface → List (List ℕ)
interface_names interfaces = map (λ (i : Interface). i.name) interfaces

abbrev pub head_keys : List Prototype → List (List ℕ)
head_keys heads = map head_words heads

-- the places of what a unit declares, in lists with these names or keys
abbrev pub block_places : List (List ℕ) → List Block → List ℕ
block_places names blocks = map (λ (block : Block). position_or_len (bytes_eq block.name) names) blocks

abbrev pub interface_places : List (List ℕ) → List Interface → List ℕ
interface_places names interfaces = map (λ (i : Interface). position_or_len (bytes_eq i.name) names) interfaces

abbrev pub head_places : List (List ℕ) → List Prototype → List ℕ
head_places keys heads = map (λ (p : Prototype). position_or_len (bytes_eq (head_words p)) keys) heads
