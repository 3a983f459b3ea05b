-- Which inputs fit a program, and the first refusal of any other.
use Rattle.std.specs.Prelude.{ℕ, zero, suc, ◌+◌, Bool, not, ◌==◌, ◌&&◌, ◌||◌, if◌then◌else◌, List, [], ◌∷◌, Option, Ok, Err}
use Rattle.gsl_base.specs.declared.input.Input.{Input}
use Rattle.gsl_base.specs.declared.input.InputRefusal.{InputRefusal}
use Rattle.gsl_base.specs.declared.input.InputRefusal.TheVariants.{NoBuffer, TooShort, NoPush, PushShort, NoValue, BadIds}
use Rattle.gsl_types.specs.Conversions.{components}
use Rattle.gsl_tree.specs.declared.program.Program.{Program}
use Rattle.gsl_tree.specs.declared.unit.Block.{Block}
use Rattle.gsl_tree.specs.declared.unit.Interface.{Interface}
use Rattle.gsl_tree.specs.WellTyped.{is_compute, is_push}
use Rattle.gsl_meaning.specs.Blocks.{given_bytes}
use Rattle.gsl_inputs.specs.Demands.{Met, all_below, and_met, bytes_met, has_words}
use Rattle.gsl_inputs.specs.Given.{words_at}
use Rattle.gsl_meaning.specs.Stages.{locations}

abbrev pub absent : Block → InputRefusal
absent block = if is_push block.kind then NoPush else NoBuffer block.set block.binding

abbrev pub short : Block → InputRefusal
short block = if is_push block.kind then PushShort else TooShort block.set block.binding

-- the buffer of a block is there before it is long enough
abbrev pub is_given : Block → Option (List ℕ) → Met
is_given block bytes = bytes_met (absent block) (short block) block.need bytes

-- the blocks in their order
abbrev pub blocks_met : List Block → Input → Met
blocks_met [] input = Ok tt
blocks_met (block ∷ blocks) input = and_met (is_given block (given_bytes input block)) (blocks_met blocks input)

-- an input at a location has no value, or one of too few words
abbrev pub is_wanting : Input → ℕ → Interface → Bool
is_wanting input location i = not i.output && i.location == location && not (has_words (components i.ty) (words_at input.ins location))

-- the inputs at a location
abbrev pub value_met : Input → ℕ → List Interface → Met
value_met input location [] = Ok tt
value_met input location (i ∷ interfaces) = if is_wanting input location i then Err (NoValue location) else value_met input location interfaces

-- the inputs at so many locations from one on, in ascending order
abbrev pub values_from : List Interface → Input → ℕ → ℕ → Met
values_from interfaces input location zero = Ok tt
values_from interfaces input location (suc count) = and_met (value_met input location interfaces) (values_from interfaces input (location + 1) count)

-- the inputs in ascending order of location
unfoldable pub values_met : List Interface → Input → Met
values_met interfaces input = values_from interfaces input 0 locations

-- the invocation is one of its work group, and the work group one of those that are run
abbrev pub ids_met : Program → Input → Met
ids_met p input = if not (is_compute p.stage) || (all_below input.local p.local_size && all_below input.group input.groups) then Ok tt else Err BadIds

-- the answer of an input: Ok, or the first refusal
abbrev pub fits : Program → Input → Met
fits p input =
    and_met (blocks_met p.blocks input) (and_met (values_met p.interfaces input) (ids_met p input))
