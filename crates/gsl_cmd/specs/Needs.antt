-- What a shader or a module asks of an input, and which inputs meet it.
use Rattle.std.specs.Prelude.{ℕ, Bool, true, false, nat_lt, ◌&&◌, if◌then◌else◌, List, [], ◌∷◌, length, Option, Some, None, Result, Ok, Err, ⊤}
use Rattle.gsl_base.specs.declared.input.Buffer.{Buffer}
use Rattle.gsl_base.specs.declared.input.Input.{Input}
use Rattle.gsl_base.specs.declared.input.InputRefusal.{InputRefusal}
use Rattle.gsl_base.specs.declared.input.InputRefusal.TheVariants.{NoBuffer, TooShort, BadIds}
use Rattle.gsl_cmd.specs.Buffers.{bytes_at}

-- A block by its set and binding, and how many bytes it needs.
pub record Block : Type 0 where
  pub set : ℕ
  pub binding : ℕ
  pub need : ℕ

-- The blocks in ascending order of set and binding, and for compute the size of a work group.
pub record Needs : Type 0 where
  pub blocks : List Block
  pub local_size : Option (List ℕ)

-- an input meets a demand, or this is its first refusal
abbrev pub Met : Type 0
Met = Result ⊤ InputRefusal

-- goes on where a demand is met
abbrev pub and_met : Met → Met → Met
and_met (Ok x) later = later
and_met (Err refusal) later = Err refusal

-- the buffer of a block is there before it is long enough
abbrev pub given : Block → Option (List ℕ) → Met
given block None = Err (NoBuffer block.set block.binding)
given block (Some bytes) = if nat_lt (length bytes) block.need then Err (TooShort block.set block.binding) else Ok tt

-- the blocks in their order
abbrev pub blocks_met : List Block → List Buffer → Met
blocks_met [] buffers = Ok tt
blocks_met (block ∷ blocks) buffers = and_met (given block (bytes_at buffers block.set block.binding)) (blocks_met blocks buffers)

-- whether each part is below its bound
abbrev pub all_below : List ℕ → List ℕ → Bool
all_below [] bounds = true
all_below (part ∷ parts) [] = false
all_below (part ∷ parts) (bound ∷ bounds) = nat_lt part bound && all_below parts bounds

-- the invocation is one of its work group, and the work group one of those that are run
abbrev pub ids_met : Option (List ℕ) → Input → Met
ids_met None input = Ok tt
ids_met (Some size) input = if all_below input.local size && all_below input.group input.groups then Ok tt else Err BadIds

-- the answer of an input: Ok, or the first refusal
abbrev pub meets : Needs → Input → Met
meets needs input = and_met (blocks_met needs.blocks input.buffers) (ids_met needs.local_size input)
