-- What a store leaves where a pointer leads (SPIR-V 1.0, 3.32.8).
use Rattle.std.specs.Prelude.{◌≡◌, ℕ, List, [], ◌∷◌, length, set, Option, Some, None}
use Rattle.gsl_base.specs.declared.input.Buffer.{Buffer}
use Rattle.gsl_base.specs.declared.input.Input.{Input}
use Rattle.gsl_words.specs.declared.module.Module.{Module}
use Rattle.gsl_values.specs.declared.value.Value.{Value}
use Rattle.gsl_tree.specs.Values.{components_in, of_components}
use Rattle.gsl_instr.specs.declared.enumerant.decoration.TheConstants as decoration
use Rattle.gsl_valid.specs.Decorations.{number_on}
use Rattle.gsl_valid.specs.Kinds.{OfVector, shape_of}
use Rattle.gsl_valid.specs.Placed.{Placed}
use Rattle.gsl_valid.specs.Types.{defined_as, lanes_of}
use Rattle.gsl_lower_law_constructors.specs.OfMachine.{size_of, storing, with_bytes_if}
use Rattle.gsl_lower_law_constructors.specs.OfMachine.{Ids, Outcome, Pointer, State}

-- A value that is stored where a pointer leads leaves these variables and buffers, whatever ids stand for and is still to come.
abbrev pub Stores : Module → Input → State → Pointer → Value → List Value → List Buffer → Type 0
Stores m input state to v variables buffers = (ids : Ids) (choices : List ℕ) (rest : List Placed) (go : State → Outcome)
    → storing m input (record state { ids = ids; choices = choices; rest = rest }) to v go ≡ go (record state { ids = ids; choices = choices; rest = rest; variables = variables; buffers = buffers })

-- the positions to which the components of a new value go: that of a word, where there is one
abbrev pub goes_to : Option ℕ → List ℕ → List ℕ
goes_to None positions = positions
goes_to (Some number) positions = number ∷ []

-- As many components are stored as there are positions; by a word it is one.
abbrev pub AreStored : Option ℕ → List ℕ → Type 0
AreStored None positions = Unit {0}
AreStored (Some number) positions = length positions ≡ 1

-- words with others at some positions, one after the other: where a position stands several times, the last word stays
abbrev pub set_each : List ℕ → List ℕ → List ℕ → List ℕ
set_each (position ∷ positions) (word ∷ words) old = set_each positions words (set old position word)
set_each _ _ old = old

-- a scalar or vector with the components of another at some positions
abbrev pub with_components : Value → List ℕ → Value → Value
with_components v positions new = of_components (set_each positions (components_in new) (components_in v))

-- ---- blocks

-- A type is that of vectors of so many components of a type.
pub record IsVectorType (m : Module) (type component count : ℕ) : Type 0 where
  pub is : shape_of (defined_as m type) ≡ OfVector component count
  pub size : size_of (lanes_of m type) ≡ count
  pub part : size_of (lanes_of m component) ≡ 1

-- the buffers where the variable of a block has these bytes
abbrev pub buffers_with : Module → State → ℕ → List ℕ → List Buffer
buffers_with m state variable bytes = with_bytes_if state.buffers (number_on m decoration.DESCRIPTOR_SET variable) (number_on m decoration.BINDING variable) bytes
