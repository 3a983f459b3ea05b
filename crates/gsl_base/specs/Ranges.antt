-- Bytes and words, and inputs whose numbers are in the ranges of their types.
use Rattle.std.specs.Prelude.{◌≡◌, ℕ, ◌^◌, ◌<◌, List, length}
use Rattle.std.specs.Option.{ForSome}
use Rattle.std.specs.List.{AllByRecursion}
use Rattle.gsl_base.specs.declared.input.Buffer.{Buffer}
use Rattle.gsl_base.specs.declared.input.Located.{Located}
use Rattle.gsl_base.specs.declared.input.Input.{Input}

-- Each is a byte.
abbrev pub AreBytes : List ℕ → Type 0
AreBytes bytes = AllByRecursion (λ byte. byte < 256) bytes

-- Each is a word.
abbrev pub AreWords : List ℕ → Type 0
AreWords words = AllByRecursion (λ word. word < 2 ^ 32) words

-- They are the three parts of a number of a work group or of an invocation
abbrev pub AreThreeWords : List ℕ → Type 0
AreThreeWords words = (length words ≡ 3) × AreWords words

-- The numbers of a buffer are in their ranges.
pub record FitsBuffer (buffer : Buffer) : Type 0 where
  pub set : buffer.set < 2 ^ 32
  pub binding : buffer.binding < 2 ^ 32
  pub bytes : AreBytes buffer.bytes

-- The numbers of a value at a location are in their ranges.
pub record FitsLocated (value : Located) : Type 0 where
  pub location : value.location < 2 ^ 32
  pub words : AreWords value.words

-- Each number of the input is in the range of its type.
pub record FitsTypes (input : Input) : Type 0 where
  pub buffers : AllByRecursion FitsBuffer input.buffers
  pub push : ForSome input.push AreBytes
  pub ins : AllByRecursion FitsLocated input.ins
  pub group : AreThreeWords input.group
  pub local : AreThreeWords input.local
  pub groups : AreThreeWords input.groups
  pub vertex : input.vertex < 2 ^ 32
  pub instance : input.instance < 2 ^ 32
  pub choices : AreWords input.choices
