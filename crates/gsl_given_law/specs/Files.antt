-- What files hold, and how long those are that a run is given.
use Rattle.std.specs.Prelude.{◌≡◌, ◌<◌, ◌^◌, ℕ, List, length, Some}
use Rattle.std.specs.List.{AllByRecursion}
use Rattle.std.specs.Option.{ForSome}
use Rattle.std.specs.FinMap.{get}
use Rattle.gsl_base.specs.Ranges.{AreBytes}
use Rattle.gsl_base.specs.declared.input.Buffer.{Buffer}
use Rattle.gsl_base.specs.declared.input.Input.{Input}
use Rattle.gsl_host.specs.Outside.{Files, Name}

-- Each file holds bytes.
abbrev pub HoldBytes : Files → Type 0
HoldBytes files = (name : Name) (bytes : List ℕ) → get files name ≡ Some bytes → AreBytes bytes

-- The count of the bytes of each buffer is a word, and so is that of the push constants.
pub record AreShort (input : Input) : Type 0 where
  pub buffers : AllByRecursion (λ (buffer : Buffer). length buffer.bytes < 2 ^ 32) input.buffers
  pub push : ForSome input.push (λ bytes. length bytes < 2 ^ 32)
