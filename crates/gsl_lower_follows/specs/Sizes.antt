-- How long the buffers of an input are.
use Rattle.std.specs.Prelude.{◌<◌, ◌^◌, length}
use Rattle.std.specs.List.{AllByRecursion}
use Rattle.std.specs.Option.{ForSome}
use Rattle.gsl_base.specs.declared.input.Buffer.{Buffer}
use Rattle.gsl_base.specs.declared.input.Input.{Input}

-- The count of the bytes of each buffer is a word, and so is that of the push constants.
pub record IsShort (input : Input) : Type 0 where
  pub buffers : AllByRecursion (λ (buffer : Buffer). length buffer.bytes < 2 ^ 32) input.buffers
  pub push : ForSome input.push (λ bytes. length bytes < 2 ^ 32)
