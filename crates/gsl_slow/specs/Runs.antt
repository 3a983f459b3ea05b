-- What the slow program of a shader does to the buffer of its block.
use Rattle.std.specs.Prelude.{◌≡◌, ℕ, List, length}
use Rattle.gsl_base.specs.declared.input.Buffer.{Buffer}
use Rattle.gsl_form.specs.declared.program.Program.{Program}
use Rattle.gsl_cmd.specs.Buffers.{seen, put_words}
use Rattle.gsl_cmd.specs.Shader.{Got, Normal, run_statements}

-- The statements lead from the words of the block in these bytes to these words.
pub record LeadsTo (p : Program) (bytes words : List ℕ) : Type 0 where
  pub run : (choices : List ℕ) (units : ℕ) →
      run_statements p.statements (record { words = seen (length p.members) bytes; choices = choices }) units
      ≡ Got Normal (record { words = words; choices = choices }) units

-- The buffer has become what the statements make of it.
pub record IsRun (p : Program) (before after : Buffer) : Type 0 where
  pub words : List ℕ
  pub leads : LeadsTo p before.bytes words
  pub after_is : after ≡ record before { bytes = put_words 0 words before.bytes }
