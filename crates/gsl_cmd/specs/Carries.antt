-- A module does what a shader does.
use Rattle.std.specs.Prelude.{◌≡◌, ◌≢◌, ◌↔◌, ℕ, ◌+◌, ◌*◌, ◌≤◌, Ok}
use Rattle.gsl_base.specs.declared.input.Input.{Input}
use Rattle.gsl_base.specs.declared.input.Output.{Output}
use Rattle.gsl_words.specs.declared.module.Module.{Module}
use Rattle.gsl_valid.specs.Valid.{Valid}
use Rattle.gsl_form.specs.declared.program.Program.{Program}
use Rattle.gsl_cmd.specs.Places.{Places}
use Rattle.gsl_base.specs.Proper.{IsProper}
use Rattle.gsl_base.specs.Ranges.{FitsTypes}
use Rattle.gsl_cmd.specs.Shader as shader
use Rattle.gsl_cmd.specs.Machine as machine
use Rattle.gsl_cmd.specs.Fits.{fits, fits_module}

-- An input that a shader may be run on.
pub record IsFitting (p : Program) (input : Input) : Type 0 where
  pub proper : IsProper input
  pub types : FitsTypes input
  pub fits : fits p input ≡ Ok tt

-- how many instructions a module may take for so many loop turns and calls
abbrev pub limit : Module → ℕ → ℕ
limit m units = (units + 1) * machine.words_of m.instrs

-- The module does what the shader does.
pub record Runs (m : Module) (p : Program) : Type 0 where
  -- both refuse the same inputs, alike
  pub fits : (input : Input) → IsProper input → fits_module m input ≡ fits p input
  -- where the shader ends, the module ends with the same output
  pub ends : (input : Input) → IsFitting p input → (units : ℕ) (output : Output) → shader.shader p units input ≡ shader.Ended output →
      (k : ℕ) × (k ≤ limit m units) × (machine.after m k input ≡ machine.Ended output)
  -- where the shader goes on, so does the module
  pub goes : (input : Input) → IsFitting p input → (units : ℕ) → shader.shader p units input ≡ shader.Going →
      (s : machine.State) × (machine.after m units input ≡ machine.Going s)
  -- where the shader strays, so does the module
  pub strays : (input : Input) → IsFitting p input → (units : ℕ) → shader.shader p units input ≡ shader.Strayed →
      (k : ℕ) × (place : ℕ) × (k ≤ limit m units) × (machine.after m k input ≡ machine.Strayed place)

-- The module carries the program: it is valid, puts everything where it belongs, and does what the shader does.
pub record Carries (m : Module) (p : Program) : Type 0 where
  pub valid : Valid m
  pub placed : Places m p
  pub runs : Runs m p

-- From every fitting input on which the shader indexes in bounds, the module ends with an output exactly when the shader does.
abbrev pub EndAlike : Module → Program → Type 0
EndAlike m p =
    (input : Input) → IsFitting p input → ((units : ℕ) → shader.shader p units input ≢ shader.Strayed) → (output : Output) →
    ((k : ℕ) × (machine.after m k input ≡ machine.Ended output)) ↔ ((units : ℕ) × (shader.shader p units input ≡ shader.Ended output))
