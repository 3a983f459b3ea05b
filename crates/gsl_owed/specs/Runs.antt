-- A module does what a shader does.
use Rattle.std.specs.Prelude.{◌≡◌, ◌≢◌, ◌↔◌, ℕ, ◌+◌, ◌*◌, ◌≤◌, Ok}
use Rattle.gsl_base.specs.Proper.{IsProper}
use Rattle.gsl_base.specs.Ranges.{FitsTypes}
use Rattle.gsl_base.specs.declared.input.Input.{Input}
use Rattle.gsl_base.specs.declared.input.Output.{Output}
use Rattle.gsl_words.specs.declared.module.Module.{Module}
use Rattle.gsl_tree.specs.declared.program.Program.{Program}
use Rattle.gsl_meaning.specs.Fits as meaning_fits
use Rattle.gsl_meaning.specs.Shader as shader
use Rattle.gsl_machine.specs.Fits as machine_fits
use Rattle.gsl_machine.specs.Machine as machine
use Rattle.gsl_machine.specs.State as outcome
use Rattle.gsl_valid.specs.Placed.{words_from}

-- An input that a shader may be run on.
pub record IsFitting (p : Program) (input : Input) : Type 0 where
  pub proper : IsProper input
  pub types : FitsTypes input
  pub fits : meaning_fits.fits p input ≡ Ok tt

-- how many instructions a module may take for so many turns of loops and calls
abbrev pub limit : Module → ℕ → ℕ
limit m units = (units + 1) * words_from 0 m.instrs

-- The module does what the shader does.
pub record Runs (m : Module) (p : Program) : Type 0 where
  -- both refuse the same inputs, alike
  pub fits : (input : Input) → IsProper input → machine_fits.fits m input ≡ meaning_fits.fits p input
  -- where the shader ends, the module ends with the same output
  pub ends : (input : Input) → IsFitting p input → (units : ℕ) (output : Output) → shader.shader p units input ≡ shader.Ended output →
      (count : ℕ) × (count ≤ limit m units) × (machine.after m count input ≡ outcome.Ended output)
  -- where the shader goes on, so does the module
  pub goes : (input : Input) → IsFitting p input → (units : ℕ) → shader.shader p units input ≡ shader.Going →
      (state : outcome.State) × (machine.after m units input ≡ outcome.Going state)
  -- where the shader strays, so does the module
  pub strays : (input : Input) → IsFitting p input → (units : ℕ) → shader.shader p units input ≡ shader.Strayed →
      (count : ℕ) × (place : ℕ) × (count ≤ limit m units) × (machine.after m count input ≡ outcome.Strayed place)

-- From every fitting input on which the shader indexes in bounds, the module ends with an output exactly when the shader does.
abbrev pub EndAlike : Module → Program → Type 0
EndAlike m p =
    (input : Input) → IsFitting p input → ((units : ℕ) → shader.shader p units input ≢ shader.Strayed) → (output : Output) →
    ((count : ℕ) × (machine.after m count input ≡ outcome.Ended output)) ↔ ((units : ℕ) × (shader.shader p units input ≡ shader.Ended output))
