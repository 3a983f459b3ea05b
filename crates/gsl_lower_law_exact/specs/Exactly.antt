-- What a module comes to on an input, and what its shader does (GLSL 4.50, 6.1 and 6.4; SPIR-V 1.0, 2.4).
use Rattle.std.specs.Prelude.{◌≡◌, ◌≢◌, ◌↔◌, ℕ, ◌≤◌}
use Rattle.gsl_base.specs.declared.input.Input.{Input}
use Rattle.gsl_base.specs.declared.input.Output.{Output}
use Rattle.gsl_words.specs.declared.module.Module.{Module}
use Rattle.gsl_tree.specs.declared.program.Program.{Program}
use Rattle.gsl_meaning.specs.Shader as shader
use Rattle.gsl_machine.specs.Machine as machine
use Rattle.gsl_machine.specs.State as outcome
use Rattle.gsl_owed.specs.Runs.{limit}

module _ (m : Module) (p : Program) (input : Input) where
  -- On the input the module does what the shader does.
  pub record Does : Type 0 where
    -- where the shader ends, the module ends with the same output
    pub ends : (units : ℕ) (output : Output) → shader.shader p units input ≡ shader.Ended output → (count : ℕ) × (count ≤ limit m units) × (machine.after m count input ≡ outcome.Ended output)
    -- where the shader goes on, so does the module
    pub goes : (units : ℕ) → shader.shader p units input ≡ shader.Going → (state : outcome.State) × (machine.after m units input ≡ outcome.Going state)
    -- where the shader strays, so does the module
    pub strays : (units : ℕ) → shader.shader p units input ≡ shader.Strayed → (count : ℕ) × (place : ℕ) × (count ≤ limit m units) × (machine.after m count input ≡ outcome.Strayed place)

  -- The module ends with an output exactly when the shader does, it strays exactly when the shader does, and it never comes to an instruction that is none.
  pub record EndsExactly : Type 0 where
    pub ended : (output : Output) → ((count : ℕ) × (machine.after m count input ≡ outcome.Ended output)) ↔ ((units : ℕ) × (shader.shader p units input ≡ shader.Ended output))
    pub strayed : ((count : ℕ) × (place : ℕ) × (machine.after m count input ≡ outcome.Strayed place)) ↔ ((units : ℕ) × (shader.shader p units input ≡ shader.Strayed))
    pub never_stuck : (count : ℕ) → machine.after m count input ≢ outcome.Stuck
