-- What a run comes to, beside its state.
use Rattle.std.specs.Prelude.{◌≡◌, ℕ, Option, Ok, Err}
use Rattle.gsl_base.specs.declared.input.Input.{Input}
use Rattle.gsl_instr.specs.declared.instruction.Instruction.{Instruction}
use Rattle.gsl_words.specs.declared.module.Module.{Module}
use Rattle.gsl_machine.specs.Fits.{fits}
use Rattle.gsl_machine.specs.Machine.{after}
use Rattle.gsl_machine.specs.State.{Ended, Going, Outcome, State, Strayed, Stuck, on}
use Rattle.gsl_machine.specs.Steps.{act}
use Rattle.gsl_enact_steps.specs.declared.step.Step.{Step}
use Rattle.gsl_enact_steps.specs.declared.step.Step.TheVariants as step
use Rattle.gsl_enact.specs.declared.enacting.Enacted.{Enacted}
use Rattle.gsl_enact.specs.declared.enacting.Enacted.TheVariants.{Came, Misfit}

-- An outcome without its state.
abbrev pub came : Outcome → Step
came (Going state) = step.Going
came (Ended output) = step.Ended output
came (Strayed place) = step.Strayed place
came Stuck = step.Stuck

-- An answer of a module on an input after so many instructions: the first refusal of the input, or what the module came to on one that fits.
abbrev pub Enacts : Module → Input → ℕ → Enacted → Type 0
Enacts m input count (Misfit refusal) = fits m input ≡ Err refusal
Enacts m input count (Came s) = (fits m input ≡ Ok tt) × (s ≡ came (after m count input))

-- what an instruction does, if there is one
abbrev pub acting : Module → Input → ℕ → State → Option Instruction → Outcome
acting m input place state instruction = on instruction (act m input place state)
