-- States that a run of a valid module comes to.
use Rattle.std.specs.Prelude.{◌≡◌, ℕ, Ok}
use Rattle.gsl_base.specs.Ranges.{FitsTypes}
use Rattle.gsl_base.specs.declared.input.Input.{Input}
use Rattle.gsl_words.specs.declared.module.Module.{Module}
use Rattle.gsl_valid.specs.Valid.{Valid}
use Rattle.gsl_machine.specs.Fits as input_fits
use Rattle.gsl_machine.specs.Machine.{after}
use Rattle.gsl_machine.specs.State.{Going, State}

-- A valid module comes to the state after some count of instructions from its start, on an input that fits it.
pub record Reached (m : Module) (input : Input) (state : State) : Type 0 where
  pub valid : Valid m
  pub types : FitsTypes input
  pub fits : input_fits.fits m input ≡ Ok tt
  pub count : ℕ
  pub comes : after m count input ≡ Going state
