-- Each state that a run of a valid module reaches is good, and it is never stuck.
use Rattle.std.proofs.Common.{◌≡◌, subst, ℕ, Ok}
use Rattle.gsl_base.specs.declared.input.Input.{Input}
use Rattle.gsl_words.specs.declared.module.Module.{Module}
use Rattle.gsl_valid.specs.Valid.{Valid}
use Rattle.gsl_machine.specs.Fits.{fits}
use Rattle.gsl_machine.specs.Machine.{after, start}
use Rattle.gsl_machine.specs.State.{Going, State}
use Rattle.gsl_sound_code.proofs.Looks.{kept}
use Rattle.gsl_sound.specs.Sound.{Fine, Good, IsNeverStuck}
use Rattle.gsl_sound.proofs.Started.{good_start}
use Rattle.gsl_sound.proofs.Steps.{fine_run}

pub fine_after : (m : Module) (input : Input) → Valid m → fits m input ≡ Ok tt → (count : ℕ) → Fine m input (after m count input)
unfolding after
fine_after m input valid fit count = fine_run m (kept m valid) input count (start m input) (good_start m (kept m valid) input fit)

pub never_stuck : (m : Module) (input : Input) → IsNeverStuck m input
never_stuck m input valid fit count stuck = subst (Fine m input) stuck (fine_after m input valid fit count)

pub reached_good : (m : Module) (input : Input) (count : ℕ) (state : State) → Valid m → fits m input ≡ Ok tt → after m count input ≡ Going state → Good m input state
reached_good m input count state valid fit is = subst (Fine m input) is (fine_after m input valid fit count)
