-- What a run comes to from a state that it reached, it reaches.
use Rattle.std.proofs.Common.{◌≡◌, refl, ap, ◌∙◌, ℕ, ◌+◌, Ok}
use Rattle.gsl_base.specs.Ranges.{FitsTypes}
use Rattle.gsl_base.specs.declared.input.Input.{Input}
use Rattle.gsl_words.specs.declared.module.Module.{Module}
use Rattle.gsl_valid.specs.Valid.{Valid}
use Rattle.gsl_machine.specs.Fits.{fits}
use Rattle.gsl_machine.specs.Machine.{after, behind, run, start}
use Rattle.gsl_machine.specs.State.{Going, State}
use Rattle.gsl_machine.proofs.Over.{run_on}
use Rattle.gsl_lower_follows.specs.Reached.{Reached}
use Rattle.gsl_lower_follows.specs.Stretching.{Stretch}

module _ (m : Module) (input : Input) where
  -- it begins at its start
  pub reached_start : Valid m → FitsTypes input → fits m input ≡ Ok tt → Reached m input (start m input)
  unfolding after
  reached_start valid types fit = record { valid = valid; types = types; fits = fit; count = 0; comes = refl }

  pub reached_then : (count : ℕ) (state later : State) → Reached m input state → run m input count state ≡ Going later → Reached m input later
  unfolding after
  reached_then count state later reached runs = record {
    valid = reached.valid;
    types = reached.types;
    fits = reached.fits;
    count = reached.count + count;
    comes = run_on m input reached.count count (start m input) ∙ ap (λ o. behind o (run m input count)) reached.comes ∙ runs;
  }

  -- behind a stretch
  pub reached_by : {lent back units left : ℕ} {state later : State} → Reached m input state → Stretch m input lent back units state left (Going later) → Reached m input later
  reached_by {lent} {back} {units} {left} {state} {later} reached s = reached_then s.count state later reached s.runs
