-- A run that is over stays over.
use Rattle.std.proofs.Common.{◌≡◌, refl, ap, ◌∙◌, ℕ, zero, suc, ◌+◌, arith}
use Rattle.gsl_base.specs.declared.input.Input.{Input}
use Rattle.gsl_words.specs.declared.module.Module.{Module}
use Rattle.gsl_machine.specs.Laws.{IsOver}
use Rattle.gsl_machine.specs.Machine.{after, behind, run, start, step}
use Rattle.gsl_machine.specs.State.{Ended, Going, Outcome, State, Strayed, Stuck}

module _ (m : Module) (input : Input) where
  behind_step : (first second : ℕ) → ((s : State) → run m input (first + second) s ≡ behind (run m input first s) (run m input second)) → (r : Outcome)
      → behind r (run m input (first + second)) ≡ behind (behind r (run m input first)) (run m input second)
  behind_step first second later (Going s) = later s
  behind_step first second later (Ended output) = refl
  behind_step first second later (Strayed place) = refl
  behind_step first second later Stuck = refl

  -- so many instructions, and then so many more
  pub run_on : (first second : ℕ) (s : State) → run m input (first + second) s ≡ behind (run m input first s) (run m input second)
  run_on zero second s = ap (λ n. run m input n s) (let e : zero + second ≡ second = omega arith in e)
  run_on (suc first) second s =
      ap (λ n. run m input n s) (let e : suc first + second ≡ suc (first + second) = omega arith in e) ∙ behind_step first second (run_on first second) (step m input s)

  stays : (r : Outcome) (more : ℕ) → IsOver r → behind r (run m input more) ≡ r
  stays (Going s) more over = elim over [ ]
  stays (Ended output) more over = refl
  stays (Strayed place) more over = refl
  stays Stuck more over = refl

  pub stays_over : (count more : ℕ) → IsOver (after m count input) → after m (count + more) input ≡ after m count input
  unfolding after
  stays_over count more over = run_on count more (start m input) ∙ stays (run m input count (start m input)) more over
