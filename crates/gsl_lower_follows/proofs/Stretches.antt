-- Stretches in a row.
use Rattle.std.proofs.Common.{◌≡◌, refl, sym, ap, ◌∙◌, ℕ, suc, ◌+◌, ◌-◌, ◌≤◌, arith}
use Rattle.gsl_base.specs.declared.input.Input.{Input}
use Rattle.gsl_words.specs.declared.module.Module.{Module}
use Rattle.gsl_machine.specs.Machine.{behind, run, step}
use Rattle.gsl_machine.specs.State.{Ended, Going, Outcome, State, Strayed, Stuck}
use Rattle.gsl_machine.proofs.Over.{run_on}
use Rattle.gsl_lower_follows.specs.Following.{Lasts}
use Rattle.gsl_lower_follows.specs.Stretching.{Stretch, room, room_of, worth}

module _ (m : Module) (input : Input) where
  -- nothing is done
  pub stretch_none : (lent units : ℕ) (state : State) → Stretch m input lent lent units state units (Going state)
  stretch_none lent units state = record { count = 0; slow = omega arith; fast = omega arith; runs = refl }

  pub stretch_then : (lent back given units left last : ℕ) (state between : State) (outcome : Outcome)
      → Stretch m input lent back units state left (Going between) → Stretch m input back given left between last outcome → Stretch m input lent given units state last outcome
  stretch_then lent back given units left last state between outcome p q = record {
    count = p.count + q.count;
    slow = omega (arith, p.slow, q.slow);
    fast = omega (arith, p.fast, q.fast);
    runs = run_on m input p.count q.count state ∙ ap (λ o. behind o (run m input q.count)) p.runs ∙ q.runs;
  }

  -- a loan that goes through
  pub lent_through : (lent units left : ℕ) (state : State) (outcome : Outcome) → Stretch m input 0 0 units state left outcome → Stretch m input lent lent units state left outcome
  lent_through lent units left state outcome p = record { count = p.count; slow = p.slow; fast = omega (arith, p.fast); runs = p.runs }

  -- a loan that is not needed
  pub loan_unused : (lent units left : ℕ) (state : State) (outcome : Outcome) → Stretch m input 0 0 units state left outcome → Stretch m input lent 0 units state left outcome
  loan_unused lent units left state outcome p = record { count = p.count; slow = p.slow; fast = omega (arith, p.fast); runs = p.runs }

  -- so many instructions at no unit, where the code gets as much shorter
  pub stretch_of : (count units : ℕ) (state : State) (outcome : Outcome) → count + room_of outcome ≤ room state → run m input count state ≡ outcome → Stretch m input 0 0 units state units outcome
  stretch_of count units state outcome shorter runs = record { count = count; slow = omega arith; fast = omega (arith, shorter); runs = runs }

  behind_none : (o : Outcome) → behind o (run m input 0) ≡ o
  behind_none (Going state) = refl
  behind_none (Ended output) = refl
  behind_none (Strayed place) = refl
  behind_none Stuck = refl

  -- one instruction
  pub stretch_one : (units : ℕ) (state : State) (outcome : Outcome) → suc (room_of outcome) ≤ room state → step m input state ≡ outcome → Stretch m input 0 0 units state units outcome
  stretch_one units state outcome shorter is = stretch_of 1 units state outcome (omega (arith, shorter)) (ap (λ o. behind o (run m input 0)) is ∙ behind_none outcome)

  -- one instruction that takes a unit, and lends what that is worth
  pub stretch_unit : (units : ℕ) (state : State) (outcome : Outcome) → suc (room_of outcome) ≤ room state → step m input state ≡ outcome → Stretch m input 0 (worth m) (suc units) state units outcome
  stretch_unit units state outcome shorter is = record { count = 1; slow = omega arith; fast = omega (arith, shorter); runs = ap (λ o. behind o (run m input 0)) is ∙ behind_none outcome }

  -- one instruction that uses the loan, to where at most as many instructions more are to come
  pub stretch_back : (units : ℕ) (state : State) (outcome : Outcome) → suc (room_of outcome) ≤ worth m + room state → step m input state ≡ outcome → Stretch m input (worth m) 0 units state units outcome
  stretch_back units state outcome shorter is = record { count = 1; slow = omega arith; fast = omega (arith, shorter); runs = ap (λ o. behind o (run m input 0)) is ∙ behind_none outcome }

  -- ---- runs that go on

  was_going : (first second : ℕ) (state last : State) → run m input (first + second) state ≡ Going last → (between : State) × (run m input first state ≡ Going between)
  was_going first second state last is = by (run m input first state) (sym (run_on m input first second state) ∙ is)
    where
      by : (o : Outcome) → behind o (run m input second) ≡ Going last → (between : State) × (o ≡ Going between)
      by (Going between) e = (between, refl)
      by (Ended output) e = absurd cc
      by (Strayed place) e = absurd cc
      by Stuck e = absurd cc

  pub lasts_behind : (lent back units left : ℕ) (state between : State) → Stretch m input lent back units state left (Going between) → Lasts m input left between → Lasts m input units state
  lasts_behind lent back units left state between p q =
      let all : run m input (p.count + left) state ≡ Going q.later = run_on m input p.count left state ∙ ap (λ o. behind o (run m input left)) p.runs ∙ q.runs in
      let e : p.count + left ≡ units + (p.count + left - units) = omega (arith, p.slow) in
      let r = was_going units (p.count + left - units) state q.later (ap (λ n. run m input n state) (sym e) ∙ all) in
      record { later = r.0; runs = r.1 }

  pub lasts_at_once : (state : State) → Lasts m input 0 state
  lasts_at_once state = record { later = state; runs = refl }
