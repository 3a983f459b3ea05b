-- Turns of a loop: there are no more of them than units.
use Rattle.std.proofs.Common.{◌≡◌, refl, ◌∙◌, ℕ, zero, suc, ◌+◌, ◌<◌, ◌≤◌, arith}
use Rattle.std.specs.Prelude.{Bool, true, false}
use Rattle.gsl_meaning.specs.State.{State}
use Rattle.gsl_meaning.specs.Running.{Ran, Run, Got, Ends, Strays, Goes, behind, given, ◌>>=◌}
use Rattle.gsl_meaning.specs.Statements.{Flow, Normal, Broke, Continued, Returned, again_if, all_turns, behind_body, turns}
use Rattle.gsl_meaning.specs.Lasting.{Keeps, Lasts}
use Rattle.gsl_flow.specs.Flows.{flow_of}
use Rattle.gsl_flow.specs.Performing.{again_or, turn_behind}
use Rattle.gsl_flow.specs.declared.left.Turn.{Turn}
use Rattle.gsl_flow.specs.declared.left.Turn.TheVariants.{Again, Over}

-- no more units are left than these
abbrev Below : {A : Type 0} → ℕ → Ran A → Type 0
Below most (Got a state units) = units ≤ most
Below most (Ends state) = Unit {0}
Below most Strays = Unit {0}
Below most Goes = Unit {0}

keeps_below : {A : Type 0} (r later : Ran A) (more most : ℕ) → Keeps r later more most → Below most r
keeps_below (Got a state units) later more most (is, below) = below
keeps_below (Ends state) later more most is = tt
keeps_below Strays later more most is = tt
keeps_below Goes later more most is = tt

below : {A : Type 0} (run : Run A) → Lasts run → (state : State) (units : ℕ) → Below units (run state units)
below run lasts state units = keeps_below (run state units) (run state (units + 0)) 0 units (lasts.keeps state units 0)

-- what goes on the same, as far as there are units, comes to the same
same : {A B : Type 0} (most : ℕ) (r : Ran A) (next other : A → Run B) → Below most r → ((a : A) (state : State) (units : ℕ) → units ≤ most → next a state units ≡ other a state units) → behind r next ≡ behind r other
same most (Got a state units) next other few is = is a state units few
same most (Ends state) next other few is = refl
same most Strays next other few is = refl
same most Goes next other few is = refl

module _ (test : Run Bool) (step body : Run Flow) (test_lasts : Lasts test) (step_lasts : Lasts step) (body_lasts : Lasts body) where
  -- what follows the body of a turn, where these are the later turns
  abbrev on : Run Flow → Run Flow
  on later = step >>= (λ flow. test >>= again_if later)

  again_same : (later other : Run Flow) (b : Bool) (state : State) (units : ℕ) → later state units ≡ other state units → again_if later b state units ≡ again_if other b state units
  again_same later other true state units is = is
  again_same later other false state units is = refl

  on_same : (most : ℕ) (later other : Run Flow) → ((state : State) (units : ℕ) → units ≤ most → later state units ≡ other state units) → (state : State) (units : ℕ) → units ≤ most → on later state units ≡ on other state units
  on_same most later other is state units few =
      same units (step state units) (λ flow. test >>= again_if later) (λ flow. test >>= again_if other) (below step step_lasts state units)
      (λ flow s u le. same u (test s u) (again_if later) (again_if other) (below test test_lasts s u)
      (λ b t v less. again_same later other b t v (is t v (omega (arith, few, le, less)))))

  left_same : (most : ℕ) (later other : Run Flow) → ((state : State) (units : ℕ) → units ≤ most → later state units ≡ other state units) → (flow : Flow) (state : State) (units : ℕ) → units ≤ most
      → behind_body (on later) flow state units ≡ behind_body (on other) flow state units
  left_same most later other is Normal state units few = on_same most later other is state units few
  left_same most later other is Continued state units few = on_same most later other is state units few
  left_same most later other is Broke state units few = refl
  left_same most later other is (Returned v) state units few = refl

  turn_same : (most : ℕ) (later other : Run Flow) → ((state : State) (units : ℕ) → units ≤ most → later state units ≡ other state units) → (state : State)
      → behind (body state most) (behind_body (on later)) ≡ behind (body state most) (behind_body (on other))
  turn_same most later other is state =
      same most (body state most) (behind_body (on later)) (behind_body (on other)) (below body body_lasts state most) (left_same most later other is)

  turns_enough : (most other : ℕ) (state : State) (units : ℕ) → units < most → units < other → turns most test step body state units ≡ turns other test step body state units
  turns_enough zero other state units less also = let no_turn : ⊥ = omega (arith, less) in elim no_turn [ ]
  turns_enough (suc most) zero state units less also = let no_turn : ⊥ = omega (arith, also) in elim no_turn [ ]
  turns_enough (suc most) (suc other) state zero less also = refl
  turns_enough (suc most) (suc other) state (suc units) less also =
      turn_same units (turns most test step body) (turns other test step body) (λ s u le. turns_enough most other s u (omega (arith, less, le)) (omega (arith, also, le))) state

  -- ---- a turn, and what is behind it

  abbrev pub next : Turn → Run Flow
  next Again = all_turns test step body
  next (Over l) = given (flow_of l)

  abbrev pub one : Run Turn
  one = step >>= (λ flow. test >>= (λ holds. given (again_or holds)))

  test_behind : (r : Ran Bool) → behind r (again_if (all_turns test step body)) ≡ behind (behind r (λ holds. given (again_or holds))) next
  test_behind (Got true state units) = refl
  test_behind (Got false state units) = refl
  test_behind (Ends state) = refl
  test_behind Strays = refl
  test_behind Goes = refl

  step_behind : (r : Ran Flow) → behind r (λ flow. test >>= again_if (all_turns test step body)) ≡ behind (behind r (λ flow. test >>= (λ holds. given (again_or holds)))) next
  step_behind (Got flow state units) = test_behind (test state units)
  step_behind (Ends state) = refl
  step_behind Strays = refl
  step_behind Goes = refl

  body_behind : (r : Ran Flow) → behind r (behind_body (on (all_turns test step body))) ≡ behind (behind r (turn_behind one)) next
  body_behind (Got Normal state units) = step_behind (step state units)
  body_behind (Got Continued state units) = step_behind (step state units)
  body_behind (Got Broke state units) = refl
  body_behind (Got (Returned v) state units) = refl
  body_behind (Ends state) = refl
  body_behind Strays = refl
  body_behind Goes = refl

  pub turns_open : (state : State) (units : ℕ) → all_turns test step body state (suc units) ≡ behind (behind (body state units) (turn_behind one)) next
  turns_open state units =
      turn_same units (turns (suc units) test step body) (all_turns test step body) (λ s u le. turns_enough (suc units) (suc u) s u (omega (arith, le)) (omega arith)) state
      ∙ body_behind (body state units)
