-- Steps of a run.
use Rattle.std.proofs.Common.{◌≡◌, refl, sym, ap, ◌∙◌, ℕ, suc, ◌-◌, ◌<◌, ◌==◌, Bool, true, false, List, [], ◌∷◌, arith}
use Rattle.std.proofs.lemmas.Bool.{cond-false, eqb-true}
use Rattle.gsl_base.specs.declared.input.Input.{Input}
use Rattle.gsl_instr.specs.Forms.{form_of}
use Rattle.gsl_instr.specs.declared.op.TheConstants as op
use Rattle.gsl_words.specs.declared.module.Module.{Module}
use Rattle.gsl_valid.specs.Placed.{Placed}
use Rattle.gsl_machine.specs.Functions.{up_to_end}
use Rattle.gsl_machine.specs.Machine.{after, behind, run, start, step, step_on}
use Rattle.gsl_machine.specs.State.{Going, Outcome, State, Stuck}
use Rattle.gsl_enact_state.specs.declared.state.State.{State as StateHere}
use Rattle.gsl_enact_state.specs.Seen.{state_seen}
use Rattle.gsl_enact_steps.specs.Outcomes.{outcome_seen}
use Rattle.gsl_enact_steps.specs.declared.step.Step.{Step}
use Rattle.gsl_enact_steps.specs.declared.step.Step.TheVariants as came
use Rattle.gsl_enact.specs.Came.{came as without_state}

-- the end of a function does nothing
pub at_end : (m : Module) (input : Input) (s : State) (p : Placed) (rest : List Placed) → (p.instr.op == op.FUNCTION_END) ≡ true → step_on m input s (up_to_end (p ∷ rest)) ≡ Stuck
unfolding form_of
at_end m input s p rest ends = by_op p.at p.instr.op p.instr.args (eqb-true p.instr.op op.FUNCTION_END ends)
  where
    by_op : (at code : ℕ) (args : List ℕ) → code ≡ op.FUNCTION_END → step_on m input s (up_to_end (record { at = at; instr = record { op = code; args = args } } ∷ rest)) ≡ Stuck
    by_op at code args is = ap (λ n. step_on m input s (up_to_end (record { at = at; instr = record { op = n; args = args } } ∷ rest))) is

pub goes_on : (p : Placed) (rest : List Placed) → (p.instr.op == op.FUNCTION_END) ≡ false → up_to_end (p ∷ rest) ≡ p ∷ up_to_end rest
goes_on p rest other = cond-false (p.instr.op == op.FUNCTION_END) (p ∷ []) (p ∷ up_to_end rest) other

-- ---- so many steps

pub ran_on : (m : Module) (input : Input) (left : ℕ) (s t : State) (whole : Outcome) → 0 < left → Going t ≡ step m input s → run m input left s ≡ whole → run m input (left - 1) t ≡ whole
ran_on m input left s t whole some is so_far =
    ap (λ o. behind o (run m input (left - 1))) is ∙ ap (λ n. run m input n s) (let e : suc (left - 1) ≡ left = omega (arith, some) in e) ∙ so_far

-- what is over goes on to nothing
stays : (m : Module) (t : StateHere) (over : Step) (go : State → Outcome) → (over ≡ came.Going → ⊥) → behind (outcome_seen m t over) go ≡ outcome_seen m t over
stays m t came.Going go other = absurd (other refl)
stays m t (came.Ended output) go other = refl
stays m t (came.Strayed place) go other = refl
stays m t came.Stuck go other = refl

pub ran_over : (m : Module) (input : Input) (left : ℕ) (s : State) (t : StateHere) (over : Step) (whole : Outcome) → 0 < left → (over ≡ came.Going → ⊥) → outcome_seen m t over ≡ step m input s → run m input left s ≡ whole
    → outcome_seen m t over ≡ whole
ran_over m input left s t over whole some other is so_far =
    sym (stays m t over (run m input (left - 1)) other) ∙ ap (λ o. behind o (run m input (left - 1))) is ∙ ap (λ n. run m input n s) (let e : suc (left - 1) ≡ left = omega (arith, some) in e) ∙ so_far

came_is : (m : Module) (t : StateHere) (s : Step) → without_state (outcome_seen m t s) ≡ s
came_is m t came.Going = refl
came_is m t (came.Ended output) = refl
came_is m t (came.Strayed place) = refl
came_is m t came.Stuck = refl

pub ran_whole : (m d : Module) (input : Input) (steps : ℕ) (first last : StateHere) (s : Step) → m ≡ d → state_seen m first ≡ start m input → outcome_seen m last s ≡ run m input steps (state_seen m first)
    → s ≡ without_state (after d steps input)
unfolding after
ran_whole m d input steps first last s same begins is =
    sym (came_is m last s) ∙ ap without_state (is ∙ ap (run m input steps) begins ∙ ap (λ x. run x input steps (start x input)) same)
