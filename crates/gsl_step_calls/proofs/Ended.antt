-- Runs that end, and functions that give nothing.
use Rattle.std.proofs.Common.{◌≡◌, refl, sym, ap, ◌∙◌, subst, ℕ, ◌+◌, ◌<◌, ◌≤◌, ◌^◌, Bool, true, false, List, [], ◌∷◌, length, map, take, Some, arith}
use Rattle.std.specs.List.{AllByRecursion}
use Rattle.gsl_base.specs.declared.input.Buffer.{Buffer}
use Rattle.gsl_base.specs.declared.input.Input.{Input}
use Rattle.gsl_instr.specs.declared.instruction.Instruction.{Instruction}
use Rattle.gsl_words.specs.declared.module.Module.{Module}
use Rattle.gsl_valid.specs.Instruction.{read}
use Rattle.gsl_valid.specs.Placed.{Placed}
use Rattle.gsl_machine.specs.Functions.{back_in}
use Rattle.gsl_machine.specs.Interfaces.{output_of}
use Rattle.gsl_machine.specs.Machine.{step, step_on}
use Rattle.gsl_machine.specs.State.{Ended, Going, Outcome, State, Waiting, on}
use Rattle.gsl_machine.specs.Steps.{act, returning, without_value}
use Rattle.gsl_leaves.specs.Table.{most}
use Rattle.gsl_shown.specs.Shown.{IsCall, ShowsEach, Shows}
use Rattle.gsl_shown.specs.Shown.{Standing as Stood}
use Rattle.gsl_shown_calls.proofs.Behind.{within}
use Rattle.gsl_shown_calls.proofs.Returned.{return_shown}
use Rattle.gsl_operands.specs.Operands.{constants}
use Rattle.gsl_step.specs.Machine.{IsShown, stood}
use Rattle.gsl_step.specs.declared.machine.Machine.{Machine}
use Rattle.gsl_step.specs.declared.standing.Standing.{Standing}
use Rattle.gsl_step_calls.specs.Ending.{Comes, EndsAs}
use Rattle.gsl_step_calls.specs.declared.next.Next.{Next}
use Rattle.gsl_step_calls.specs.declared.next.Next.TheVariants.{Ends, Goes}

-- what the next instruction does is the step
pub next_comes : (m : Module) (input : Input) (state : State) (next : Machine) (how : Next) (p : Placed) (more : List Placed) (d : Instruction) → state.rest ≡ p ∷ more → read p.instr ≡ Some d → Comes m next how (act m input p.at (record state { rest = more }) d)
    → Comes m next how (step m input state)
next_comes m input state next how p more d comes reads it =
    subst (λ l. Comes m next how (step_on m input state l)) (sym comes) (subst (λ o. Comes m next how (on o (act m input p.at (record state { rest = more })))) (sym reads) it)

-- a machine shows what one with the same of all shows
pub shown_again : (m : Module) (next : Machine) (f : Standing) (cs : List Standing) (slots words : List ℕ) (buffers : List Buffer) (choices : List ℕ) (state : State) → next.standing ≡ f → next.callers ≡ cs → next.slots ≡ slots → next.words ≡ words → next.buffers ≡ buffers → next.choices ≡ choices
    → IsShown m (record { standing = f; callers = cs; slots = slots; words = words; buffers = buffers; choices = choices }) state → IsShown m next state
shown_again m next f cs slots words buffers choices state a b c d e g shown =
    subst (λ x. IsShown m (record { standing = x; callers = next.callers; slots = next.slots; words = next.words; buffers = next.buffers; choices = next.choices }) state) (sym a)
    (subst (λ x. IsShown m (record { standing = f; callers = x; slots = next.slots; words = next.words; buffers = next.buffers; choices = next.choices }) state) (sym b)
    (subst (λ x. IsShown m (record { standing = f; callers = cs; slots = x; words = next.words; buffers = next.buffers; choices = next.choices }) state) (sym c)
    (subst (λ x. IsShown m (record { standing = f; callers = cs; slots = slots; words = x; buffers = next.buffers; choices = next.choices }) state) (sym d)
    (subst (λ x. IsShown m (record { standing = f; callers = cs; slots = slots; words = words; buffers = x; choices = next.choices }) state) (sym e)
    (subst (λ x. IsShown m (record { standing = f; callers = cs; slots = slots; words = words; buffers = buffers; choices = x }) state) (sym g) shown)))))

module _ (m : Module) (machine : Machine) (state : State) (shown : IsShown m machine state) (more : List Placed) where
  abbrev Now : State
  Now = record state { rest = more }

  pub kills : Comes m machine (Ends true) (Ended (output_of m true Now))
  kills = record { killed = true; tells = refl; state = state; shows = shown; is = refl }

  -- where no function waits the run ends
  pub ends_run : (next : Machine) (go : Waiting → State → Outcome) → machine.callers ≡ [] → next ≡ record machine { callers = [] } → Comes m next (Ends false) (returning m Now state.waiting go)
  ends_run next go none is = by_waiting state.waiting (subst (λ l. ShowsEach m machine.slots machine.standing.slots (map stood l) state.waiting) none shown.shows.waiting)
    where
      by_waiting : (w : List Waiting) → ShowsEach m machine.slots machine.standing.slots [] w → Comes m next (Ends false) (returning m Now w go)
      by_waiting [] each = record {
        killed = false;
        tells = refl;
        state = state;
        shows = subst (λ n. IsShown m n state) (sym (is ∙ ap (λ l. record machine { callers = l }) (sym none))) shown;
        is = refl;
      }
      by_waiting (call ∷ calls) each = absurd each

  module _ (caller : Standing) (callers : List Standing) (waits : machine.callers ≡ caller ∷ callers) where
    -- what is shown of the functions that wait
    pub shows_callers : Shows m (stood machine.standing) (stood caller ∷ map stood callers) machine.slots machine.words machine.buffers machine.choices state
    shows_callers = subst (λ l. Shows m (stood machine.standing) (map stood l) machine.slots machine.words machine.buffers machine.choices state) waits shown.shows

    pub behind_callers : AllByRecursion (λ (f : Standing). length (constants m) ≤ f.slots) (caller ∷ callers)
    behind_callers = subst (AllByRecursion (λ (f : Standing). length (constants m) ≤ f.slots)) waits shown.behind.1

    -- the number behind a call that waits is a word
    pub call_fits : (call : Waiting) (calls : List Waiting) → state.waiting ≡ call ∷ calls → caller.at + 1 < 2 ^ 32
    call_fits call calls is =
        let each = subst (ShowsEach m machine.slots machine.standing.slots (stood caller ∷ map stood callers)) is shows_callers.waiting in
        let called : IsCall m caller.at call.result = each.0 in
        let low = within m caller.at called.instr called.here called.type called.function called.arguments called.is in
        let numbers = shown.numbers in
        omega (arith, low, numbers)

    pub returns_nothing : (s : Standing) → (caller.at + 1 < 2 ^ 32 → s ≡ record caller { at = caller.at + 1 }) → Comes m (record machine { standing = s; callers = callers }) Goes (returning m Now state.waiting without_value)
    returns_nothing s passes = by_waiting state.waiting refl
      where
        by_waiting : (w : List Waiting) → state.waiting ≡ w → Comes m (record machine { standing = s; callers = callers }) Goes (returning m Now w without_value)
        by_waiting [] is = absurd (subst (ShowsEach m machine.slots machine.standing.slots (stood caller ∷ map stood callers)) is shows_callers.waiting)
        by_waiting (call ∷ calls) is =
            let back = return_shown m (stood machine.standing) (stood caller) (map stood callers) machine.slots machine.words machine.buffers machine.choices state call calls is shows_callers in
            let here : IsShown m (record machine { standing = record caller { at = caller.at + 1 }; callers = callers }) (back_in call calls state) = record {
              shows = back;
              constants_are = shown.constants_are;
              behind = behind_callers;
              places = shown.places;
              reach = shown.reach;
              numbers = shown.numbers;
            } in
            (refl, subst (λ f. IsShown m (record machine { standing = f; callers = callers }) (back_in call calls state)) (sym (passes (call_fits call calls is))) here)
