-- Functions that begin.
use Rattle.std.proofs.Common.{◌≡◌, refl, sym, ap, ◌∙◌, subst, ℕ, suc, ◌+◌, ◌≤◌, List, [], ◌∷◌, ◌++◌, length, map, inr, arith, length-append}
use Rattle.gsl_base.specs.declared.input.Input.{Input}
use Rattle.gsl_words.specs.declared.module.Module.{Module}
use Rattle.gsl_valid.specs.Types.{defined_as, parameters_of}
use Rattle.gsl_machine.specs.Functions.{begins_as, entered, own_ids, variables_of}
use Rattle.gsl_machine.specs.Interfaces.{globals, value_variables}
use Rattle.gsl_machine.specs.State.{Held, State, Waiting}
use Rattle.gsl_sound_ids.specs.Held.{Agrees, HaveBytes}
use Rattle.gsl_sound.specs.Sound.{Good, WaitEach}
use Rattle.gsl_sound_code.specs.Spots.{IsBody, bare}
use Rattle.gsl_sound_code.proofs.Looks.{Kept}
use Rattle.gsl_sound_code.proofs.Walks.{enter}
use Rattle.gsl_sound_ids.proofs.Locals.{AreHeld, own_agree}

wait_more : (m : Module) (count more returned : ℕ) (calls : List Waiting) → count ≤ more → WaitEach m count returned calls → WaitEach m more returned calls
wait_more m count more returned [] room waits = tt
wait_more m count more returned (call ∷ calls) room waits = let below = waits.3 in (waits.0, waits.1, waits.2, omega (arith, below, room), waits.4)

pub length_map : {A B : Type 0} (f : A → B) (xs : List A) → length (map f xs) ≡ length xs
length_map f [] = refl
length_map f (x ∷ xs) = ap suc (length_map f xs)

-- A function begins, with what its parameters take.
pub enters : (m : Module) (input : Input) (kept : Kept m) (id returned function_type : ℕ) (b : IsBody m id returned function_type) (held : List Held) (waiting : List Waiting) (state : State) → HaveBytes m input state.buffers
    → length (value_variables m) ≤ length state.variables → AreHeld m (length state.variables) (parameters_of (defined_as m function_type)) held → WaitEach m (length state.variables) returned waiting
    → Good m input (entered m (globals m) b.body held waiting state)
enters m input kept id returned function_type b held waiting state bytes room are waits =
    let types = parameters_of (defined_as m function_type) in
    let e = enter m kept b.body returned b.before b.body types b.spot b.begun in
    let count = length (state.variables ++ map (begins_as m) (variables_of b.body)) in
    let same : length state.variables + length (variables_of b.body) ≡ count =
    ap (λ n. length state.variables + n) (sym (length_map (begins_as m) (variables_of b.body))) ∙ sym (length-append state.variables (map (begins_as m) (variables_of b.body))) in
    let own = subst (λ n. Agrees m n (bare b.body) [] (own_ids (globals m) b.body held (length state.variables))) same (own_agree m kept returned b.body b.before b.spot types e.taken held (length state.variables) are room) in
    let grows : length state.variables ≤ count = omega (arith, same) in
    record {
      bytes = bytes;
      returned = returned;
      runs = record { start = b.before; first = b.spot; lasting = own; before = e.arrived.before; spot = e.arrived.spot; now = inr e.arrived.label };
      waiting = wait_more m (length state.variables) count returned waiting grows waits;
      enough = omega (arith, room, grows);
    }
