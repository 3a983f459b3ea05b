-- A function begins that another calls.
use Rattle.std.proofs.Common.{◌≡◌, sym, ap, ◌∙◌, ℕ, ◌+◌, ◌≤◌, List, ◌∷◌, length, map, take, Some, arith}
use Rattle.std.specs.List.{flat_map}
use Rattle.gsl_base.specs.declared.input.Input.{Input}
use Rattle.gsl_words.specs.declared.module.Module.{Module}
use Rattle.gsl_ids.specs.Table.{number_of}
use Rattle.gsl_valid.specs.Ids.{result}
use Rattle.gsl_valid.specs.Instruction.{read}
use Rattle.gsl_valid.specs.Kinds.{Calls, kind}
use Rattle.gsl_valid.specs.Placed.{Placed}
use Rattle.gsl_valid.specs.Valid.{Valid}
use Rattle.gsl_machine.specs.Functions.{begins_as, call_from, entered, from_first_label, function_at, variables_of}
use Rattle.gsl_machine.specs.Interfaces.{globals}
use Rattle.gsl_machine.specs.State.{Held, State}
use Rattle.gsl_region.specs.Flat.{flat_all}
use Rattle.gsl_region.specs.Showing.{with_words}
use Rattle.gsl_positions.specs.Positions.{left}
use Rattle.gsl_slots.proofs.Held.{front_of}
use Rattle.gsl_frames.specs.Frames.{frame}
use Rattle.gsl_sound.specs.Sound.{Good}
use Rattle.gsl_sound_code.proofs.Looks.{kept}
use Rattle.gsl_sound_types.specs.Typed.{Typed, types_in}
use Rattle.gsl_shown.specs.Shown.{held_as}
use Rattle.gsl_shown.proofs.Giving.{length_with}
use Rattle.gsl_shown_calls.specs.Calling.{StandFor}
use Rattle.gsl_shown_calls.proofs.Called.{call_leads, given_fits, initial_fits}
use Rattle.gsl_shown_calls.proofs.Entered.{once}
use Rattle.gsl_operands.specs.Operands.{constants}
use Rattle.gsl_step.specs.Machine.{IsShown, stood}
use Rattle.gsl_step.specs.declared.machine.Machine.{Machine}
use Rattle.gsl_step.specs.declared.standing.Standing.{Standing}
use Rattle.gsl_step_calls.specs.Calling.{Enters, HasRoomToCall}
use Rattle.gsl_step_calls.proofs.Ended.{shown_again}

pub call_entered : (m : Module) (input : Input) (machine next : Machine) (state : State) (p : Placed) (more : List Placed) (type id function : ℕ) (given : List ℕ) (held : List Held) (body : List Placed) (first : ℕ) (valid : Valid m) (good : Good m input state) (typed : Typed m state)
    (shown : IsShown m machine state) (comes : state.rest ≡ p ∷ more) (is : kind (read p.instr) ≡ Calls type function given) (result_is : result (read p.instr) ≡ Some id) (stand : StandFor state.ids given held) → function_at m function ≡ Some body → from_first_label body ≡ left m first
    → HasRoomToCall m machine state.body body → Enters m machine state.body (number_of m function) first (flat_map (held_as m (types_in m state)) held) (flat_all (map (begins_as m) (variables_of body))) next
    → IsShown m next (entered m (globals m) body held (call_from id (record state { rest = more }) ∷ state.waiting) (record state { rest = more }))
call_entered m input machine next state p more type id function given held body first valid good typed shown comes is result_is stand at found room enters =
    let base = machine.standing.slots + (frame m state.body).most in
    let begin = machine.standing.variables + (frame m state.body).variables in
    let new = flat_map (held_as m (types_in m state)) held in
    let initial = flat_all (map (begins_as m) (variables_of body)) in
    let f : Standing = record { at = first; body = number_of m function; slots = machine.standing.slots + (frame m state.body).most; variables = machine.standing.variables + (frame m state.body).variables } in
    let given_in = given_fits m (kept m valid) (once m valid) input (stood machine.standing) (map stood machine.callers) machine.slots machine.words machine.buffers machine.choices state good typed shown.shows p more comes type id function given is result_is held stand body at in
    let initial_in = initial_fits m (kept m valid) (once m valid) input (stood machine.standing) (map stood machine.callers) machine.slots machine.words machine.buffers machine.choices state good typed shown.shows p more comes type id function given is result_is held stand body at in
    let in_slots = room.slots in
    let in_words = room.words in
    let low = shown.behind.0 in
    let places = shown.places in
    let reach = shown.reach in
    let long_slots = length_with machine.slots new (machine.standing.slots + (frame m state.body).most) (omega (arith, in_slots, given_in)) in
    let long_words = length_with machine.words initial (machine.standing.variables + (frame m state.body).variables) (omega (arith, in_words, initial_in)) in
    shown_again m next f (machine.standing ∷ machine.callers) (with_words machine.slots base new) (with_words machine.words begin initial) machine.buffers machine.choices _ enters.standing enters.callers enters.slots enters.variables enters.buffers enters.left
    (record {
      shows = call_leads m (kept m valid) (once m valid) input (stood machine.standing) (map stood machine.callers) machine.slots machine.words machine.buffers machine.choices state good typed shown.shows p more comes type id function given is result_is held stand body first at found
          (omega (arith, in_slots));
      constants_are = front_of machine.slots new 0 (length (constants m)) base (omega (arith, low)) (omega (arith, in_slots)) ∙ shown.constants_are;
      behind = (omega (arith, low), shown.behind);
      places = omega (arith, long_slots, places);
      reach = omega (arith, long_words, reach);
      numbers = shown.numbers;
    })
