-- A function begins that another calls.
use Rattle.std.proofs.Common.{◌≡◌, refl, sym, ap, ◌∙◌, subst, ℕ, ◌+◌, ◌≤◌, true, ◌&&◌, not, List, ◌∷◌, length, map, Option, Some, None, arith}
use Rattle.std.specs.List.{AllByRecursion, flat_map, list_all}
use Rattle.std.proofs.lemmas.Bool.{and_parts}
use Rattle.gsl_base.specs.declared.input.Input.{Input}
use Rattle.gsl_instr.specs.declared.instruction.Instruction.TheVariants as instruction
use Rattle.gsl_words.specs.declared.module.Module.{Module}
use Rattle.gsl_ids.specs.Table.{number_of}
use Rattle.gsl_valid.specs.CallRules.{call_of, fits_function, is_own, may_call, pointers_differ}
use Rattle.gsl_valid.specs.Ids.{result}
use Rattle.gsl_valid.specs.Instruction.{read}
use Rattle.gsl_valid.specs.Kinds.{Calls, Variable, kind, variable_is}
use Rattle.gsl_valid.specs.Placed.{Placed}
use Rattle.gsl_valid.specs.Types.{defined_as, parameters_of}
use Rattle.gsl_valid.specs.Valid.{Valid}
use Rattle.gsl_valid.specs.Where.{where_at}
use Rattle.gsl_machine.specs.Functions.{begins_as, from_first_label, function_at, variables_of}
use Rattle.gsl_machine.specs.State.{Held, State, on}
use Rattle.gsl_machine.specs.Steps.{calling, on_each}
use Rattle.gsl_region.specs.Flat.{flat_all}
use Rattle.gsl_region.specs.Showing.{with_words}
use Rattle.gsl_leaves.specs.Table.{most}
use Rattle.gsl_positions.specs.Positions.{left}
use Rattle.gsl_positions.proofs.Standing.{function_stands}
use Rattle.gsl_frames.specs.Frames.{frame}
use Rattle.gsl_sound.specs.Sound.{Good}
use Rattle.gsl_sound_code.specs.Spots.{IsBody}
use Rattle.gsl_sound_code.proofs.Functions.{body_of}
use Rattle.gsl_sound_code.proofs.Looks.{kept}
use Rattle.gsl_sound_code.proofs.Walks.{walk}
use Rattle.gsl_sound_types.specs.Typed.{Typed, types_in}
use Rattle.gsl_sound_types.proofs.Memories.{IsLocal, local_one}
use Rattle.gsl_shown.specs.Shown.{held_as}
use Rattle.gsl_shown.proofs.Giving.{length_with}
use Rattle.gsl_shown_calls.specs.Calling.{StandFor}
use Rattle.gsl_shown_calls.proofs.Called.{IsCalled, called_is, given_fits, initial_fits}
use Rattle.gsl_shown_calls.proofs.Entered.{once}
use Rattle.gsl_step.specs.Machine.{IsShown, Leads, stood}
use Rattle.gsl_step.specs.declared.machine.Machine.{Machine}
use Rattle.gsl_step.specs.declared.standing.Standing.{Standing}
use Rattle.gsl_step.proofs.Giving.{rules_kept, top_within}
use Rattle.gsl_step_calls.specs.Calling.{Enters, HasRoomToCall}
use Rattle.gsl_step_calls.proofs.Called.{call_entered}
use Rattle.gsl_step_entering.specs.Begun.{AreTold, initial_in}
use Rattle.gsl_step_entering.specs.Entered.{HasRoomToEnter, IsEntered, PutsEntered}
use Rattle.gsl_step_entering.specs.Passed.{argument}
use Rattle.gsl_step_entering.proofs.Words.{all_arguments, all_initial, with_each}

module _ (m : Module) (valid : Valid m) (input : Input) (machine next : Machine) (state : State) (good : Good m input state) (typed : Typed m state) (shown : IsShown m machine state) (p : Placed) (more : List Placed) (comes : state.rest ≡ p ∷ more) where
  abbrev Now : State
  Now = record state { rest = more }

  module _ (type id function : ℕ) (arguments : List ℕ) (reads : read p.instr ≡ Some (instruction.FunctionCall type id function arguments)) (callers : List Standing) (waits : callers ≡ machine.standing ∷ machine.callers)
      (room : HasRoomToCall m machine (left m machine.standing.body) (left m (number_of m function))) (puts : PutsEntered m function arguments (record machine { callers = callers }) next) where
    abbrev Caller : List Placed
    Caller = left m machine.standing.body

    abbrev Base : ℕ
    Base = machine.standing.slots + (frame m Caller).most

    abbrev Begin : ℕ
    Begin = machine.standing.variables + (frame m Caller).variables

    abbrev New : List ℕ
    New = flat_map (argument m machine.standing machine.slots) arguments

    is_call : kind (read p.instr) ≡ Calls type function arguments
    is_call = ap kind reads

    may : may_call m (where_at m good.runs.before) type function arguments ≡ true
    may = ap (call_of m good.runs.before) (sym is_call) ∙ (rules_kept m (kept m valid) input state good p more comes).1.call

    parts : (fits_function m type arguments (kind (defined_as m function)) ≡ true) × (list_all (is_own m (where_at m good.runs.before).body) arguments ≡ true)
    parts = and_parts (fits_function m type arguments (kind (defined_as m function))) (list_all (is_own m (where_at m good.runs.before).body) arguments) (and_parts _ (pointers_differ m arguments) (and_parts _ _ may).0).0

    called : IsCalled m type function arguments
    called = called_is m type function arguments (kind (defined_as m function)) refl parts.0

    in_front : Base ≡ machine.standing.slots + (frame m state.body).most
    in_front = ap (λ l. machine.standing.slots + (frame m l).most) (sym shown.shows.ids.body_is)

    begins_one : (held : List Held) → StandFor state.ids arguments held → (body : List Placed) → function_at m function ≡ Some body → Leads m next (calling m Now id held body)
    begins_one held stand body found =
        let body_left : body ≡ left m (number_of m function) = function_stands m (once m valid) function body found in
        let top = top_within m (kept m valid) input machine state good typed shown in
        let before_is = in_front in
        let words = all_arguments m (kept m valid) input machine state good typed shown Base (omega (arith, top, before_is)) (where_at m good.runs.before).body (parameters_of (defined_as m called.function_type)) arguments held called.have parts.1 stand in
        let given_in = given_fits m (kept m valid) (once m valid) input (stood machine.standing) (map stood machine.callers) machine.slots machine.words machine.buffers machine.choices state good typed shown.shows p more comes type id function arguments is_call (ap result reads) held stand body found in
        let initial_long = initial_fits m (kept m valid) (once m valid) input (stood machine.standing) (map stood machine.callers) machine.slots machine.words machine.buffers machine.choices state good typed shown.shows p more comes type id function arguments is_call (ap result reads) held stand body found in
        let size = ap length words.0 in
        let takes = ap (λ l. (frame m l).most) body_left in
        let takes_words = ap (λ l. (frame m l).variables) body_left in
        let in_slots = room.slots in
        let in_words = room.words in
        let inside : Base + length New ≤ length machine.slots = omega (arith, in_slots, given_in, size, takes) in
        let b = body_of m (kept m valid) function type called.own called.function_type called.is in
        let same : b.body ≡ body = (let both : Some b.body ≡ Some body = sym b.found ∙ found in cc) in
        let locals = walk m (kept m valid) b.body type (λ p. (v : Variable) → variable_is (read p.instr) ≡ Some v → IsLocal m v) (λ before p code keeps started v is. local_one m before p.instr code v keeps started is) b.before b.body b.spot in
        let initial = all_initial m (kept m valid) input machine state good typed shown Base (omega (arith, top, before_is)) New inside body (subst (AllByRecursion (λ p. (v : Variable) → variable_is (read p.instr) ≡ Some v → IsLocal m v)) same locals) in
        let slots = with_words machine.slots Base New in
        let initial_there : initial_in m (with_words machine.slots Base New) (left m (number_of m function)) ≡ flat_all (map (begins_as m) (variables_of body)) = ap (initial_in m (with_words machine.slots Base New)) (sym body_left) ∙ initial.0 in
        let initial_size = ap length initial_there in
        let long = length_with machine.slots New Base inside in
        let places = shown.places in
        let reach = shown.reach in
        let room_for : HasRoomToEnter m (record machine { callers = callers }) function arguments = record {
          base = omega (arith, inside, places);
          begin = omega (arith, in_words, reach);
          pass = record { room = inside; each = words.1; places = shown.places };
          variables = record {
            room = omega (arith, initial_size, initial_long, in_words, takes_words);
            each = subst (AreTold m (with_words machine.slots Base New)) body_left initial.1;
            places = omega (arith, long, places);
            reach = shown.reach;
            few = shown.numbers;
          };
        } in
        let entered : IsEntered m (record machine { callers = callers }) function arguments next = puts room_for in
        let enters : Enters m machine (left m machine.standing.body) (number_of m function) next.standing.at (flat_map (held_as m (types_in m state)) held) (flat_all (map (begins_as m) (variables_of body))) next = record {
          standing = entered.standing;
          callers = entered.callers ∙ waits;
          slots = entered.slots ∙ ap (with_words machine.slots Base) words.0;
          variables = entered.words ∙ ap (with_words machine.words Begin) initial_there;
          buffers = entered.buffers;
          left = entered.left;
        } in
        call_entered m input machine next state p more type id function arguments held body next.standing.at valid good typed shown comes is_call (ap result reads) stand found (ap from_first_label body_left ∙ entered.first)
        (subst (λ l. HasRoomToCall m machine l body) (sym shown.shows.ids.body_is) (subst (λ l. HasRoomToCall m machine (left m machine.standing.body) l) (sym body_left) room))
        (subst (λ l. Enters m machine l (number_of m function) next.standing.at (flat_map (held_as m (types_in m state)) held) (flat_all (map (begins_as m) (variables_of body))) next) (sym shown.shows.ids.body_is) enters)

    pub calls : Leads m next (on_each Now arguments (λ held. on (function_at m function) (calling m Now id held)))
    calls = with_each (Leads m next) tt Now arguments (λ held. on (function_at m function) (calling m Now id held)) (λ held stand. by_function (function_at m function) refl held stand)
      where
        by_function : (o : Option (List Placed)) → function_at m function ≡ o → (held : List Held) → StandFor state.ids arguments held → Leads m next (on o (calling m Now id held))
        by_function None found held stand = tt
        by_function (Some body) found held stand = begins_one held stand body found
