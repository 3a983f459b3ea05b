-- From where a module starts to where the body of main begins.
use Rattle.std.proofs.Common.{◌≡◌, refl, sym, ap, ◌∙◌, subst, inl, inr, ◌⊎◌, ℕ, zero, suc, ◌+◌, ◌<◌, ◌≤◌, true, false, List, [], ◌∷◌, ◌++◌, length, map, slice_get, Option, Some, None, append_assoc, arith}
use Rattle.std.proofs.lemmas.Bool.{eq-eqb, or_left}
use Rattle.std.proofs.lemmas.List.{length-append, length-map}
use Rattle.gsl_base.specs.declared.input.Input.{Input}
use Rattle.gsl_instr.specs.declared.op.TheConstants as op
use Rattle.gsl_types.specs.declared.ty.Ty.{Ty}
use Rattle.gsl_types.specs.declared.ty.Ty.TheVariants.{Void}
use Rattle.gsl_words.specs.declared.module.Module.{Module}
use Rattle.gsl_words.specs.declared.target.Target.{Target}
use Rattle.gsl_values.specs.declared.value.Value.{Value}
use Rattle.gsl_tree.specs.Statements.{IsBody}
use Rattle.gsl_tree.specs.Trees.{outside, with_exits}
use Rattle.gsl_tree.specs.Values.{zero_value}
use Rattle.gsl_tree.specs.Weights.{calls_of}
use Rattle.gsl_tree.specs.WellTyped.{IsFunction as IsTypedFunction, IsProgram, around_body, program_lists}
use Rattle.gsl_tree.specs.declared.program.Program.{Program}
use Rattle.gsl_tree.specs.declared.unit.Function.{Function}
use Rattle.gsl_tree.specs.declared.unit.Prototype.{Prototype}
use Rattle.gsl_meaning.specs.Shader as shader
use Rattle.gsl_meaning.specs.Shader.{begins as shader_begins, most_calls}
use Rattle.gsl_meaning.specs.State as shader_state
use Rattle.gsl_valid.specs.Kinds.{Variable, variable_is}
use Rattle.gsl_valid.specs.Types.{defined_as}
use Rattle.gsl_sound_ids.proofs.Globals.{among_values}
use Rattle.gsl_valid.specs.Placed.{Code, Placed, placed_from, words_from}
use Rattle.gsl_valid.specs.Valid.{Valid}
use Rattle.gsl_machine.specs.Constants.{constant}
use Rattle.gsl_machine.specs.Functions.{begins_as, from_first_label, own_ids, parameters_of, variables_of}
use Rattle.gsl_machine.specs.Functions as machine
use Rattle.gsl_machine.specs.Interfaces.{globals, value_variables, variable_begins}
use Rattle.gsl_machine.specs.Machine.{before_entry, run, start}
use Rattle.gsl_machine.specs.Memory.{bytes_of}
use Rattle.gsl_machine.specs.State.{Going, Ids, InVariable, Points, State}
use Rattle.gsl_sound_code.proofs.Looks.{kept}
use Rattle.gsl_link_calls.specs.Ranks.{IsIn}
use Rattle.gsl_spv.specs.Declarations.{instr}
use Rattle.gsl_spv.specs.Finished.{module_of}
use Rattle.gsl_spv.specs.Sections.{Sections}
use Rattle.gsl_lower_text.proofs.Finishes.{finished_written}
use Rattle.gsl_lower_text.proofs.Lasting.{function_lasts}
use Rattle.gsl_lower_text.specs.Written.{Written}
use Rattle.gsl_lower_law.proofs.Joining.{keeps_same}
use Rattle.gsl_lower_law.specs.Values.{Keeps}
use Rattle.gsl_lower_holders.specs.Flow.{Flow, Gives}
use Rattle.gsl_lower_flow.specs.Reaching.{head_of, is_lowered, is_reached, main_head}
use Rattle.gsl_link_calls.specs.Calls.{reaches}
use Rattle.gsl_lower_used.specs.Lowered.{AlongAllLowered, up_to_jump}
use Rattle.gsl_lower_follows.specs.Frames.{AreTyped, Frame, Global, Good, HasType, Holder, Inside, Interface, Local, Name, Param, Stage, coming, id_of, type_named, value_of}
use Rattle.gsl_lower_follows.specs.Reached.{Reached}
use Rattle.gsl_lower_follows.specs.Stretching.{Stretch}
use Rattle.gsl_lower_follows.proofs.Behind.{faults_behind}
use Rattle.gsl_lower_follows.proofs.Placing.{coming_is, placed_join, placed_length}
use Rattle.gsl_lower_follows.proofs.Reached.{reached_start, reached_then}
use Rattle.gsl_lower_follows.proofs.Stretches.{lasts_behind, stretch_of, stretch_then}
use Rattle.gsl_lower_frames.specs.Calling.{AreKnown, ArePassed, IsParameter}
use Rattle.gsl_lower_frames.specs.Named.{HasId, number_at, number_in, seat_in}
use Rattle.gsl_lower_frames.specs.Standing.{place_in}
use Rattle.gsl_lower_frames.proofs.Calls.{known_seated, seat_below, seats_apart}
use Rattle.gsl_lower_frames.proofs.Found.{code_found, code_short, label_found}
use Rattle.gsl_lower_frames.proofs.Numbers.{outer_position, seat_back, value_points}
use Rattle.gsl_lower_frames.proofs.Starts.{start_is, variables_same}
use Rattle.gsl_lower_frames.proofs.Texts.{begun_as, text_begun, valid_once}
use Rattle.gsl_lower_law_returns.specs.Calling.{is_own, is_shared}
use Rattle.gsl_lower_law_entered.specs.Modules.{Declared, IsFrame, IsFunction, declares, variable_of}
use Rattle.gsl_lower_law_entered.proofs.Framed.{id_shared, same_number}
use Rattle.gsl_lower_law_entered.proofs.Given.{among_at, map_there, mapped, none_at, points_at}
use Rattle.gsl_lower_law_entered.proofs.Lasting.{calls_pass}
use Rattle.gsl_lower_law_entered.proofs.Opening.{first_label, opening_leads, words_on}
use Rattle.gsl_lower_law_shader.specs.Alike.{EndsAs, IsMain, around_main, main_begins}
use Rattle.gsl_lower_law_shader.specs.Depths.{MayCall, body_of}
use Rattle.gsl_lower_law_shader.proofs.Ended.{ends_as}
use Rattle.gsl_lower_law_linked.specs.Nesting.{AreOnce, MayNest}
use Rattle.gsl_lower_law_linked.proofs.Linked.{all_at}
use Rattle.gsl_lower_law_shader.specs.Asked.{AllAsked, AreAskedElseOf}
use Rattle.gsl_lower_law_program.specs.Ranks.{rank_of}
use Rattle.gsl_lower_law_program.specs.Standing.{HaveFunctions, StandsAt}
use Rattle.gsl_lower_law_program.proofs.Sounds.{body_known}
use Rattle.gsl_lower_law_program.proofs.Asking.{body_asked}
use Rattle.gsl_lower_law_program.proofs.Names.{back_at, front_at}
use Rattle.gsl_lower_law_program.proofs.Ranks.{IsAt, called_low, first_at, has_head}
use Rattle.gsl_lower_law_program.proofs.Standing.{all_stand, callee_known, knows_types}
use Rattle.gsl_lower_law_program.specs.Alike.{BeginAlike}
use Rattle.gsl_lower_law_program.proofs.Entry.{entered}

no_items : {A : Type 0} (l : List A) → length l ≡ 0 → l ≡ []
no_items [] is = refl
no_items (x ∷ l) is = absurd (omega (arith, is))

-- a variable among others
in_front : (vs ws : List Variable) (id : ℕ) → HasId vs id → HasId (vs ++ ws) id
in_front vs ws id h = record { position = h.position; variable = h.variable; there = front_at vs ws h.position h.variable h.there; same = h.same }

at_back : (vs ws : List Variable) (id : ℕ) → HasId ws id → HasId (vs ++ ws) id
at_back vs ws id h = record { position = length vs + h.position; variable = h.variable; there = back_at vs ws h.position h.variable h.there; same = h.same }

module _ (target : Target) (p : Program) (program : IsProgram p) (nests : MayNest p) (once : AreOnce p) (main : ℕ) (flow : Flow) (valid : Valid (module_of flow.sections main p.local_size)) (h : HaveFunctions target p main flow) (input : Input) (stages : List (Option Value)) where
  abbrev m : Module
  m = module_of flow.sections main p.local_size

  abbrev whole : Sections
  whole = flow.sections

  abbrev written : Written m whole
  written = finished_written whole main p.local_size

  abbrev tree : Function
  tree = program.function

  abbrev head : Prototype
  head = program.prototype

  -- ---- main stands

  head_is : main_head p ≡ tree.prototype
  head_is = ap head_of program.main

  reached_main : is_reached p.functions (main_head p) tree.prototype ≡ true
  reached_main = or_left _ (reaches p.functions (main_head p) tree.prototype) (eq-eqb (main_head p) tree.prototype head_is)

  abbrev s : StandsAt m whole p h.place main head tree
  s = h.stand p.main main tree head program.main reached_main program.head (ap (λ n. slice_get h.place.functions n) (sym head_is) ∙ h.entered)

  abbrev fn : IsFunction m whole p.structs h.place tree.locals main s.begin
  fn = s.stands

  abbrev first : ℕ
  first = place_in m main fn.code fn.stands

  abbrev body : List Placed
  body = placed_from first fn.code

  no_params : s.begin.place.params ≡ []
  no_params = no_items s.begin.place.params (sym s.many ∙ ap length program.bare)

  none_taken : parameters_of body ≡ []
  none_taken = sym fn.placed.params ∙ no_params

  -- ---- its frame

  abbrev before : State
  before = before_entry m input

  abbrev count : ℕ
  count = length before.variables

  many : count ≡ length (value_variables m)
  many = length-map (value_variables m) (variable_begins m input)

  passed : ArePassed m body [] count
  passed = record {
    many = sym (ap length none_taken);
    room = omega (arith, many);
    each = λ k it is. absurd (none_at k it is);
    apart = λ a b number is other. absurd (none_at a _ is);
  }

  known : AreKnown m body s.begin.place
  known = record { apart = fn.placed.apart; each = each }
    where
      each : (name : Name) (id : ℕ) → id_of s.begin.place name ≡ Some id → HasId (value_variables m ++ variables_of body) id ⊎ IsParameter (parameters_of body) id
      each (Global k) id is = inl (in_front (value_variables m) (variables_of body) id (fn.placed.shared (Global k) id refl is))
      each (Interface k) id is = inl (in_front (value_variables m) (variables_of body) id (fn.placed.shared (Interface k) id refl is))
      each (Stage k) id is = inl (in_front (value_variables m) (variables_of body) id (fn.placed.shared (Stage k) id refl is))
      each (Param k) id is = inr (k, ap (λ l. slice_get l k) (sym fn.placed.params) ∙ is)
      each (Local k) id is = inl (at_back (value_variables m) (variables_of body) id (fn.placed.own (Local k) id refl is))
      each (Holder k) id is = inl (at_back (value_variables m) (variables_of body) id (fn.placed.own (Holder k) id refl is))

  abbrev own : Ids
  own = own_ids (globals m) body [] count

  abbrev begun : List Value
  begun = before.variables ++ map (begins_as m) (variables_of body)

  long : length begun ≡ count + length (variables_of body)
  long = length-append before.variables (map (begins_as m) (variables_of body)) ∙ ap (λ n. count + n) (length-map (variables_of body) (begins_as m))

  abbrev frame : Frame m input whole
  frame = record {
    before = fn.before;
    code = fn.code;
    behind = fn.behind;
    stands = fn.among;
    first = first;
    own = own;
    text = text_begun m whole main fn.code valid written fn.stands [] count;
    labels = label_found m main fn.code first (valid_once m valid) fn.stands;
    short = code_short m main fn.code fn.stands;
    waiting = [];
    seat = seat_in own s.begin.place;
    apart = seats_apart m body [] count s.begin.place passed known;
    place = s.begin.place;
    known = known_seated m body [] count s.begin.place passed known (kept m valid);
    result = Void;
    stages = stages;
    begun = begun;
    among = λ name number is. subst (λ n. number < n) (sym long) (seat_below m body [] count s.begin.place passed known name number is);
  }

  -- ---- its variables

  variables_are : variables_of body ≡ map variable_of fn.opens.variables
  variables_are = variables_same first fn.code ∙ fn.opens.all

  lasting : Keeps (globals m) own
  lasting = (function_lasts m (kept m valid) main fn.stands.returned main fn.stands.function_type body [] count (begun_as m main fn.code valid fn.stands) (code_found m main fn.code (valid_once m valid) fn.stands)).keeps

  own_points : (position : ℕ) (v : Declared) → slice_get fn.opens.variables position ≡ Some v → own v.id ≡ Some (Points (InVariable (count + position) []))
  own_points position v is =
      points_at (machine.give_each (globals m) (parameters_of body) []) count (variables_of body) position (variable_of v) (ap (λ l. slice_get l position) variables_are ∙ map_there variable_of fn.opens.variables position v is)
      (λ j w there e. let x = mapped variable_of fn.opens.variables j w (ap (λ l. slice_get l j) (sym variables_are) ∙ there) in fn.opens.apart j position x.0 v x.1 is (ap (λ (u : Variable). u.id) x.2 ∙ e))

  own_seat : (name : Name) (seat : ℕ) → is_own name ≡ true → seat_in own s.begin.place name ≡ Some seat → count ≤ seat
  own_seat name seat is at =
      let x = seat_back own (id_of s.begin.place name) seat at in
      let d = fn.placed.own name x.0 is x.1 in
      let y = mapped variable_of fn.opens.variables d.position d.variable (ap (λ l. slice_get l d.position) (sym variables_are) ∙ d.there) in
      let n : seat ≡ count + d.position = same_number (own x.0) seat (count + d.position) x.2 (ap own (sym (ap (λ (u : Variable). u.id) y.2 ∙ d.same)) ∙ own_points d.position y.0 y.1) in
      omega (arith, n)

  frame_is : IsFrame m input whole h.place stages frame
  frame_is = record {
    lasting = lasting;
    calls = calls_pass m whole main fn.code valid written fn.stands [] count;
    knows = fn.shared;
    stages = refl;
    shared = λ name seat is at. let x = seat_back own (id_of s.begin.place name) seat at in (x.0, sym (id_shared h.place s.begin.place fn.shared name is) ∙ x.1, x.2);
    behind = behind;
    room = omega (arith, many, long);
  }
    where
      behind : (name : Name) (seat : ℕ) → is_shared name ≡ false → seat_in own s.begin.place name ≡ Some seat → length (value_variables m) ≤ seat
      behind (Global k) seat is at = absurd cc
      behind (Interface k) seat is at = absurd cc
      behind (Stage k) seat is at = absurd cc
      behind (Param k) seat is at =
          let x = seat_back own (id_of s.begin.place (Param k)) seat at in
          absurd (none_at k x.0 (ap (λ l. slice_get l k) (sym no_params) ∙ x.1))
      behind (Local k) seat is at = let o = own_seat (Local k) seat refl at in omega (arith, many, o)
      behind (Holder k) seat is at = let o = own_seat (Holder k) seat refl at in omega (arith, many, o)

  -- ---- where its body begins

  abbrev state : State
  state = record (start m input) { rest = coming m input whole frame s.begin.sections; body = body; ids = own; own = own; variables = begun; waiting = [] }

  abbrev inside : Inside m input whole frame s.begin.sections
  inside = record { extends = fn.extends; done = fn.opening; more = fn.rest; is = fn.here; all = fn.is }

  variable_there : (position : ℕ) (v : Declared) → slice_get fn.opens.variables position ≡ Some v → slice_get begun (count + position) ≡ Some (constant m v.zero)
  variable_there position v is =
      back_at before.variables (map (begins_as m) (variables_of body)) position (constant m v.zero)
      (map_there (begins_as m) (variables_of body) position (variable_of v) (ap (λ l. slice_get l position) variables_are ∙ map_there variable_of fn.opens.variables position v is))

  abbrev opened : Code
  opened = instr op.LABEL (fn.opens.label ∷ []) ∷ map declares fn.opens.variables

  code_is : fn.code ≡ fn.opens.params ++ (opened ++ fn.rest)
  code_is = fn.is ∙ ap (λ l. l ++ fn.rest) fn.opens.is ∙ append_assoc fn.opens.params opened fn.rest

  abbrev at_label : ℕ
  at_label = words_from first fn.opens.params

  coming_here : coming m input whole frame s.begin.sections ≡ placed_from (words_from at_label opened) fn.rest
  coming_here = coming_is m input whole frame s.begin.sections inside ∙ ap (λ n. placed_from n fn.rest) (ap (words_from first) fn.opens.is ∙ words_on first fn.opens.params opened)

  from_label_on : from_first_label body ≡ placed_from at_label opened ++ coming m input whole frame s.begin.sections
  from_label_on =
      ap (λ c. from_first_label (placed_from first c)) code_is ∙ first_label first fn.opens.params (map declares fn.opens.variables ++ fn.rest) fn.opens.label fn.opens.ahead
      ∙ placed_join at_label opened fn.rest ∙ ap (λ l. placed_from at_label opened ++ l) (sym coming_here)

  starts : start m input ≡ machine.entered m (globals m) body [] [] before
  starts = start_is m input main fn.code (valid_once m valid) (entered whole main p.local_size valid) fn.stands

  -- the state is the start's but for what is still to come
  abbrev there : State
  there = machine.entered m (globals m) body [] [] before

  abbrev later : State
  later = record there { rest = coming m input whole frame s.begin.sections }

  runs : run m input (length opened) there ≡ Going later
  runs =
      ap (λ l. run m input (length opened) (record there { rest = l })) from_label_on
      ∙ opening_leads m input later fn.opens.label fn.opens.variables refl
      (λ position v is. record { number = count + position; points = own_points position v is; value = variable_there position v is }) at_label (coming m input whole frame s.begin.sections)

  entering : (units : ℕ) → Stretch m input 0 0 units (start m input) units (Going later)
  entering units =
      subst (λ (x : State). Stretch m input 0 0 units x units (Going later)) (sym starts)
      (let all : length (from_first_label body) ≡ length opened + length (coming m input whole frame s.begin.sections) = ap length from_label_on ∙ length-append (placed_from at_label opened) (coming m input whole frame s.begin.sections) ∙ ap (λ n. n + length (coming m input whole frame s.begin.sections)) (placed_length at_label opened) in
      stretch_of m input (length opened) units there (Going later) (omega (arith, all)) runs)

  module _ (alike : BeginAlike m input h.place whole p stages) where
    abbrev now : shader_state.State
    now = main_begins p input tree

    shared_begun : (name : Name) (w : Value) → is_shared name ≡ true → value_of stages (shader_begins p input) name ≡ Some w → (number : ℕ) × (frame.seat name ≡ Some number) × (slice_get begun number ≡ Some w)
    shared_begun name w is has =
        let b = alike.values name w is has in
        let among = among_at (value_variables m) b.position b.variable b.there in
        let o = value_points m (kept m valid) b.variable.id b.variable count (omega (arith, many)) among refl in
        let x = outer_position m b.variable.id o.number o.is in
        let here : own b.variable.id ≡ Some (Points (InVariable o.number [])) = lasting.same b.variable.id _ o.is in
        let same = same_variable x.0 b.variable (among_values m (kept m valid) x.0 (among_at (value_variables m) o.number x.0 x.1)).0 (among_values m (kept m valid) b.variable among).0 x.2 in (
          o.number,
          ap (number_at own) (id_shared h.place s.begin.place fn.shared name is ∙ b.named) ∙ ap number_in here,
          front_at before.variables (map (begins_as m) (variables_of body)) o.number w (map_there (variable_begins m input) (value_variables m) o.number x.0 x.1 ∙ ap Some (ap (variable_begins m input) same ∙ b.value)),
        )
      where
        same_variable : (v u : Variable) → variable_is (defined_as m v.id) ≡ Some v → variable_is (defined_as m u.id) ≡ Some u → v.id ≡ u.id → v ≡ u
        same_variable v u one other same = let both : Some v ≡ Some u = sym one ∙ ap (λ n. variable_is (defined_as m n)) same ∙ other in cc

    values_begun : (name : Name) (w : Value) → value_of stages now name ≡ Some w → (number : ℕ) × (frame.seat name ≡ Some number) × (slice_get begun number ≡ Some w)
    values_begun (Global k) w is = shared_begun (Global k) w refl is
    values_begun (Interface k) w is = shared_begun (Interface k) w refl is
    values_begun (Stage k) w is = shared_begun (Stage k) w refl is
    values_begun (Param k) w is = absurd (none_at k w is)
    values_begun (Local k) w is =
        let t = mapped (zero_value p.structs) tree.locals k w is in
        let z = fn.opens.zeros k t.0 t.1 in
        (count + z.0, ap (number_at own) z.3 ∙ ap number_in (own_points z.0 z.1 z.2), variable_there z.0 z.1 z.2 ∙ ap Some (z.4 ∙ t.2))
    values_begun (Holder k) w is = absurd cc

    typed_begun : AreTyped m input whole frame p (around_main p tree) now
    typed_begun = record { each = each; choices = alike.choices; blocks = alike.seen frame; stages = alike.stages_typed }
      where
        local : (k : ℕ) (o : Option Ty) → slice_get tree.locals k ≡ o → HasType m input whole frame p (around_main p tree) o (slice_get now.locals k)
        local k None is = tt
        local k (Some t) is = subst (HasType m input whole frame p (around_main p tree) (Some t)) (sym (map_there (zero_value p.structs) tree.locals k t is)) (fn.typed k t is)

        each : (name : Name) → HasType m input whole frame p (around_main p tree) (type_named (around_main p tree) name) (value_of stages now name)
        each (Global k) = alike.typed frame (Global k) refl
        each (Interface k) = alike.typed frame (Interface k) refl
        each (Stage k) = tt
        each (Param zero) = tt
        each (Param (suc k)) = tt
        each (Local k) = local k (slice_get tree.locals k) refl
        each (Holder k) = tt

    good : Good m input whole frame p (around_main p tree) s.begin now later
    good = record {
      inside = inside;
      rest = refl;
      within = refl;
      own = refl;
      waiting = refl;
      ready = record { lasting = keeps_same own; later = λ id less. refl };
      seated = record { same = refl };
      holds = record {
        values = values_begun;
        blocks = λ number id block is at.
            let b = alike.blocks number id block is (ap (λ l. slice_get l number) (sym fn.shared.blocks) ∙ at) in
            (b.0, ap (λ (x : State). bytes_of m input x id) (sym starts) ∙ b.1, b.2, b.3);
        buffers = alike.buffers;
        choices = refl;
        count = refl;
        outside = λ number none. refl;
      };
      typed = typed_begun;
      reached = reached_then m input (length opened) there later (subst (Reached m input) starts (reached_start m input valid alike.types alike.fits)) runs;
    }

    -- ---- main

    module _ (asked : AllAsked m input whole p h.place stages (is_lowered p)) where
      -- main is the only function of its head
      main_at : IsAt p.functions tree.prototype
      main_at = first_at p.functions tree.prototype (has_head p.functions p.main tree program.main)

      same_tree : main_at.tree ≡ tree
      same_tree =
          let number = once main_at.number p.main main_at.tree tree main_at.there program.main main_at.same in
          let both : Some main_at.tree ≡ Some tree = sym main_at.there ∙ ap (λ n. slice_get p.functions n) number ∙ program.main in cc

      typed_main : IsTypedFunction (program_lists p) tree
      typed_main = all_at (IsTypedFunction (program_lists p)) p.functions p.main tree program.typed.functions program.main

      same_head : typed_main.prototype ≡ head
      same_head = let both : Some typed_main.prototype ≡ Some head = sym typed_main.declared ∙ program.head in cc

      may : (n : ℕ) → IsIn (calls_of tree) n → MayCall m input whole p h.place stages (rank_of p) most_calls n
      may n is =
          let call = subst (λ l. IsIn l n) (ap calls_of (sym same_tree) ∙ sym main_at.calls) is in
          let k = callee_known target p program nests main flow valid h tree.prototype n reached_main call in
          record { less = called_low p nests tree.prototype n reached_main call; function = k.0; known = k.1 }

      body_is : IsBody (around_body (program_lists p) [] tree.locals) Void tree.body
      body_is =
          subst (λ params. IsBody (around_body (program_lists p) params tree.locals) Void tree.body) program.bare
          (subst (λ t. IsBody (around_body (program_lists p) head.params tree.locals) t tree.body) program.void (subst (λ (x : Prototype). IsBody (around_body (program_lists p) x.params tree.locals) x.result tree.body) same_head typed_main.body))

      is_main : IsMain m input whole p h.place stages (rank_of p) frame tree s.begin
      is_main = record {
        found = program.main;
        of_module = frame_is;
        alone = refl;
        nothing = refl;
        outs = alike.outs frame frame_is refl;
        later = s.lowered.later;
        lowered = subst (λ t. body_of p tree t s.begin ≡ Gives tt s.lowered.later) program.void s.lowered.is;
        inside = record {
          extends = s.lowered.extends;
          done = fn.opening ++ s.lowered.put;
          more = s.lowered.behind;
          is = s.lowered.puts ∙ ap (λ l. l ++ s.lowered.put) fn.here ∙ append_assoc fn.before fn.opening s.lowered.put;
          all = fn.is ∙ ap (λ l. fn.opening ++ l) s.lowered.all ∙ sym (append_assoc fn.opening s.lowered.put s.lowered.behind);
        };
        typed = record { program = program.typed; of_params = tt; of_locals = typed_main.locals };
        body = body_is;
        knows = knows_types target p program nests main flow valid h input stages frame frame_is;
        asks = body_asked m input whole p h.place stages (rank_of p) most_calls most_calls frame [] tree.locals tree may (body_known p program [] tree.locals tt typed_main.locals Void tree.body body_is)
            (subst (λ params. AlongAllLowered (AreAskedElseOf m input whole p h.place stages most_calls frame params tree.locals) (with_exits outside (up_to_jump tree.body))) program.bare
            (asked tree.prototype head tree (main_at.found ∙ ap Some same_tree) reached_main program.head most_calls frame frame_is));
      }

      -- what comes of it from where its body begins comes of it from the start
      from_start : (units : ℕ) (o : shader.Outcome) → EndsAs m input units later o → EndsAs m input units (start m input) o
      from_start units (shader.Ended output) e = record { left = e.left; stretch = stretch_then m input 0 0 0 units units e.left (start m input) later _ (entering units) e.stretch }
      from_start units shader.Strayed e = faults_behind m input 0 0 units units (start m input) later (entering units) e
      from_start units shader.Going e = lasts_behind m input 0 0 units units (start m input) later (entering units) e

      pub ends : (units : ℕ) → EndsAs m input units (start m input) (shader.shader p units input)
      ends units =
          from_start units (shader.shader p units input)
          (ends_as m input whole p h.place stages (rank_of p) frame tree s.begin units later valid written (all_stand target p program nests main flow valid h input stages asked) is_main good)

pub program_ends : (target : Target) (p : Program) (main : ℕ) (flow : Flow) → IsProgram p → MayNest p → AreOnce p → Valid (module_of flow.sections main p.local_size) → (h : HaveFunctions target p main flow) → (input : Input) (stages : List (Option Value))
    → AllAsked (module_of flow.sections main p.local_size) input flow.sections p h.place stages (is_lowered p) → BeginAlike (module_of flow.sections main p.local_size) input h.place flow.sections p stages → (units : ℕ)
    → EndsAs (module_of flow.sections main p.local_size) input units (start (module_of flow.sections main p.local_size) input) (shader.shader p units input)
program_ends target p main flow program nests once valid h input stages asked alike units = ends target p program nests once main flow valid h input stages alike asked units
