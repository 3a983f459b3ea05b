-- A call leads into the function that it calls.
use Rattle.std.proofs.Common.{◌≡◌, refl, sym, ap, ◌∙◌, subst, ℕ, suc, ◌+◌, ◌<◌, ◌≤◌, true, List, ◌∷◌, ◌++◌, length, map, Some, None, arith}
use Rattle.std.specs.List.{flat_map, sum_by}
use Rattle.std.specs.Prelude.{◌==◌}
use Rattle.std.proofs.lemmas.Bool.{and_parts, eqb-true, false≢true}
use Rattle.std.proofs.lemmas.List.Sums.{sum_by-append}
use Rattle.gsl_base.specs.declared.input.Buffer.{Buffer}
use Rattle.gsl_base.specs.declared.input.Input.{Input}
use Rattle.gsl_words.specs.declared.module.Module.{Module}
use Rattle.gsl_valid.specs.CallRules.{call_of, fits_function, may_call}
use Rattle.gsl_valid.specs.ConstantRules.{have_each}
use Rattle.gsl_valid.specs.Ids.{result}
use Rattle.gsl_valid.specs.IdsDefinedOnce.{ids_defined_once}
use Rattle.gsl_valid.specs.Instruction.{read}
use Rattle.gsl_valid.specs.Kinds.{Begins, Calls, Kind, kind}
use Rattle.gsl_valid.specs.Placed.{Placed}
use Rattle.gsl_valid.specs.Types.{defined_as, has_type, parameters_of}
use Rattle.gsl_valid.specs.Where.{where_at}
use Rattle.gsl_ids.specs.Table.{number_of}
use Rattle.gsl_machine.specs.Functions.{begins_as, call_from, entered, from_first_label, function_at, own_ids, variables_of}
use Rattle.gsl_machine.specs.Interfaces.{globals}
use Rattle.gsl_machine.specs.State.{Held, State}
use Rattle.gsl_region.specs.Flat.{flat_all}
use Rattle.gsl_region.specs.Showing.{with_words}
use Rattle.gsl_region.specs.Showing.{Shows as ShowsVariables}
use Rattle.gsl_region.proofs.Focus.{begun}
use Rattle.gsl_kinds.specs.Runtimes.{front}
use Rattle.gsl_leaves.specs.Leaves.{leaves}
use Rattle.gsl_memory_law.proofs.Typed.{words_typed}
use Rattle.gsl_positions.specs.Positions.{left}
use Rattle.gsl_positions.proofs.Standing.{below}
use Rattle.gsl_sound.specs.Sound.{Good}
use Rattle.gsl_sound_code.specs.Spots.{AtLabel, IsBody, Spot}
use Rattle.gsl_sound_code.proofs.Functions.{body_of}
use Rattle.gsl_sound_code.proofs.Looks.{Kept}
use Rattle.gsl_sound_code.proofs.Walks.{enter, step_of}
use Rattle.gsl_sound_types.specs.Typed.{Typed, types_below, types_in, types_of}
use Rattle.gsl_sound_types.proofs.Entering.{AreOfTypes, begin_typed, own_variables}
use Rattle.gsl_frames.specs.declared.taken.Taken.{Taken}
use Rattle.gsl_frames.specs.Frames.{frame, held_words, taken_in}
use Rattle.gsl_shown.specs.Shown.{Shows, ShowsEach, ShowsIds, Standing, held_as}
use Rattle.gsl_shown.proofs.Bounds.{bounded_in, grows}
use Rattle.gsl_shown.proofs.Branching.{in_all_at, one_number}
use Rattle.gsl_shown.proofs.Giving.{kept_each}
use Rattle.gsl_shown.proofs.Passing.{stands}
use Rattle.gsl_shown.proofs.Places.{stays_in}
use Rattle.gsl_shown_calls.specs.Calling.{StandFor, called_at}
use Rattle.gsl_shown_calls.proofs.Counting.{arguments_counted, arguments_stay, arguments_typed, variables_counted}
use Rattle.gsl_shown_calls.proofs.Entered.{all_first, begun_shown, body_fresh, head}
use Rattle.gsl_shown_calls.proofs.Putting.{counted_all}

-- The function that a call calls, and what it is given.
pub record IsCalled (m : Module) (type function : ℕ) (given : List ℕ) : Type 0 where
  pub own : ℕ
  pub function_type : ℕ
  pub is : kind (defined_as m function) ≡ Begins type own function_type
  pub have : have_each (has_type m) (parameters_of (defined_as m function_type)) given ≡ true

module _ (m : Module) where
  pub called_is : (type function : ℕ) (given : List ℕ) (k : Kind) → kind (defined_as m function) ≡ k → fits_function m type given k ≡ true → IsCalled m type function given
  called_is type function given (Begins returned own function_type) is fits =
      let both = and_parts (returned == type) (have_each (has_type m) (parameters_of (defined_as m function_type)) given) fits in
      record { own = own; function_type = function_type; is = is ∙ ap (λ t. Begins t own function_type) (eqb-true returned type both.0); have = both.1 }
  called_is type function given _ is fits = absurd (false≢true fits)

-- the parameters stand within what a function takes
pub parameters_fit : (m : Module) (kept : Kept m) (valid : ids_defined_once m ≡ None) (id returned own function_type : ℕ) (begun : kind (defined_as m id) ≡ Begins returned own function_type) (b : IsBody m id returned function_type)
    → sum_by (held_words m) (parameters_of (defined_as m function_type)) ≤ (frame m b.body).most
parameters_fit m kept valid id returned own function_type begun b =
    let h = head m kept valid id returned own function_type begun b in
    let types = parameters_of (defined_as m function_type) in
    let e = enter m kept b.body returned b.before b.body types b.spot b.begun in
    let all = stays_in m kept b.body returned e.arrived.before (left m h.first) (subst (Spot m b.body returned e.arrived.before) h.is e.arrived.spot) in
    let grown = grows m (left m h.first) (taken_in m (front m h.first)) all in
    let low = (bounded_in m (front m h.first)).top in
    let top = h.top in
    let same : (in_all_at m h.first).most ≡ (frame m b.body).most = ap (λ (t : Taken). t.most) (all_first m kept valid id returned own function_type begun b) in
    let from : (taken_in m (front m (number_of m id))).top ≡ 0 = ap (λ (t : Taken). t.top) (body_fresh m kept valid id returned own function_type begun b) in
    omega (arith, grown, low, top, same, from)

-- code that is left from two numbers on, and begins with a label, begins at one
pub first_is : (m : Module) (a b : ℕ) → left m a ≡ left m b → AtLabel (left m a) → a ≡ b
first_is m a b same label =
    let some : 0 < length (left m a) = (let size : length (left m a) ≡ suc (length label.more) = ap length label.is in omega (arith, size)) in
    one_number m a b (below m a some) (below m b (subst (λ l. 0 < length l) same some)) same

module _ (m : Module) (kept : Kept m) (valid : ids_defined_once m ≡ None) (input : Input) (f : Standing) (callers : List Standing) (slots words : List ℕ) (buffers : List Buffer) (choices : List ℕ) (state : State) (good : Good m input state) (typed : Typed m state)
    (shows : Shows m f callers slots words buffers choices state) (p : Placed) (more : List Placed) (comes : state.rest ≡ p ∷ more) (type id function : ℕ) (given : List ℕ) (is : kind (read p.instr) ≡ Calls type function given) (result_is : result (read p.instr) ≡ Some id)
    (held : List Held) (stand : StandFor state.ids given held) where
  -- where the slots of the function begin
  abbrev Base : ℕ
  Base = f.slots + (frame m state.body).most

  abbrev Types : List ℕ
  Types = types_in m state

  abbrev it : IsCalled m type function given
  it =
      let step = step_of m kept state.body good.returned good.runs.before p more (subst (Spot m state.body good.returned good.runs.before) comes good.runs.spot) in
      let may : may_call m (where_at m good.runs.before) type function given ≡ true = ap (call_of m good.runs.before) (sym is) ∙ step.keeps.call in
      called_is m type function given (kind (defined_as m function)) refl (and_parts _ _ (and_parts _ _ (and_parts _ _ may).0).0).0

  abbrev b : IsBody m function type it.function_type
  b = body_of m kept function type it.own it.function_type it.is

  arguments_are : AreOfTypes m Types (parameters_of (defined_as m it.function_type)) held
  arguments_are = arguments_typed m kept Types state.ids (parameters_of (defined_as m it.function_type)) given held typed.frame.held it.have stand

  abbrev New : List ℕ
  New = flat_map (held_as m Types) held

  abbrev After : State
  After = record state { rest = more }

  -- what the caller has taken so far stands below
  taken_below : f.slots + (taken_in m (front m f.at)).top ≤ Base
  taken_below =
      let all = stays_in m kept state.body good.returned good.runs.before (left m f.at) (subst (Spot m state.body good.returned good.runs.before) shows.rest good.runs.spot) in
      let grown = grows m (left m f.at) (taken_in m (front m f.at)) all in
      let low = (bounded_in m (front m f.at)).top in
      let same : (in_all_at m f.at).most ≡ (frame m state.body).most = ap (λ (t : Taken). t.most) shows.ids.in_all in
      omega (arith, grown, low, same)

  below_is : sum_by (leaves m) Types ≡ f.variables + (frame m state.body).variables
  below_is =
      let own = variables_counted m kept state.body good.returned good.runs.start good.runs.first (stays_in m kept state.body good.returned good.runs.start state.body good.runs.first) in
      let both = sum_by-append (leaves m) (types_below m state.waiting) (types_of m (variables_of state.body)) in
      let front_is = shows.ids.variables_are in
      omega (arith, own, both, front_is)

  callers_shown : ShowsEach m slots Base (f ∷ callers) (call_from id After ∷ state.waiting)
  callers_shown =
      let stood = stands m f callers slots words buffers choices state shows p more comes (Calls type function given) is refl in (
        record { instr = p.instr; here = stood.here; type = type; function = function; arguments = given; is = is; gives = result_is },
        stood.behind_it,
        refl,
        taken_below,
        shows.ids,
        shows.waiting,
      )

  -- the words of what is given are within what the function takes
  pub given_fits : (body : List Placed) → function_at m function ≡ Some body → length New ≤ (frame m body).most
  given_fits body at =
      let own_types = types_of m (variables_of b.body) in
      let parameters = parameters_of (defined_as m it.function_type) in
      let counted = arguments_counted m kept Types own_types parameters held arguments_are in
      let same_words = arguments_stay m kept Types own_types parameters held arguments_are in
      let fit = parameters_fit m kept valid function type it.own it.function_type it.is b in
      let size : length New ≡ sum_by (held_words m) parameters = ap length (sym same_words) ∙ counted_all m (held_as m (Types ++ own_types)) parameters held counted in
      let same : b.body ≡ body = (let both : Some b.body ≡ Some body = sym b.found ∙ at in cc) in
      let most : (frame m b.body).most ≡ (frame m body).most = ap (λ l. (frame m l).most) same in
      omega (arith, size, fit, most)

  -- its variables begin with as many words as it takes for them
  pub initial_fits : (body : List Placed) → function_at m function ≡ Some body → length (flat_all (map (begins_as m) (variables_of body))) ≡ (frame m body).variables
  initial_fits body at =
      let same : b.body ≡ body = (let both : Some b.body ≡ Some body = sym b.found ∙ at in cc) in
      subst (λ l. length (flat_all (map (begins_as m) (variables_of l))) ≡ (frame m l).variables) same
      (words_typed m (types_of m (variables_of b.body)) (map (begins_as m) (variables_of b.body)) (begin_typed m kept type b.body b.before b.spot (variables_of b.body) (own_variables m kept type b.body b.before b.spot))
      ∙ sym (variables_counted m kept b.body type b.before b.spot (stays_in m kept b.body type b.before b.body b.spot)))

  pub call_shown : (first : ℕ) → from_first_label b.body ≡ left m first → Base + (frame m b.body).most ≤ length slots
      → Shows m (record { at = first; body = number_of m function; slots = Base; variables = f.variables + (frame m state.body).variables }) (f ∷ callers) (with_words slots Base New)
      (with_words words (f.variables + (frame m state.body).variables) (flat_all (map (begins_as m) (variables_of b.body)))) buffers choices (entered m (globals m) b.body held (call_from id After ∷ state.waiting) After)
  call_shown first found room =
      let own_types = types_of m (variables_of b.body) in
      let parameters = parameters_of (defined_as m it.function_type) in
      let counted = arguments_counted m kept Types own_types parameters held arguments_are in
      let same_words = arguments_stay m kept Types own_types parameters held arguments_are in
      let fit = parameters_fit m kept valid function type it.own it.function_type it.is b in
      let size : length New ≡ sum_by (held_words m) parameters = ap length (sym same_words) ∙ counted_all m (held_as m (Types ++ own_types)) parameters held counted in
      let h = head m kept valid function type it.own it.function_type it.is b in
      let arrived = (enter m kept b.body type b.before b.body parameters b.spot b.begun).arrived in
      let at_first : h.first ≡ first = first_is m h.first first (sym h.is ∙ found) (subst AtLabel h.is arrived.label) in
      let ids = begun_shown m kept valid function type it.own it.function_type it.is b Types Base slots held (length state.variables) counted room (omega (arith, fit, room)) in
      let ids_here = subst (λ n. ShowsIds m Types (record { at = first; body = number_of m function; slots = Base; variables = n }) b.body (with_words slots Base New) (own_ids (globals m) b.body held (length state.variables)) (own_ids (globals m) b.body held (length state.variables))) below_is
      (subst (λ w. ShowsIds m Types (record { at = first; body = number_of m function; slots = Base; variables = sum_by (leaves m) Types }) b.body (with_words slots Base w) (own_ids (globals m) b.body held (length state.variables)) (own_ids (globals m) b.body held (length state.variables))) same_words
      (subst (λ a. ShowsIds m Types (record { at = a; body = number_of m function; slots = Base; variables = sum_by (leaves m) Types }) b.body (with_words slots Base (flat_map (held_as m (Types ++ own_types)) held)) (own_ids (globals m) b.body held (length state.variables)) (own_ids (globals m) b.body held (length state.variables))) at_first ids)) in
      record {
        rest = found;
        ids = ids_here;
        variables = subst (λ n. ShowsVariables (with_words words n (flat_all (map (begins_as m) (variables_of b.body)))) (state.variables ++ map (begins_as m) (variables_of b.body))) (words_typed m Types state.variables typed.variables ∙ below_is)
            (begun words state.variables (map (begins_as m) (variables_of b.body)) shows.variables);
        waiting = kept_each m New slots Base (omega (arith, size, fit, room)) Base (f ∷ callers) (call_from id After ∷ state.waiting) (omega arith) callers_shown;
        buffers_are = shows.buffers_are;
        choices_are = shows.choices_are;
      }

  pub call_leads : (body : List Placed) (first : ℕ) → function_at m function ≡ Some body → from_first_label body ≡ left m first → Base + (frame m body).most ≤ length slots
      → Shows m (called_at m f state.body (number_of m function) first) (f ∷ callers) (with_words slots Base New) (with_words words (f.variables + (frame m state.body).variables) (flat_all (map (begins_as m) (variables_of body)))) buffers choices
      (entered m (globals m) body held (call_from id After ∷ state.waiting) After)
  call_leads body first at found room =
      let same : b.body ≡ body = (let both : Some b.body ≡ Some body = sym b.found ∙ at in cc) in
      subst (λ l. Shows m (called_at m f state.body (number_of m function) first) (f ∷ callers) (with_words slots Base New) (with_words words (f.variables + (frame m state.body).variables) (flat_all (map (begins_as m) (variables_of l)))) buffers choices (entered m (globals m) l held (call_from id After ∷ state.waiting) After)) same
      (call_shown first (ap from_first_label same ∙ found) (subst (λ l. Base + (frame m l).most ≤ length slots) (sym same) room))
