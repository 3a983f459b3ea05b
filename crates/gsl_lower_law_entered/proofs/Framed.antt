-- The frame of a function that a caller passes holders to.
use Rattle.std.proofs.Common.{◌≡◌, refl, sym, ap, ◌∙◌, subst, ℕ, zero, suc, ◌+◌, ◌<◌, ◌≤◌, true, false, List, [], ◌∷◌, ◌++◌, length, map, Option, Some, inl, inr, ◌⊎◌, arith}
use Rattle.std.specs.Prelude.{slice_get}
use Rattle.std.proofs.lemmas.List.{length-append, length-map}
use Rattle.std.proofs.lemmas.Option.{slice_get_within}
use Rattle.gsl_base.specs.declared.input.Input.{Input}
use Rattle.gsl_types.specs.declared.ty.StructType.{StructType}
use Rattle.gsl_types.specs.declared.ty.Ty.{Ty}
use Rattle.gsl_words.specs.declared.module.Module.{Module}
use Rattle.gsl_values.specs.declared.value.Value.{Value}
use Rattle.gsl_valid.specs.Kinds.{Variable}
use Rattle.gsl_valid.specs.Placed.{Placed, placed_from}
use Rattle.gsl_valid.specs.Valid.{Valid}
use Rattle.gsl_machine.specs.Functions.{begins_as, give_each, own_ids, parameters_of, variables_of}
use Rattle.gsl_machine.specs.Interfaces.{globals, value_variables}
use Rattle.gsl_machine.specs.State.{Held, Ids, InVariable, Points, State, Waiting}
use Rattle.gsl_sound_code.proofs.Looks.{kept}
use Rattle.gsl_sound_ids.proofs.Globals.{unpointed}
use Rattle.gsl_spv.specs.Sections.{Sections}
use Rattle.gsl_lower_law.specs.Values.{Keeps}
use Rattle.gsl_lower_holders.specs.Flow.{Flow}
use Rattle.gsl_lower_holders.specs.declared.place.FlowPlace.{FlowPlace}
use Rattle.gsl_lower_text.specs.Written.{Written}
use Rattle.gsl_lower_text.proofs.Lasting.{function_lasts}
use Rattle.gsl_lower_follows.specs.Frames.{Frame, Global, Holder, Interface, Local, Name, Param, Seated, Stage, id_if, id_of}
use Rattle.gsl_lower_follows.proofs.Holding.{found_among, holder_number, id_known, seat_known}
use Rattle.gsl_lower_frames.specs.Calling.{AreKnown, ArePassed}
use Rattle.gsl_lower_frames.specs.Named.{HasId, number_at, number_in, seat_in}
use Rattle.gsl_lower_frames.specs.Standing.{place_in}
use Rattle.gsl_lower_frames.proofs.Calls.{known_seated, seat_below, seats_apart}
use Rattle.gsl_lower_frames.proofs.Found.{code_found, code_short, label_found}
use Rattle.gsl_lower_frames.proofs.Numbers.{At, seat_back, value_points}
use Rattle.gsl_lower_frames.proofs.Starts.{variables_same}
use Rattle.gsl_lower_frames.proofs.Texts.{begun_as, text_begun, valid_once}
use Rattle.gsl_lower_law_returns.specs.Calling.{IsCalled, call_of, is_own, is_shared}
use Rattle.gsl_lower_law_entered.specs.Modules.{AreShared, Declared, IsFrame, IsFunction, variable_of}
use Rattle.gsl_lower_law_entered.specs.Entering.{Argument, AreHeld}
use Rattle.gsl_lower_law_entered.proofs.Given.{among_at, given_there, index_of_among, map_there, mapped, none_at, points_at, same_option}
use Rattle.gsl_lower_law_entered.proofs.Lasting.{calls_pass}

abbrev pub held_of : Argument → Held
held_of a = Points (InVariable a.seat [])

abbrev pub helds : List Argument → List Held
helds args = map held_of args

-- the variables outside functions are known by the same ids
pub id_shared : (place other : FlowPlace) → AreShared place other → (name : Name) → is_shared name ≡ true → id_of other name ≡ id_of place name
id_shared place other shared (Global k) is = ap (λ l. slice_get l k) shared.globals
id_shared place other shared (Interface k) is = ap (λ l. slice_get l k) shared.interfaces
id_shared place other shared (Stage k) is = ap (λ l. id_if (slice_get l k)) shared.stages
id_shared place other shared (Param k) is = absurd cc
id_shared place other shared (Local k) is = absurd cc
id_shared place other shared (Holder k) is = absurd cc

-- a variable that runs is one
pub same_number : (held : Option Held) (n k : ℕ) → At held n → At held k → n ≡ k
same_number held n k first second = let both : Some n ≡ Some k = sym (ap number_in first) ∙ ap number_in second in cc

abbrev param_number : Name → ℕ
param_number (Global k) = 0
param_number (Interface k) = 0
param_number (Stage k) = 0
param_number (Param k) = k
param_number (Local k) = 0
param_number (Holder k) = 0

module _ (m : Module) (input : Input) (whole : Sections) (f : Frame m input whole) (structs : List StructType) (place : FlowPlace) (locals : List Ty) (stages : List (Option Value)) (result : Ty) (function : ℕ) (begin : Flow) (fn : IsFunction m whole structs place locals function begin)
    (valid : Valid m) (written : Written m whole) (of_module : IsFrame m input whole place stages f) (first : ℕ) (state : State) (args : List Argument) (many : length state.variables ≡ length f.begun) (held : AreHeld m input whole f first state args) (enough : length args ≡ length begin.place.params) where
  abbrev pub body : List Placed
  body = placed_from (place_in m function fn.code fn.stands) fn.code

  abbrev pub count : ℕ
  count = length state.variables

  abbrev pub own : Ids
  own = own_ids (globals m) body (helds args) count

  pub room : length (value_variables m) ≤ count
  room = let r = of_module.room in omega (arith, r, many)

  -- ---- what is passed

  passed_each : (position : ℕ) (it : Held) → slice_get (helds args) position ≡ Some it → (number : ℕ) × (it ≡ Points (InVariable number [])) × (length (value_variables m) ≤ number) × (number < count)
  passed_each position it is =
      let a = mapped held_of args position it is in
      let h = held.each position a.0 a.1 in
      (a.0.seat, sym a.2, of_module.behind (Holder a.0.holder) a.0.seat refl h.seat, subst (λ n. a.0.seat < n) (sym many) (f.among (Holder a.0.holder) a.0.seat h.seat))

  passed_apart : (j k number : ℕ) → slice_get (helds args) j ≡ Some (Points (InVariable number [])) → slice_get (helds args) k ≡ Some (Points (InVariable number [])) → j ≡ k
  passed_apart j k number first_is second_is =
      let a = mapped held_of args j (Points (InVariable number [])) first_is in
      let b = mapped held_of args k (Points (InVariable number [])) second_is in
      let x = held.each j a.0 a.1 in
      let y = held.each k b.0 b.1 in
      let p : a.0.seat ≡ number = same_number (Some (held_of a.0)) a.0.seat number refl (ap Some a.2) in
      let q : b.0.seat ≡ number = same_number (Some (held_of b.0)) b.0.seat number refl (ap Some b.2) in
      held.apart j k a.0 b.0 a.1 b.1 (ap holder_number (f.apart (Holder a.0.holder) (Holder b.0.holder) number (x.seat ∙ ap Some p) (y.seat ∙ ap Some q)))

  pub passed : ArePassed m body (helds args) count
  passed = record {
    many = length-map args held_of ∙ enough ∙ ap length fn.placed.params;
    room = room;
    each = passed_each;
    apart = passed_apart;
  }

  -- ---- what is known

  in_front : (vs ws : List Variable) (id : ℕ) → HasId vs id → HasId (vs ++ ws) id
  in_front [] ws id h = absurd (none_at h.position h.variable h.there)
  in_front (v ∷ vs) ws id h = by (in_front vs ws id) h.position h.variable h.there h.same
    where
      by : (HasId vs id → HasId (vs ++ ws) id) → (k : ℕ) (w : Variable) → slice_get (v ∷ vs) k ≡ Some w → w.id ≡ id → HasId (v ∷ (vs ++ ws)) id
      by more zero w is same = record { position = 0; variable = w; there = is; same = same }
      by more (suc k) w is same = let later = more (record { position = k; variable = w; there = is; same = same }) in record { position = suc later.position; variable = later.variable; there = later.there; same = later.same }

  at_back : (vs ws : List Variable) (id : ℕ) → HasId ws id → HasId (vs ++ ws) id
  at_back [] ws id h = h
  at_back (v ∷ vs) ws id h = let later = at_back vs ws id h in record { position = suc later.position; variable = later.variable; there = later.there; same = later.same }

  pub known : AreKnown m body begin.place
  known = record { apart = fn.placed.apart; each = each }
    where
      each : (name : Name) (id : ℕ) → id_of begin.place name ≡ Some id → HasId (value_variables m ++ variables_of body) id ⊎ ((position : ℕ) × (slice_get (parameters_of body) position ≡ Some id))
      each (Global k) id is = inl (in_front (value_variables m) (variables_of body) id (fn.placed.shared (Global k) id refl is))
      each (Interface k) id is = inl (in_front (value_variables m) (variables_of body) id (fn.placed.shared (Interface k) id refl is))
      each (Stage k) id is = inl (in_front (value_variables m) (variables_of body) id (fn.placed.shared (Stage k) id refl is))
      each (Param k) id is = inr (k, ap (λ l. slice_get l k) (sym fn.placed.params) ∙ is)
      each (Local k) id is = inl (at_back (value_variables m) (variables_of body) id (fn.placed.own (Local k) id refl is))
      each (Holder k) id is = inl (at_back (value_variables m) (variables_of body) id (fn.placed.own (Holder k) id refl is))

  -- ---- the frame

  abbrev pub begun : List Value
  begun = state.variables ++ map (begins_as m) (variables_of body)

  pub long : length begun ≡ count + length (variables_of body)
  long = length-append state.variables (map (begins_as m) (variables_of body)) ∙ ap (λ n. count + n) (length-map (variables_of body) (begins_as m))

  abbrev pub frame_of : List Waiting → Frame m input whole
  frame_of waiting = record {
    before = fn.before;
    code = fn.code;
    behind = fn.behind;
    stands = fn.among;
    first = place_in m function fn.code fn.stands;
    own = own;
    text = text_begun m whole function fn.code valid written fn.stands (helds args) count;
    labels = label_found m function fn.code (place_in m function fn.code fn.stands) (valid_once m valid) fn.stands;
    short = code_short m function fn.code fn.stands;
    waiting = waiting;
    seat = seat_in own begin.place;
    apart = seats_apart m body (helds args) count begin.place passed known;
    place = begin.place;
    known = known_seated m body (helds args) count begin.place passed known (kept m valid);
    result = result;
    stages = stages;
    begun = begun;
    among = λ name number is. subst (λ n. number < n) (sym long) (seat_below m body (helds args) count begin.place passed known name number is);
  }

  pub seated : (waiting : List Waiting) → Seated m input whole (frame_of waiting) begin.place
  seated waiting = record { same = refl }

  -- ---- its variables

  pub variables_are : variables_of body ≡ map variable_of fn.opens.variables
  variables_are = variables_same (place_in m function fn.code fn.stands) fn.code ∙ fn.opens.all

  abbrev given : Ids
  given = give_each (globals m) (parameters_of body) (helds args)

  pub own_points : (position : ℕ) (v : Declared) → slice_get fn.opens.variables position ≡ Some v → own v.id ≡ Some (Points (InVariable (count + position) []))
  own_points position v is =
      points_at given count (variables_of body) position (variable_of v) (ap (λ l. slice_get l position) variables_are ∙ map_there variable_of fn.opens.variables position v is)
      (λ j w there e. let x = mapped variable_of fn.opens.variables j w (ap (λ l. slice_get l j) (sym variables_are) ∙ there) in fn.opens.apart j position x.0 v x.1 is (ap (λ (u : Variable). u.id) x.2 ∙ e))

  -- the id of a variable of the function
  pub declared_as : (id : ℕ) → HasId (variables_of body) id → (position : ℕ) × (v : Declared) × (slice_get fn.opens.variables position ≡ Some v) × (v.id ≡ id)
  declared_as id h =
      let x = mapped variable_of fn.opens.variables h.position h.variable (ap (λ l. slice_get l h.position) (sym variables_are) ∙ h.there) in
      (h.position, x.0, x.1, ap (λ (u : Variable). u.id) x.2 ∙ h.same)

  pub own_seat : (name : Name) (seat : ℕ) → is_own name ≡ true → seat_in own begin.place name ≡ Some seat → count ≤ seat
  own_seat name seat is at =
      let x = seat_back own (id_of begin.place name) seat at in
      let d = declared_as x.0 (fn.placed.own name x.0 is x.1) in
      let n : seat ≡ count + d.0 = same_number (own x.0) seat (count + d.0) x.2 (ap own (sym d.3) ∙ own_points d.0 d.1 d.2) in
      omega (arith, n)

  -- ---- its parameters

  pub param_seat : (number : ℕ) (a : Argument) → slice_get args number ≡ Some a → seat_in own begin.place (Param number) ≡ Some a.seat
  param_seat number a is =
      let less : number < length begin.place.params = (let here = slice_get_within args number a is in omega (arith, here, enough)) in
      let p = found_among begin.place.params number less in
      let there : own p.0 ≡ Some (held_of a) =
      unpointed given count (variables_of body) p.0 (λ v among same. let k = index_of_among v (variables_of body) among in fn.placed.aside number p.0 p.1 (record { position = k.0; variable = v; there = k.1; same = same }))
      ∙ given_there (globals m) (parameters_of body) (helds args) number p.0 (held_of a) (ap (λ l. slice_get l number) (sym fn.placed.params) ∙ p.1) (map_there held_of args number a is)
      (λ j e. ap param_number (fn.placed.apart (Param j) (Param number) p.0 (ap (λ l. slice_get l j) fn.placed.params ∙ e) p.1)) in
      ap (number_at own) p.1 ∙ ap number_in there

  pub param_argument : (number seat : ℕ) → seat_in own begin.place (Param number) ≡ Some seat → (a : Argument) × (slice_get args number ≡ Some a) × (a.seat ≡ seat)
  param_argument number seat is =
      let x = seat_back own (slice_get begin.place.params number) seat is in
      let less : number < length args = (let here = slice_get_within begin.place.params number x.0 x.1 in omega (arith, here, enough)) in
      let a = found_among args number less in
      let both : Some a.0.seat ≡ Some seat = sym (param_seat number a.0 a.1) ∙ is in
      (a.0, a.1, cc)

  -- ---- the module's variables

  pub lasting : Keeps (globals m) own
  lasting = (function_lasts m (kept m valid) function fn.stands.returned function fn.stands.function_type body (helds args) count (begun_as m function fn.code valid fn.stands) (code_found m function fn.code (valid_once m valid) fn.stands)).keeps

  pub outer_points : (id : ℕ) → HasId (value_variables m) id → (n : ℕ) × At (globals m id) n
  outer_points id h = let p = value_points m (kept m valid) id h.variable count room (among_at (value_variables m) h.position h.variable h.there) h.same in (p.number, p.is)

  -- what a name of the module's is in the caller, it is in the function
  pub seat_kept : (b : Flow) → Seated m input whole f b.place → (name : Name) → is_shared name ≡ true → seat_in own begin.place name ≡ f.seat name
  seat_kept b at name is = same_option (seat_in own begin.place name) (f.seat name) there back
    where
      there : (n : ℕ) → seat_in own begin.place name ≡ Some n → f.seat name ≡ Some n
      there n e =
          let x = seat_back own (id_of begin.place name) n e in
          let o = outer_points x.0 (fn.placed.shared name x.0 is x.1) in
          let y = seat_known m input whole f b.place at name x.0 (id_known m input whole f b.place at name ∙ id_shared place f.place of_module.knows name is ∙ sym (id_shared place begin.place fn.shared name is) ∙ x.1) in
          let first_is : n ≡ o.0 = same_number (own x.0) n o.0 x.2 (lasting.same x.0 _ o.1) in
          let second_is : y.0 ≡ o.0 = same_number (f.own x.0) y.0 o.0 y.2 (of_module.lasting.same x.0 _ o.1) in
          y.1 ∙ ap Some (second_is ∙ sym first_is)

      back : (n : ℕ) → f.seat name ≡ Some n → seat_in own begin.place name ≡ Some n
      back n e =
          let x = of_module.shared name n is e in
          let here : id_of begin.place name ≡ Some x.0 = id_shared place begin.place fn.shared name is ∙ x.1 in
          let o = outer_points x.0 (fn.placed.shared name x.0 is here) in
          let same : o.0 ≡ n = same_number (f.own x.0) o.0 n (of_module.lasting.same x.0 _ o.1) x.2 in
          ap (number_at own) here ∙ ap number_in (lasting.same x.0 _ o.1) ∙ ap Some same

  -- ---- it is one of the module's, and was called

  pub frame_is : (waiting : List Waiting) → IsFrame m input whole place stages (frame_of waiting)
  frame_is waiting = record {
    lasting = lasting;
    calls = calls_pass m whole function fn.code valid written fn.stands (helds args) count;
    knows = fn.shared;
    stages = refl;
    shared = λ name seat is at. let x = seat_back own (id_of begin.place name) seat at in (x.0, sym (id_shared place begin.place fn.shared name is) ∙ x.1, x.2);
    behind = behind;
    room = (let r = room in omega (arith, r, long));
  }
    where
      behind : (name : Name) (seat : ℕ) → is_shared name ≡ false → seat_in own begin.place name ≡ Some seat → length (value_variables m) ≤ seat
      behind (Global k) seat is at = absurd cc
      behind (Interface k) seat is at = absurd cc
      behind (Stage k) seat is at = absurd cc
      behind (Param k) seat is at =
          let a = param_argument k seat at in
          let h = held.each k a.0 a.1 in
          subst (λ n. length (value_variables m) ≤ n) a.2 (of_module.behind (Holder a.0.holder) a.0.seat refl h.seat)
      behind (Local k) seat is at = let r = room in let o = own_seat (Local k) seat refl at in omega (arith, r, o)
      behind (Holder k) seat is at = let r = room in let o = own_seat (Holder k) seat refl at in omega (arith, r, o)

  pub was_called : (b : Flow) → Seated m input whole f b.place → (id : ℕ) (rest : List Placed) → IsCalled m input whole f (frame_of (call_of id state rest ∷ f.waiting)) first id state rest
  was_called b at id rest = record {
    waiting = refl;
    blocks = fn.shared.blocks ∙ sym of_module.knows.blocks;
    stages = sym of_module.stages;
    shared = seat_kept b at;
    params = λ number seat is. let a = param_argument number seat is in let h = held.each number a.0 a.1 in (a.0.holder, h.behind, h.seat ∙ ap Some a.2);
    own = own_seat;
    begins = map (begins_as m) (variables_of body);
    begun = refl;
  }
