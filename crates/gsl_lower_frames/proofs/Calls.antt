-- The frame of a function that is called.
use Rattle.std.proofs.Common.{◌≡◌, refl, sym, ap, ◌∙◌, subst, ℕ, ◌+◌, ◌<◌, List, ◌++◌, length, map, Some, inl, inr, arith, Option}
use Rattle.std.proofs.lemmas.List.{length-append, length-map}
use Rattle.gsl_base.specs.declared.input.Input.{Input}
use Rattle.gsl_types.specs.declared.ty.Ty.{Ty}
use Rattle.gsl_words.specs.declared.module.Module.{Module}
use Rattle.gsl_values.specs.declared.value.Value.{Value}
use Rattle.gsl_valid.specs.Placed.{Code, Placed, placed_from}
use Rattle.gsl_valid.specs.Valid.{Valid}
use Rattle.gsl_machine.specs.Functions.{begins_as, entered, give_each, own_ids, parameters_of, variables_of}
use Rattle.gsl_machine.specs.Interfaces.{globals, value_variables}
use Rattle.gsl_machine.specs.State.{Held, Ids, State, Waiting}
use Rattle.gsl_sound_code.proofs.Looks.{Kept, kept}
use Rattle.gsl_sound_ids.proofs.Globals.{PointsBelow, pointed, stays_pointed}
use Rattle.gsl_spv.specs.Sections.{Sections}
use Rattle.gsl_lower_holders.specs.declared.place.FlowPlace.{FlowPlace}
use Rattle.gsl_lower_follows.specs.Frames.{Frame, Name, id_of}
use Rattle.gsl_lower_text.specs.Written.{Written}
use Rattle.gsl_lower_frames.specs.Calling.{AreKnown, ArePassed}
use Rattle.gsl_lower_frames.specs.Named.{number_at, number_in, seat_in}
use Rattle.gsl_lower_frames.specs.Standing.{StandsIn, place_in}
use Rattle.gsl_lower_frames.specs.Starting.{HasFrame}
use Rattle.gsl_lower_frames.proofs.Found.{code_short, label_found}
use Rattle.gsl_lower_frames.proofs.Numbers.{At, among_either, seat_back, value_points}
use Rattle.gsl_lower_frames.proofs.Owners.{given_points, given_stays, owned_below, passed_point, same_owner}
use Rattle.gsl_lower_frames.proofs.Texts.{text_begun, valid_once}

module _ (m : Module) (body : List Placed) (held : List Held) (count : ℕ) (place : FlowPlace) (passed : ArePassed m body held count) (known : AreKnown m body place) where
  abbrev own : Ids
  own = own_ids (globals m) body held count

  pub seats_apart : (a b : Name) (n : ℕ) → seat_in own place a ≡ Some n → seat_in own place b ≡ Some n → a ≡ b
  seats_apart a b n first second =
      let x = seat_back own (id_of place a) n first in
      let y = seat_back own (id_of place b) n second in
      known.apart a b x.0 x.1 (y.1 ∙ ap Some (same_owner m body held count passed y.0 x.0 n y.2 x.2))

  pub seat_below : (name : Name) (n : ℕ) → seat_in own place name ≡ Some n → n < count + length (variables_of body)
  seat_below name n is = let x = seat_back own (id_of place name) n is in owned_below m body held count passed x.0 n x.2

  known_points : Kept m → (name : Name) (id : ℕ) → id_of place name ≡ Some id → PointsBelow (count + length (variables_of body)) (own id)
  known_points kept name id is = elim (known.each name id is) [
    | inl h ↦ elim (among_either h.position (value_variables m) (variables_of body) h.variable h.there) [
      | inl value ↦ stays_pointed given count (variables_of body) bound id (omega arith)
          (given_stays (globals m) (parameters_of body) held bound id (passed_point m body held count passed bound (omega arith))
          (value_points m kept id h.variable bound (let room = passed.room in omega (arith, room)) value h.same))
      | inr local ↦ pointed given count (variables_of body) bound id h.variable (omega arith) local h.same
    ]
    | inr p ↦ stays_pointed given count (variables_of body) bound id (omega arith)
        (given_points (globals m) (parameters_of body) held bound id p.0 (passed_point m body held count passed bound (omega arith)) passed.many p.1)
  ]
    where
      bound : ℕ
      bound = count + length (variables_of body)

      given : Ids
      given = give_each (globals m) (parameters_of body) held

  pub known_seated : Kept m → (name : Name) (id : ℕ) → id_of place name ≡ Some id → (n : ℕ) × (seat_in own place name ≡ Some n) × At (own id) n
  known_seated kept name id is =
      let p = known_points kept name id is in
      (p.number, ap (number_at own) is ∙ ap number_in p.is, p.is)

-- ---- the frame

module _ (m : Module) (whole : Sections) (input : Input) (id : ℕ) (before code behind : Code) (place : FlowPlace) (result : Ty) (stages : List (Option Value)) (held : List Held) (waiting : List Waiting) (state : State)
    (valid : Valid m) (written : Written m whole) (s : StandsIn m id code) (is : whole.functions ≡ before ++ (code ++ behind))
    (passed : ArePassed m (placed_from (place_in m id code s) code) held (length state.variables)) (known : AreKnown m (placed_from (place_in m id code s) code) place) where
  abbrev body : List Placed
  body = placed_from (place_in m id code s) code

  abbrev count : ℕ
  count = length state.variables

  abbrev begun : List Value
  begun = state.variables ++ map (begins_as m) (variables_of body)

  many : length begun ≡ count + length (variables_of body)
  many = length-append state.variables (map (begins_as m) (variables_of body)) ∙ ap (λ n. count + n) (length-map (variables_of body) (begins_as m))

  abbrev frame_of : Frame m input whole
  frame_of = record {
    before = before;
    code = code;
    behind = behind;
    stands = is;
    first = place_in m id code s;
    own = own_ids (globals m) body held count;
    text = text_begun m whole id code valid written s held count;
    labels = label_found m id code (place_in m id code s) (valid_once m valid) s;
    short = code_short m id code s;
    waiting = waiting;
    seat = seat_in (own_ids (globals m) body held count) place;
    apart = seats_apart m body held count place passed known;
    place = place;
    known = known_seated m body held count place passed known (kept m valid);
    result = result;
    stages = stages;
    begun = begun;
    among = λ name number is. subst (λ n. number < n) (sym many) (seat_below m body held count place passed known name number is);
  }

  pub called_framed : HasFrame m input whole before code place result stages (entered m (globals m) body held waiting state)
  called_framed = record {
    frame = frame_of;
    front = refl;
    same = refl;
    rest = refl;
    within = refl;
    own = refl;
    ids = refl;
    waiting = refl;
    begun = refl;
    gives = refl;
    given = refl;
    seats = refl;
    seated = record { same = refl };
  }
