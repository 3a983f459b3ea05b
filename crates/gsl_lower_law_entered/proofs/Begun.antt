-- The state of the module and that of the shader where the body of a function begins.
use Rattle.std.proofs.Common.{◌≡◌, refl, sym, ap, ◌∙◌, subst, ℕ, suc, ◌+◌, true, List, [], ◌∷◌, ◌++◌, length, map, Option, Some, None, arith}
use Rattle.std.specs.Prelude.{slice_get}
use Rattle.std.proofs.lemmas.Option.{slice_get_within}
use Rattle.gsl_base.specs.declared.input.Input.{Input}
use Rattle.gsl_types.specs.declared.ty.Ty.{Ty}
use Rattle.gsl_words.specs.declared.module.Module.{Module}
use Rattle.gsl_values.specs.declared.value.Value.{Value}
use Rattle.gsl_tree.specs.Around.{Around}
use Rattle.gsl_tree.specs.Values.{zero_value}
use Rattle.gsl_tree.specs.declared.program.Program.{Program}
use Rattle.gsl_meaning.specs.Shader.{entered as shader_entered}
use Rattle.gsl_meaning.specs.State as shader
use Rattle.gsl_valid.specs.Placed.{placed_from}
use Rattle.gsl_valid.specs.Valid.{Valid}
use Rattle.gsl_machine.specs.Constants.{constant}
use Rattle.gsl_machine.specs.Functions.{begins_as, variables_of}
use Rattle.gsl_machine.specs.State.{Ids, State, Waiting}
use Rattle.gsl_spv.specs.Sections.{Sections}
use Rattle.gsl_lower_law.proofs.Joining.{keeps_same}
use Rattle.gsl_lower_holders.specs.Flow.{Flow}
use Rattle.gsl_lower_holders.specs.declared.place.FlowPlace.{FlowPlace}
use Rattle.gsl_lower_text.specs.Written.{Written}
use Rattle.gsl_lower_follows.specs.Frames.{AreTyped, Frame, Global, Good, HasType, Holder, Inside, Interface, Local, Name, Param, Stage, coming, type_named, type_of_global, type_of_interface, value_if, value_of}
use Rattle.gsl_lower_follows.specs.Reached.{Reached}
use Rattle.gsl_lower_frames.specs.Named.{number_at, number_in, seat_in}
use Rattle.gsl_lower_frames.specs.Standing.{place_in}
use Rattle.gsl_lower_law_returns.specs.Calling.{AreAlike, is_shared}
use Rattle.gsl_lower_law_returns.proofs.Untouched.{get_in_front}
use Rattle.gsl_lower_law_entered.specs.Modules.{Declared, IsFrame, IsFunction, variable_of}
use Rattle.gsl_lower_law_entered.specs.Entering.{Argument, AreHeld, values_of}
use Rattle.gsl_lower_law_entered.proofs.Given.{map_there, mapped}
use Rattle.gsl_lower_law_entered.proofs.Framed.{frame_of, own, own_points, param_seat, seat_kept, seated, variables_are}
use Rattle.gsl_lower_law_entered.proofs.Opening.{IsThere}

got_behind : {A : Type 0} (l more : List A) (k : ℕ) (a : A) → slice_get more k ≡ Some a → slice_get (l ++ more) (length l + k) ≡ Some a
got_behind [] more k a is = let e : 0 + k ≡ k = omega arith in ap (slice_get more) e ∙ is
got_behind (x ∷ l) more k a is = let e : suc (length l) + k ≡ suc (length l + k) = omega arith in ap (slice_get (x ∷ (l ++ more))) e ∙ got_behind l more k a is

kept_in_front : {A : Type 0} (l more : List A) (k : ℕ) (a : A) → slice_get l k ≡ Some a → slice_get (l ++ more) k ≡ Some a
kept_in_front l more k a is = get_in_front l more k (slice_get_within l k a is) ∙ is

module _ (m : Module) (input : Input) (whole : Sections) (f : Frame m input whole) (p : Program) (around inner : Around) (place : FlowPlace) (stages : List (Option Value)) (result : Ty) (function : ℕ) (begin b : Flow) (fn : IsFunction m whole p.structs place inner.locals function begin)
    (valid : Valid m) (written : Written m whole) (of_module : IsFrame m input whole place stages f) (first : ℕ) (s : shader.State) (state : State) (args : List Argument) (good : Good m input whole f p around b s state) (held : AreHeld m input whole f first state args)
    (enough : length args ≡ length begin.place.params) (alike : AreAlike around inner) (typed_args : (number : ℕ) → HasType m input whole f p inner (type_named inner (Param number)) (slice_get (values_of args) number)) where
  abbrev pub frame : List Waiting → Frame m input whole
  frame waiting = frame_of m input whole f p.structs place inner.locals stages result function begin fn valid written of_module first state args good.holds.count held enough waiting

  abbrev pub lasting : Ids
  lasting = own m input whole f p.structs place inner.locals stages result function begin fn valid written of_module first state args good.holds.count held enough

  abbrev more : List Value
  more = map (begins_as m) (variables_of (placed_from (place_in m function fn.code fn.stands) fn.code))

  abbrev now : shader.State
  now = shader_entered p.structs inner.locals (values_of args) s

  abbrev seat : Name → Option ℕ
  seat = seat_in lasting begin.place

  -- a variable of the function
  variable_there : (position : ℕ) (v : Declared) → slice_get fn.opens.variables position ≡ Some v → slice_get (state.variables ++ more) (length state.variables + position) ≡ Some (constant m v.zero)
  variable_there position v is =
      got_behind state.variables more position (constant m v.zero)
      (map_there (begins_as m) (variables_of (placed_from (place_in m function fn.code fn.stands) fn.code)) position (variable_of v)
      (ap (λ l. slice_get l position) (variables_are m input whole f p.structs place inner.locals stages result function begin fn valid written of_module first state args good.holds.count held enough) ∙ map_there variable_of fn.opens.variables position v is))

  shared_is : (name : Name) (w : Value) → is_shared name ≡ true → value_of f.stages s name ≡ Some w → (number : ℕ) × (seat name ≡ Some number) × (slice_get (state.variables ++ more) number ≡ Some w)
  shared_is name w is has =
      let h = good.holds.values name w has in
      (h.0, seat_kept m input whole f p.structs place inner.locals stages result function begin fn valid written of_module first state args good.holds.count held enough b good.seated name is ∙ h.1, kept_in_front state.variables more h.0 w h.2)

  values_begun : (name : Name) (w : Value) → value_of stages now name ≡ Some w → (number : ℕ) × (seat name ≡ Some number) × (slice_get (state.variables ++ more) number ≡ Some w)
  values_begun (Global k) w is = shared_is (Global k) w refl is
  values_begun (Interface k) w is = shared_is (Interface k) w refl is
  values_begun (Stage k) w is = shared_is (Stage k) w refl (ap (λ l. value_if (slice_get l k)) of_module.stages ∙ is)
  values_begun (Param k) w is =
      let a = mapped (λ (a : Argument). a.value) args k w is in
      let h = held.each k a.0 a.1 in
      (a.0.seat, param_seat m input whole f p.structs place inner.locals stages result function begin fn valid written of_module first state args good.holds.count held enough k a.0 a.1, kept_in_front state.variables more a.0.seat w (h.value ∙ ap Some a.2))
  values_begun (Local k) w is =
      let t = mapped (zero_value p.structs) inner.locals k w is in
      let z = fn.opens.zeros k t.0 t.1 in (
        length state.variables + z.0,
        ap (number_at lasting) z.3 ∙ ap number_in (own_points m input whole f p.structs place inner.locals stages result function begin fn valid written of_module first state args good.holds.count held enough z.0 z.1 z.2),
        variable_there z.0 z.1 z.2 ∙ ap Some (z.4 ∙ t.2),
      )
  values_begun (Holder k) w is = absurd cc

  typed_begun : (waiting : List Waiting) → AreTyped m input whole (frame waiting) p inner now
  typed_begun waiting = record { each = each; choices = good.typed.choices; blocks = good.typed.blocks; stages = λ number t v is has. good.typed.stages number t v is (ap (λ l. value_if (slice_get l number)) of_module.stages ∙ has) }
    where
      local : (k : ℕ) (o : Option Ty) → slice_get inner.locals k ≡ o → HasType m input whole (frame waiting) p inner o (slice_get now.locals k)
      local k None is = tt
      local k (Some t) is = subst (HasType m input whole (frame waiting) p inner (Some t)) (sym (map_there (zero_value p.structs) inner.locals k t is)) (fn.typed k t is)

      each : (name : Name) → HasType m input whole (frame waiting) p inner (type_named inner name) (value_of stages now name)
      each (Global k) = subst (λ l. HasType m input whole f p around (type_of_global (slice_get l k)) (slice_get s.globals k)) (sym alike.globals) (good.typed.each (Global k))
      each (Interface k) = subst (λ l. HasType m input whole f p around (type_of_interface (slice_get l k)) (slice_get s.interfaces k)) (sym alike.interfaces) (good.typed.each (Interface k))
      each (Stage k) = tt
      each (Param k) = typed_args k
      each (Local k) = local k (slice_get inner.locals k) refl
      each (Holder k) = tt

  -- the builder holds the function's code up to its body
  abbrev pub begins_inside : (waiting : List Waiting) → Inside m input whole (frame waiting) begin.sections
  begins_inside waiting = record { extends = fn.extends; done = fn.opening; more = fn.rest; is = fn.here; all = fn.is }

  abbrev pub begun_state : List Waiting → State
  begun_state waiting = record state { rest = coming m input whole (frame waiting) begin.sections; body = placed_from (place_in m function fn.code fn.stands) fn.code; ids = lasting; own = lasting; variables = state.variables ++ more; waiting = waiting }

  pub begins_good : (waiting : List Waiting) → Reached m input (begun_state waiting) → Good m input whole (frame waiting) p inner begin now (begun_state waiting)
  begins_good waiting reached = record {
    inside = begins_inside waiting;
    rest = refl;
    within = refl;
    own = refl;
    waiting = refl;
    ready = record { lasting = keeps_same lasting; later = λ id less. refl };
    seated = seated m input whole f p.structs place inner.locals stages result function begin fn valid written of_module first state args good.holds.count held enough waiting;
    holds = record {
      values = values_begun;
      blocks = λ number id block is at. good.holds.blocks number id block is (ap (λ l. slice_get l number) (of_module.knows.blocks ∙ sym fn.shared.blocks) ∙ at);
      buffers = good.holds.buffers;
      choices = good.holds.choices;
      count = refl;
      outside = λ number none. refl;
    };
    typed = typed_begun waiting;
    reached = reached;
  }

  -- each variable has what its instruction stores
  pub each_there : (waiting : List Waiting) (position : ℕ) (v : Declared) → slice_get fn.opens.variables position ≡ Some v → IsThere m input (begun_state waiting) v
  each_there waiting position v is = record {
    number = length state.variables + position;
    points = own_points m input whole f p.structs place inner.locals stages result function begin fn valid written of_module first state args good.holds.count held enough position v is;
    value = variable_there position v is;
  }
