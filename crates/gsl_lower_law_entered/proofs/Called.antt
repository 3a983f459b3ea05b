-- A call of a function, up to where its body begins.
use Rattle.std.proofs.Common.{◌≡◌, refl, sym, ap, ◌∙◌, subst, ℕ, suc, ◌+◌, List, [], ◌∷◌, ◌++◌, length, map, Option, Some, append_assoc, arith}
use Rattle.std.specs.Prelude.{slice_get}
use Rattle.std.proofs.lemmas.List.{length-append}
use Rattle.gsl_base.specs.declared.input.Input.{Input}
use Rattle.gsl_instr.specs.Forms.{form_of}
use Rattle.gsl_instr.specs.declared.op.TheConstants as op
use Rattle.gsl_types.specs.declared.ty.Ty.{Ty}
use Rattle.gsl_words.specs.declared.module.Module.{Module}
use Rattle.gsl_values.specs.declared.value.Value.{Value}
use Rattle.gsl_tree.specs.Around.{Around}
use Rattle.gsl_tree.specs.declared.program.Program.{Program}
use Rattle.gsl_meaning.specs.State as shader
use Rattle.gsl_valid.specs.Placed.{Code, Placed, placed_from, words_from}
use Rattle.gsl_valid.specs.Valid.{Valid}
use Rattle.gsl_machine.specs.Functions.{entered, from_first_label, function_at}
use Rattle.gsl_machine.specs.Interfaces.{globals}
use Rattle.gsl_machine.specs.Machine.{behind as going_on, run, step}
use Rattle.gsl_machine.specs.State.{Going, Held, Outcome, State, Waiting, on}
use Rattle.gsl_machine.specs.Steps.{calling, on_each}
use Rattle.gsl_spv.specs.Declarations.{instr}
use Rattle.gsl_spv.specs.Sections.{Sections}
use Rattle.gsl_lower_holders.specs.Flow.{Flow, Gives, giving_here}
use Rattle.gsl_lower_holders.specs.declared.place.FlowPlace.{FlowPlace}
use Rattle.gsl_lower_text.specs.Written.{Written}
use Rattle.gsl_lower_follows.specs.Frames.{Frame, Good, HasType, Inside, Param, coming, type_named}
use Rattle.gsl_lower_follows.specs.Stretching.{Stretch, room_behind}
use Rattle.gsl_lower_follows.proofs.Placing.{coming_before, coming_is, placed_join, placed_length}
use Rattle.gsl_lower_follows.proofs.Reached.{reached_then}
use Rattle.gsl_lower_frames.proofs.Found.{code_found, code_short}
use Rattle.gsl_lower_frames.proofs.Texts.{valid_once}
use Rattle.gsl_lower_law_returns.specs.Calling.{AreAlike, call_of}
use Rattle.gsl_lower_law_returns.proofs.Returned.{given_by, put_here}
use Rattle.gsl_lower_law_entered.specs.Modules.{IsFrame, IsFunction, declares}
use Rattle.gsl_lower_law_entered.specs.Entering.{Argument, AreHeld, HasEntered, ids_of, values_of}
use Rattle.gsl_lower_law_entered.proofs.Begun.{begins_good, begins_inside, begun_state, each_there, frame}
use Rattle.gsl_lower_law_entered.proofs.Framed.{frame_is, held_of, helds, param_argument, param_seat, was_called}
use Rattle.gsl_lower_law_entered.proofs.Opening.{first_label, opening_leads, words_on}

-- what ids of arguments stand for
each_held : (state : State) (args : List Argument) (go : List Held → Outcome) → ((number : ℕ) (a : Argument) → slice_get args number ≡ Some a → state.ids a.id ≡ Some (held_of a)) → on_each state (ids_of args) go ≡ go (helds args)
each_held state [] go each = refl
each_held state (a ∷ args) go each =
    ap (λ o. on o (λ held. on_each state (ids_of args) (λ more. go (held ∷ more)))) (each 0 a refl) ∙ each_held state args (λ more. go (held_of a ∷ more)) (λ number. each (suc number))

module _ (m : Module) (input : Input) (whole : Sections) (f : Frame m input whole) (p : Program) (around inner : Around) (place : FlowPlace) (stages : List (Option Value)) (result : Ty) (function : ℕ) (begin b : Flow) (args : List Argument) (type first : ℕ) (s : shader.State) (state : State)
    (valid : Valid m) (written : Written m whole) (fn : IsFunction m whole p.structs place inner.locals function begin) (of_module : IsFrame m input whole place stages f) (alike : AreAlike around inner) (good : Good m input whole f p around b s state)
    (inside : Inside m input whole f (given_by op.FUNCTION_CALL (function ∷ ids_of args) type b).sections) (held : AreHeld m input whole f first state args) (enough : length args ≡ length begin.place.params)
    (typed_args : (number : ℕ) → HasType m input whole f p inner (type_named inner (Param number)) (slice_get (values_of args) number)) where
  abbrev id : ℕ
  id = b.sections.last + 1

  abbrev later : Flow
  later = given_by op.FUNCTION_CALL (function ∷ ids_of args) type b

  abbrev rest : List Placed
  rest = coming m input whole f later.sections

  abbrev waiting : List Waiting
  waiting = call_of id state rest ∷ f.waiting

  abbrev g : Frame m input whole
  g = frame m input whole f p around inner place stages result function begin b fn valid written of_module first s state args good held enough alike typed_args waiting

  abbrev begun : State
  begun = begun_state m input whole f p around inner place stages result function begin b fn valid written of_module first s state args good held enough alike typed_args waiting

  abbrev body : List Placed
  body = placed_from g.first fn.code

  -- ---- the call

  at_call : (at : ℕ) × (coming m input whole f b.sections ≡ placed_from at (instr op.FUNCTION_CALL (type ∷ id ∷ function ∷ ids_of args) ∷ []) ++ rest)
  at_call = coming_before m input whole f b.sections later.sections (instr op.FUNCTION_CALL (type ∷ id ∷ function ∷ ids_of args) ∷ []) good.inside inside refl

  rest_is : state.rest ≡ record { at = at_call.0; instr = instr op.FUNCTION_CALL (type ∷ id ∷ function ∷ ids_of args) } ∷ rest
  rest_is = good.rest ∙ at_call.1

  called : step m input state ≡ Going (record begun { rest = from_first_label body })
  unfolding form_of
  called =
      ap (λ l. step m input (record state { rest = l })) rest_is
      ∙ each_held (record state { rest = rest }) args (λ held. on (function_at m function) (calling m (record state { rest = rest }) id held)) (λ number a is. good.ready.lasting.same a.id _ (held.each number a is).points)
      ∙ ap (λ o. on o (calling m (record state { rest = rest }) id (helds args))) (code_found m function fn.code (valid_once m valid) fn.stands)
      ∙ ap (λ w. Going (entered m (globals m) body (helds args) (call_of id state rest ∷ w) (record state { rest = rest }))) good.waiting

  -- ---- the opening

  abbrev opened : Code
  opened = instr op.LABEL (fn.opens.label ∷ []) ∷ map declares fn.opens.variables

  code_is : fn.code ≡ fn.opens.params ++ (opened ++ fn.rest)
  code_is = fn.is ∙ ap (λ l. l ++ fn.rest) fn.opens.is ∙ append_assoc fn.opens.params opened fn.rest

  abbrev at_label : ℕ
  at_label = words_from g.first fn.opens.params

  coming_here : coming m input whole g begin.sections ≡ placed_from (words_from at_label opened) fn.rest
  coming_here =
      coming_is m input whole g begin.sections (begins_inside m input whole f p around inner place stages result function begin b fn valid written of_module first s state args good held enough alike typed_args waiting)
      ∙ ap (λ n. placed_from n fn.rest) (ap (words_from g.first) fn.opens.is ∙ words_on g.first fn.opens.params opened)

  from_label_on : from_first_label body ≡ placed_from at_label opened ++ coming m input whole g begin.sections
  from_label_on =
      ap (λ c. from_first_label (placed_from g.first c)) code_is
      ∙ first_label g.first fn.opens.params (map declares fn.opens.variables ++ fn.rest) fn.opens.label fn.opens.ahead
      ∙ placed_join at_label opened fn.rest
      ∙ ap (λ l. placed_from at_label opened ++ l) (sym coming_here)

  runs : run m input (suc (length opened)) state ≡ Going begun
  runs =
      ap (λ o. going_on o (run m input (length opened))) called
      ∙ ap (λ l. run m input (length opened) (record begun { rest = l })) from_label_on
      ∙ opening_leads m input begun fn.opens.label fn.opens.variables refl
      (each_there m input whole f p around inner place stages result function begin b fn valid written of_module first s state args good held enough alike typed_args waiting) at_label (coming m input whole g begin.sections)

  entering : (units : ℕ) → Stretch m input 0 0 (suc units) state units (Going begun)
  entering units =
      let here : length state.rest ≡ suc (length rest) = ap length rest_is in
      let behind : room_behind state.waiting ≡ room_behind f.waiting = ap room_behind good.waiting in
      let short = code_short m function fn.code fn.stands in
      let all : length fn.code ≡ length fn.opens.params + (length opened + length fn.rest) = ap length code_is ∙ length-append fn.opens.params (opened ++ fn.rest) ∙ ap (λ n. length fn.opens.params + n) (length-append opened fn.rest) in
      let next : length (coming m input whole g begin.sections) ≡ length fn.rest = ap length coming_here ∙ placed_length (words_from at_label opened) fn.rest in
      record { count = suc (length opened); slow = omega arith; fast = omega (arith, here, behind, short, all, next); runs = runs }

  pub has_entered : HasEntered m input whole f p (IsFrame m input whole place stages) inner result first id args fn.before fn.code begin s state rest
  has_entered = record {
    frame = g;
    front = refl;
    same = refl;
    gives = refl;
    one = frame_is m input whole f p.structs place inner.locals stages result function begin fn valid written of_module first state args good.holds.count held enough waiting;
    called = was_called m input whole f p.structs place inner.locals stages result function begin fn valid written of_module first state args good.holds.count held enough b good.seated id rest;
    params = param_seat m input whole f p.structs place inner.locals stages result function begin fn valid written of_module first state args good.holds.count held enough;
    passed = param_argument m input whole f p.structs place inner.locals stages result function begin fn valid written of_module first state args good.holds.count held enough;
    begun = begun;
    good = begins_good m input whole f p around inner place stages result function begin b fn valid written of_module first s state args good held enough alike typed_args waiting (reached_then m input (suc (length opened)) state begun good.reached runs);
    stretch = entering;
  }

pub call_enters : (m : Module) (input : Input) (whole : Sections) (f : Frame m input whole) (p : Program) (around inner : Around) (place : FlowPlace) (stages : List (Option Value)) (result : Ty) (function : ℕ) (begin b later : Flow) (args : List Argument) (type id first : ℕ) (s : shader.State) (state : State) → Valid m → Written m whole
    → (fn : IsFunction m whole p.structs place inner.locals function begin) → IsFrame m input whole place stages f → AreAlike around inner → Good m input whole f p around b s state → giving_here op.FUNCTION_CALL (function ∷ ids_of args) type b ≡ Gives id later → Inside m input whole f later.sections
    → AreHeld m input whole f first state args → length args ≡ length begin.place.params → ((number : ℕ) → HasType m input whole f p inner (type_named inner (Param number)) (slice_get (values_of args) number))
    → HasEntered m input whole f p (IsFrame m input whole place stages) inner result first id args fn.before fn.code begin s state (coming m input whole f later.sections)
call_enters m input whole f p around inner place stages result function begin b later args type id first s state valid written fn of_module alike good puts inside held enough typed =
    subst (λ (n : ℕ). HasEntered m input whole f p (IsFrame m input whole place stages) inner result first n args fn.before fn.code begin s state (coming m input whole f later.sections)) (sym made.0) (go later made.1 inside)
  where
    made : (id ≡ b.sections.last + 1) × (later ≡ given_by op.FUNCTION_CALL (function ∷ ids_of args) type b)
    made = put_here op.FUNCTION_CALL (function ∷ ids_of args) type b id later puts

    go : (later : Flow) → later ≡ given_by op.FUNCTION_CALL (function ∷ ids_of args) type b → Inside m input whole f later.sections
        → HasEntered m input whole f p (IsFrame m input whole place stages) inner result first (b.sections.last + 1) args fn.before fn.code begin s state (coming m input whole f later.sections)
    go later q = subst (λ (l : Flow). Inside m input whole f l.sections → HasEntered m input whole f p (IsFrame m input whole place stages) inner result first (b.sections.last + 1) args fn.before fn.code begin s state (coming m input whole f l.sections)) (sym q)
        (λ there. has_entered m input whole f p around inner place stages result function begin b args type first s state valid written fn of_module alike good there held enough typed)
