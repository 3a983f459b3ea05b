-- Functions, from a call to behind it.
use Rattle.std.proofs.Common.{◌≡◌, refl, sym, ap, ◌∙◌, subst, ℕ, zero, suc, ◌+◌, inl, inr, ◌⊎◌, true, false, List, [], ◌∷◌, ◌++◌, length, Option, Some, None, append_assoc, arith}
use Rattle.std.specs.List.{Contains}
use Rattle.std.specs.Prelude.{slice_get}
use Rattle.std.proofs.lemmas.List.Elements.{Contains-append_left, Contains-append_right}
use Rattle.gsl_base.specs.declared.input.Input.{Input}
use Rattle.gsl_instr.specs.Forms.{form_of}
use Rattle.gsl_instr.specs.declared.op.TheConstants as op
use Rattle.gsl_types.specs.Known.{AreStructs, IsSound}
use Rattle.gsl_types.specs.declared.ty.Ty.{Ty}
use Rattle.gsl_types.specs.declared.ty.Ty.TheVariants.{Void}
use Rattle.gsl_words.specs.declared.module.Module.{Module}
use Rattle.gsl_values.specs.declared.value.Value.{Value}
use Rattle.gsl_tree.specs.Around.{Around}
use Rattle.gsl_tree.specs.Values.{is_value_of}
use Rattle.gsl_tree.specs.declared.program.Program.{Program}
use Rattle.gsl_meaning.specs.Accesses.{nothing}
use Rattle.gsl_meaning.specs.Running.{Run, spending}
use Rattle.gsl_meaning.specs.Shader.{entered, left, result_of}
use Rattle.gsl_meaning.specs.State as shader
use Rattle.gsl_meaning.specs.Statements as statement
use Rattle.gsl_valid.specs.Valid.{Valid}
use Rattle.gsl_machine.specs.State.{State}
use Rattle.gsl_spv.specs.Calls.{put}
use Rattle.gsl_spv.specs.Declarations.{instr}
use Rattle.gsl_spv.specs.Sections.{Sections}
use Rattle.gsl_spv.proofs.Contained.{first_in}
use Rattle.gsl_lower_law.specs.Values.{Stands}
use Rattle.gsl_lower_holders.specs.Flow.{Emit, Flow, Gives, Lowered, giving_here}
use Rattle.gsl_lower_holders.specs.declared.place.FlowPlace.{FlowPlace}
use Rattle.gsl_lower_text.specs.Written.{Written}
use Rattle.gsl_lower_follows.specs.Following.{Follows}
use Rattle.gsl_lower_follows.specs.Frames.{AreTyped, Frame, Good, HasType, Inside, Param, coming, type_of_param}
use Rattle.gsl_lower_follows.specs.Giving.{Does, IsGiven, none_waits}
use Rattle.gsl_lower_follows.proofs.Behind.{follows_behind, follows_then}
use Rattle.gsl_lower_follows.proofs.Stretches.{lasts_at_once}
use Rattle.gsl_lower_law_entered.specs.OfLawReturns.{AreAlike, IsBack}
use Rattle.gsl_lower_law_entered.proofs.OfLawReturns.{given_by, put_here, returned_back}
use Rattle.gsl_lower_law_entered.specs.Modules.{AreShared, IsFrame, IsFunction}
use Rattle.gsl_lower_law_entered.specs.Entering.{Argument, AreHeld, HasEntered, ids_of, values_of}
use Rattle.gsl_lower_law_entered.proofs.Called.{call_enters}
use Rattle.gsl_lower_law_functions.specs.Bodies.{AtResult, DoesBody}
use Rattle.gsl_lower_law_entered.specs.OfLawStmt.{AtReturn, IsResult}
use Rattle.gsl_lower_law_functions.proofs.Valued.{void_or_parts}
use Rattle.gsl_lower_law_functions.specs.Functions.{FunctionDoes, HasReturned, IsLowered, running_body}

module _ (m : Module) (input : Input) (whole : Sections) (p : Program) (inner : Around) (place : FlowPlace) (stages : List (Option Value)) (function : ℕ) (begin : Flow) (result : Ty) (body : Emit (Unit {0})) (run : Run statement.Flow)
    (valid : Valid m) (written : Written m whole) (fn : IsFunction m whole p.structs place inner.locals function begin) (lowered : IsLowered whole begin fn.rest body) (many : length inner.params ≡ length begin.place.params) (real : (result ≡ Void) ⊎ (is_value_of p.structs result nothing ≡ false))
    (bodies : (g : Frame m input whole) → IsFrame m input whole place stages g → g.before ≡ fn.before → g.code ≡ fn.code → g.result ≡ result → DoesBody m input whole g p inner begin body run) where
  -- the whole body stands in each frame of the function
  body_inside : (g : Frame m input whole) → g.before ≡ fn.before → g.code ≡ fn.code → Inside m input whole g lowered.later.sections
  body_inside g front same = record {
    extends = lowered.extends;
    done = fn.opening ++ lowered.put;
    more = lowered.behind;
    is = lowered.puts ∙ ap (λ l. l ++ lowered.put) fn.here ∙ append_assoc fn.before fn.opening lowered.put ∙ ap (λ l. l ++ (fn.opening ++ lowered.put)) (sym front);
    all = same ∙ fn.is ∙ ap (λ l. fn.opening ++ l) lowered.all ∙ sym (append_assoc fn.opening lowered.put lowered.behind);
  }

  body_follows : (g : Frame m input whole) → IsFrame m input whole place stages g → g.before ≡ fn.before → g.code ≡ fn.code → g.result ≡ result → (s : shader.State) (units : ℕ) (state : State) → Good m input whole g p inner begin s state
      → Follows m input p 0 units state (λ flow t last. AtResult m input whole g p inner flow t last) (λ t last. ⊥) (run s units)
  body_follows g of_module front same gives s units state good =
      subst (λ (low : Lowered (Unit {0})). Does m input whole g p 0 units state (λ (done : Unit {0}) later flow t last. AtResult m input whole g p inner flow t last) none_waits (run s units) low) lowered.is
      ((bodies g of_module front same gives).does s units state good) (body_inside g front same)

  module _ (f : Frame m input whole) (around : Around) (b later : Flow) (args : List Argument) (type id first : ℕ) (s : shader.State) (state : State) (of_module : IsFrame m input whole place stages f) (alike : AreAlike around inner) (good : Good m input whole f p around b s state)
      (puts : giving_here op.FUNCTION_CALL (function ∷ ids_of args) type b ≡ Gives id later) (inside : Inside m input whole f later.sections) (held : AreHeld m input whole f first state args) (enough : length args ≡ length inner.params)
      (typed : (number : ℕ) → HasType m input whole f p around (type_of_param (slice_get inner.params number)) (slice_get (values_of args) number)) where
    made : (id ≡ b.sections.last + 1) × (later ≡ given_by op.FUNCTION_CALL (function ∷ ids_of args) type b)
    made = put_here op.FUNCTION_CALL (function ∷ ids_of args) type b id later puts

    -- the id of the call lasts for no function
    passes : f.own id ≡ None
    unfolding form_of
    passes =
        ap f.own made.0
        ∙ of_module.calls (instr op.FUNCTION_CALL (type ∷ (b.sections.last + 1) ∷ function ∷ ids_of args)) type function (b.sections.last + 1) (ids_of args) (contained (subst (λ (l : Flow). Inside m input whole f l.sections) made.1 inside)) refl refl
      where
        contained : Inside m input whole f (given_by op.FUNCTION_CALL (function ∷ ids_of args) type b).sections → Contains whole.functions (instr op.FUNCTION_CALL (type ∷ (b.sections.last + 1) ∷ function ∷ ids_of args))
        contained there =
            let i = instr op.FUNCTION_CALL (type ∷ (b.sections.last + 1) ∷ function ∷ ids_of args) in
            subst (λ l. Contains l i) (sym there.extends.functions.is) (Contains-append_left (b.sections.functions ++ i ∷ []) there.extends.functions.more i (Contains-append_right b.sections.functions (i ∷ []) i (first_in i [])))

    entered_is : HasEntered m input whole f p (IsFrame m input whole place stages) inner result first id args fn.before fn.code begin s state (coming m input whole f later.sections)
    entered_is = call_enters m input whole f p around inner place stages result function begin b later args type id first s state valid written fn of_module alike good puts inside held (enough ∙ many) typed

    abbrev g : Frame m input whole
    g = entered_is.frame

    given : (last : State) (v : Value) → IsResult p.structs result v → (v ≡ nothing) ⊎ Stands last.ids id v → IsGiven m input whole f p around last.ids id result v
    given last v (inl void) stands = inl void
    given last v (inr is) (inr stands) = inr (is, stands)
    given last v (inr is) (inl none) = by real
      where
        by : (result ≡ Void) ⊎ (is_value_of p.structs result nothing ≡ false) → IsGiven m input whole f p around last.ids id result v
        by (inl void) = inl void
        by (inr no_value) = absurd (let z : true ≡ false = sym is ∙ ap (is_value_of p.structs result) none ∙ no_value in cc)

    back : (v : Value) (t : shader.State) (last : State) → AreTyped m input whole g p inner t → IsResult p.structs result v → IsBack m input whole f g p around first id state later s v t last
        → HasReturned m input whole p f around inner.params result first id args state later (record { value = v; params = t.params }) (record t { params = s.params; locals = s.locals }) last
    back v t last has is x = record {
      good = x.good;
      ids = x.ids;
      given = given last v is x.given;
      held = x.held;
      others = λ holder number seat none. x.others holder number seat (λ k e. let q = entered_is.passed k number e in none k q.0 q.1 q.2);
      typed = λ number. has.each (Param number);
      params = λ number a w there has.
          let q = x.params number w has in
          let both : Some q.0 ≡ Some a.seat = sym q.1 ∙ entered_is.params number a there in
          let same : q.0 ≡ a.seat = cc in
          ap (slice_get last.variables) (sym same) ∙ q.2;
    }

    returns : (flow : statement.Flow) (t : shader.State) (rest : ℕ) (mid : State) → AtResult m input whole g p inner flow t mid
        → Follows m input p 0 rest mid (HasReturned m input whole p f around inner.params result first id args state later) (λ t last. ⊥) (left s (result_of p.structs result flow) t rest)
    returns flow t rest mid at =
        let here : AtReturn m input whole g p inner (result_of p.structs result flow) t mid = subst (λ u. AtReturn m input whole g p inner (result_of p.structs u flow) t mid) entered_is.gives at in
        let typed = subst (λ u. IsResult p.structs u (result_of p.structs result flow)) entered_is.gives here.typed in
        let q = returned_back m input whole f g p around inner b later (function ∷ ids_of args) type id first s t state mid (result_of p.structs result flow) rest alike good puts inside passes entered_is.called here in
        record { later = q.later; is = back (result_of p.structs result flow) t q.later here.state_is.typed typed q.is; less = q.less; stretch = q.stretch }

    follows : (units : ℕ) → Follows m input p 0 units state (HasReturned m input whole p f around inner.params result first id args state later) (λ t last. ⊥) (spending (running_body p.structs inner.locals result run (values_of args)) s units)
    follows zero = lasts_at_once m input state
    follows (suc units) =
        follows_behind m input p 0 0 (suc units) units state entered_is.begun (HasReturned m input whole p f around inner.params result first id args state later) (λ t last. ⊥) (running_body p.structs inner.locals result run (values_of args) s units) (entered_is.stretch units) (omega arith)
        (follows_then m input p 0 units entered_is.begun (λ flow t last. AtResult m input whole g p inner flow t last) (λ t last. ⊥) (HasReturned m input whole p f around inner.params result first id args state later) (λ t last. ⊥)
        (run (entered p.structs inner.locals (values_of args) s) units) (λ flow. left s (result_of p.structs result flow))
        (body_follows g entered_is.one entered_is.front entered_is.same entered_is.gives (entered p.structs inner.locals (values_of args) s) units entered_is.begun entered_is.good)
        (λ flow t rest mid at less. returns flow t rest mid at)
        (λ t rest mid none less. absurd none))

pub function_does : (m : Module) (input : Input) (whole : Sections) (p : Program) (inner : Around) (place : FlowPlace) (stages : List (Option Value)) (function : ℕ) (begin : Flow) (result : Ty) (body : Emit (Unit {0})) (run : Run statement.Flow) → Valid m → Written m whole
    → (fn : IsFunction m whole p.structs place inner.locals function begin) → IsLowered whole begin fn.rest body → length inner.params ≡ length begin.place.params → AreStructs p.structs → IsSound (length p.structs) result
    → ((g : Frame m input whole) → IsFrame m input whole place stages g → g.before ≡ fn.before → g.code ≡ fn.code → g.result ≡ result → DoesBody m input whole g p inner begin body run)
    → FunctionDoes m input whole p place stages inner function inner.params result (λ args. spending (running_body p.structs inner.locals result run args))
function_does m input whole p inner place stages function begin result body run valid written fn lowered many are sound bodies = record {
  does = λ f around b later args type id first units s state of_module alike good puts inside held enough typed.
      follows m input whole p inner place stages function begin result body run valid written fn lowered many (void_or_parts p.structs result are sound) bodies f around b later args type id first s state of_module alike good puts inside held enough typed units;
}
