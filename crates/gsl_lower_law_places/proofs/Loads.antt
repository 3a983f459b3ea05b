-- Loads, and the parts of values.
use Rattle.std.proofs.Common.{◌≡◌, refl, ap, ◌∙◌, ℕ, List, [], ◌∷◌, map, Some}
use Rattle.gsl_base.specs.declared.input.Input.{Input}
use Rattle.gsl_instr.specs.Forms.{form_of}
use Rattle.gsl_instr.specs.declared.op.TheConstants as op
use Rattle.gsl_words.specs.declared.module.Module.{Module}
use Rattle.gsl_values.specs.declared.value.Value.{Value}
use Rattle.gsl_tree.specs.Operations.{value_at}
use Rattle.gsl_tree.specs.Shapes.{Shape}
use Rattle.gsl_lower_law_constructors.specs.OfMachine.{loading}
use Rattle.gsl_lower_law_constructors.specs.OfMachine.{Pointer, Points, State, giving_value, on_pointer}
use Rattle.gsl_spv.specs.Sections.{Sections}
use Rattle.gsl_lower_values.specs.Building.{Step, giving, ◌>>=◌}
use Rattle.gsl_lower_values.specs.Constructors.{operand}
use Rattle.gsl_lower_values.specs.Operators.{converted}
use Rattle.gsl_lower_values.specs.Types.{type_of}
use Rattle.gsl_lower_places.specs.Reached.{stored_shape}
use Rattle.gsl_lower_places.specs.Reading.{extracted, extracted_shape, loaded, number_in, pointer}
use Rattle.gsl_lower_places.specs.declared.reached.Part.{Part}
use Rattle.gsl_lower_law_constructors.specs.OfLaw.{Computes, Grows}
use Rattle.gsl_lower_law_constructors.specs.OfLaw.{converted_value}
use Rattle.gsl_lower_law_constructors.specs.OfLaw.{IsOf, Stands}
use Rattle.gsl_lower_law_constructors.proofs.OfLaw.{Performs, giving_does, giving_grows}
use Rattle.gsl_lower_law_constructors.proofs.OfLaw.{does_then, given_does, grows_then}
use Rattle.gsl_lower_law_constructors.proofs.OfLaw.{takes}
use Rattle.gsl_lower_law_constructors.proofs.OfLaw.{IsType, type_does}
use Rattle.gsl_lower_law_constructors.proofs.OfLawOperators.{converted_computes}
use Rattle.gsl_lower_law_constructors.proofs.Shares.{converted_grows}
use Rattle.gsl_lower_law_places.specs.Leading.{HoldsValue, LeadsTo, NumberEach}
use Rattle.gsl_lower_law_places.proofs.Chains.{pointer_does, pointer_grows, still_number}

module _ (m : Module) (input : Input) where
  pub loads : (type from_id : ℕ) (to : Pointer) (v : Value) (state : State) → state.ids from_id ≡ Some (Points to) → HoldsValue m input state to v → Performs m input op.LOAD (from_id ∷ []) type state v state.choices
  unfolding form_of
  loads type from_id to v state stands holds = record {
    gives = λ id. refl;
    named = λ id. refl;
    done = λ id at rest.
        ap (λ o. on_pointer o (λ from. loading m input (record state { rest = rest }) from (giving_value (record state { rest = rest }) id))) stands
        ∙ holds (giving_value (record state { rest = rest }) id);
  }

  module _ (whole : Sections) where
    pub loaded_computes : (id class : ℕ) (shape : Shape) (parts : List Part) (words : List ℕ) (from to : Pointer) (v : Value) (state : State) (before : Sections) → state.ids id ≡ Some (Points from) → NumberEach state.ids parts words → LeadsTo m input state from words to
        → HoldsValue m input state to v → IsOf (stored_shape class shape) v → Computes m input whole (converted_value shape.0 v, state.choices) state before (loaded id class shape parts)
    unfolding loaded
    loaded_computes id class shape parts words from to v state before stands each leads holds is =
        does_then m input whole (IsType m input whole stored) (λ id ids. Stands ids id (converted_value shape.0 v)) state.choices state.choices state before (type_of stored) behind_type
        (type_does m input whole stored state before)
        (λ type between. grows_then m input whole between (pointer id class type parts between) (behind_pointer type) (pointer_grows m input whole id class type parts state between) (λ at later. load_grows type at later))
        (λ type between ids typed keeps.
        does_then m input whole (λ given ids. ids given ≡ Some (Points to)) (λ id ids. Stands ids id (converted_value shape.0 v)) state.choices state.choices (record state { ids = ids }) between (pointer id class type parts) (behind_pointer type)
        (pointer_does m input whole id class type parts words from to (record state { ids = ids }) between (keeps.same id _ stands) (still_number state.ids ids keeps parts words each) leads)
        (λ at later. load_grows type at later)
        (λ at later now points kept.
        does_then m input whole (λ id ids. Stands ids id v) (λ id ids. Stands ids id (converted_value shape.0 v)) state.choices state.choices (record state { ids = now }) later (giving op.LOAD (at ∷ []) type) behind_load
        (giving_does m input whole op.LOAD (at ∷ []) type (record state { ids = now }) v state.choices later (λ text. loads type at to v (record state { ids = now }) points holds))
        (λ id last. converted_grows m input whole shape.0 (operand stored id) state last)
        (λ id last end there held. converted_computes m input whole (operand stored id) v is shape.0 (record state { ids = end }) last there)))
      where
        stored : Shape
        stored = stored_shape class shape

        behind_load : ℕ → Step ℕ
        behind_load w = converted shape.0 (operand stored w)

        behind_pointer : ℕ → ℕ → Step ℕ
        behind_pointer type at = giving op.LOAD (at ∷ []) type >>= behind_load

        behind_type : ℕ → Step ℕ
        behind_type type = pointer id class type parts >>= behind_pointer type

        load_grows : (type at : ℕ) (later : Sections) → Grows later (behind_pointer type at later)
        load_grows type at later = grows_then m input whole later (giving op.LOAD (at ∷ []) type later) behind_load (giving_grows m input whole op.LOAD (at ∷ []) type later) (λ w last. converted_grows m input whole shape.0 (operand stored w) state last)

    pub extracted_grows : (id type : ℕ) (parts : List Part) (state : State) (before : Sections) → Grows before (extracted id type parts before)
    unfolding extracted
    extracted_grows id type [] state before = (given_does m input whole (λ given ids. Unit {0}) id state before tt).grows
    extracted_grows id type (part ∷ parts) state before = giving_grows m input whole op.COMPOSITE_EXTRACT (id ∷ map number_in (part ∷ parts)) type before

    pub extracted_does : (id type : ℕ) (parts : List Part) (v : Value) (state : State) (before : Sections) → Stands state.ids id v → Computes m input whole (value_at v (map number_in parts), state.choices) state before (extracted id type parts)
    unfolding extracted
    extracted_does id type [] v state before stands = given_does m input whole (λ given ids. Stands ids given v) id state before stands
    extracted_does id type (part ∷ parts) v state before stands =
        giving_does m input whole op.COMPOSITE_EXTRACT (id ∷ map number_in (part ∷ parts)) type state (value_at v (map number_in (part ∷ parts))) state.choices before (λ text. takes m input type id (map number_in (part ∷ parts)) v state stands)

    pub extracted_computes : (id : ℕ) (shape : Shape) (parts : List Part) (v : Value) (state : State) (before : Sections) → Stands state.ids id v → Computes m input whole (value_at v (map number_in parts), state.choices) state before (extracted_shape id shape parts)
    extracted_computes id shape parts v state before stands =
        does_then m input whole (IsType m input whole shape) (λ given ids. Stands ids given (value_at v (map number_in parts))) state.choices state.choices state before (type_of shape) (λ type. extracted id type parts)
        (type_does m input whole shape state before)
        (λ type between. extracted_grows id type parts state between)
        (λ type between ids typed keeps. extracted_does id type parts v (record state { ids = ids }) between (keeps.same id _ stands))
