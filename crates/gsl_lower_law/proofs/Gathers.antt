-- Values from parts, and a scalar as a vector.
use Rattle.std.proofs.Common.{◌≡◌, refl, sym, ap, ◌∙◌, subst, ℕ, zero, suc, ◌≤◌, Bool, true, false, List, [], ◌∷◌, ◌⊎◌, inl, inr, length, Some, arith, if◌then◌else◌}
use Rattle.std.proofs.lemmas.Bool.{eqb-true, eq-eqb, true≢false}
use Rattle.std.specs.Prelude.{◌==◌, replicate}
use Rattle.gsl_base.specs.declared.input.Input.{Input}
use Rattle.gsl_instr.specs.Forms.{form_of}
use Rattle.gsl_instr.specs.declared.op.TheConstants as op
use Rattle.gsl_words.specs.declared.module.Module.{Module}
use Rattle.gsl_values.specs.declared.value.Value.{Value}
use Rattle.gsl_tree.specs.Operations.{all_components, spread as spread_words}
use Rattle.gsl_tree.specs.Shapes.{Shape}
use Rattle.gsl_tree.specs.Values.{components_in, of_components}
use Rattle.gsl_valid.specs.Kinds.{shape_of}
use Rattle.gsl_valid.specs.OperandRules.{is_vector}
use Rattle.gsl_valid.specs.Types.{defined_as}
use Rattle.gsl_machine.specs.Operations.{constructed}
use Rattle.gsl_machine.specs.State.{Ids, Outcome, State, Whole, giving_value, on_whole}
use Rattle.gsl_machine.specs.Steps.{on_all}
use Rattle.gsl_spv.specs.Sections.{Sections}
use Rattle.gsl_lower_values.specs.Building.{given, giving, ◌>>=◌}
use Rattle.gsl_lower_values.specs.Operators.{spread}
use Rattle.gsl_lower_values.specs.Types.{type_of}
use Rattle.gsl_lower_values.specs.declared.operand.Operand.{Operand}
use Rattle.gsl_lower_law.specs.Values.{IsOf, Keeps, Stands, StandEach, Text}
use Rattle.gsl_lower_law.specs.Computing.{Computes}
use Rattle.gsl_lower_law.proofs.Components.{components_of, spread_self, words_replicated}
use Rattle.gsl_lower_law.proofs.Giving.{Performs}
use Rattle.gsl_lower_law.proofs.Joining.{given_does}
use Rattle.gsl_lower_law.proofs.Plain.{IsType}
use Rattle.gsl_lower_law.proofs.Typed.{typed_does}

-- ids stand for values, and all of them are there
pub all_there : (state : State) (ids : List ℕ) (vs : List Value) (go : List Value → Outcome) → StandEach state.ids ids vs → on_all state ids go ≡ go vs
all_there state [] [] go stands = refl
all_there state [] (v ∷ vs) go stands = absurd stands
all_there state (id ∷ ids) [] go stands = absurd stands
all_there state (id ∷ ids) (v ∷ vs) go stands =
    ap (λ o. on_whole o (λ v. on_all state ids (λ vs. go (v ∷ vs)))) stands.0 ∙ all_there state ids vs (λ vs. go (v ∷ vs)) stands.1

pub each_stands : (ids : Ids) (count id : ℕ) (v : Value) → Stands ids id v → StandEach ids (replicate count id) (replicate count v)
each_stands ids zero id v stands = tt
each_stands ids (suc count) id v stands = (stands, each_stands ids count id v stands)

pub keep_each : (a b : Ids) → Keeps a b → (ids : List ℕ) (vs : List Value) → StandEach a ids vs → StandEach b ids vs
keep_each a b keeps [] [] stands = tt
keep_each a b keeps [] (v ∷ vs) stands = stands
keep_each a b keeps (id ∷ ids) [] stands = stands
keep_each a b keeps (id ∷ ids) (v ∷ vs) stands = (keeps.same id _ stands.0, keep_each a b keeps ids vs stands.1)

module _ (m : Module) (input : Input) where
  -- a vector of the components of parts
  pub constructs : (type : ℕ) (parts : List ℕ) (vs : List Value) (state : State) → is_vector (shape_of (defined_as m type)) ≡ true → StandEach state.ids parts vs
      → Performs m input op.COMPOSITE_CONSTRUCT parts type state (of_components (all_components vs)) state.choices
  unfolding form_of
  constructs type parts vs state vector stands = record {
    gives = λ id. refl;
    named = λ id. refl;
    done = λ id at rest.
        all_there (record state { rest = rest }) parts vs (λ vs. giving_value (record state { rest = rest }) id (constructed (is_vector (shape_of (defined_as m type))) vs)) stands
        ∙ ap (λ b. giving_value (record state { rest = rest }) id (constructed b vs)) vector;
  }

  module _ (whole : Sections) where
    -- a vector's type is one in the module
    pub vector_type_is : (shape : Shape) (type : ℕ) (ids : Ids) (own : Ids) → (shape.1 == 1) ≡ false → IsType m input whole shape type ids → Text m whole own → is_vector (shape_of (defined_as m type)) ≡ true
    vector_type_is shape type ids own many is text = text.vector is.0 shape.1 type (is.1 many)

    -- a vector of several components is constructed
    pub construct_does : (shape : Shape) (parts : List ℕ) (vs : List Value) (state : State) (before : Sections) → (shape.1 == 1) ≡ false → StandEach state.ids parts vs
        → Computes m input whole (of_components (all_components vs), state.choices) state before (type_of shape >>= giving op.COMPOSITE_CONSTRUCT parts)
    construct_does shape parts vs state before many stands =
        typed_does m input whole shape op.COMPOSITE_CONSTRUCT parts (of_components (all_components vs)) state.choices state before
        (λ type ids keeps is text. constructs type parts vs (record state { ids = ids }) (vector_type_is shape type ids state.own many is text) (keep_each state.ids ids keeps parts vs stands))

    -- a scalar as a vector of which each component is that scalar, and a vector of so many components as itself
    pub spread_computes : (count : ℕ) (a : Operand) (v : Value) (state : State) (before : Sections) → 1 ≤ count → IsOf a.shape v → (a.shape.1 ≡ count) ⊎ (a.shape.1 ≡ 1) → Stands state.ids a.id v
        → Computes m input whole (of_components (spread_words count (components_in v)), state.choices) state before (spread count a)
    unfolding spread
    spread_computes count a v state before some is serves stands = by (a.shape.1 == count) refl
      where
        same_words : components_in v ≡ is.words
        same_words = ap components_in is.is ∙ components_of is.words

        one_word : (ws : List ℕ) → length ws ≡ 1 → (w : ℕ) × (ws ≡ w ∷ [])
        one_word [] e = absurd (let z : 0 ≡ 1 = e in omega (arith, z))
        one_word (w ∷ []) e = (w, refl)
        one_word (w ∷ next ∷ ws) e = absurd (let z : suc (suc (length ws)) ≡ 1 = e in omega (arith, z))

        by_one : a.shape.1 ≡ 1 → (count == 1) ≡ false
            → Computes m input whole (of_components (spread_words count (components_in v)), state.choices) state before (type_of (a.shape.0, count) >>= giving op.COMPOSITE_CONSTRUCT (replicate count a.id))
        by_one one many =
            let w = one_word is.words (is.count ∙ one) in
            let alone : components_in v ≡ w.0 ∷ [] = same_words ∙ w.1 in
            subst (λ ws. Computes m input whole (of_components ws, state.choices) state before (type_of (a.shape.0, count) >>= giving op.COMPOSITE_CONSTRUCT (replicate count a.id)))
            (words_replicated count w.0 v alone ∙ ap (spread_words count) (sym alone))
            (construct_does (a.shape.0, count) (replicate count a.id) (replicate count v) state before many (each_stands state.ids count a.id v stands))

        several : a.shape.1 ≡ 1 → (a.shape.1 == count) ≡ false → (count == 1) ≡ false
        several one e = by_several (count == 1) refl
          where
            by_several : (b : Bool) → (count == 1) ≡ b → b ≡ false
            by_several true is_one = absurd (true≢false (sym (eq-eqb a.shape.1 count (one ∙ sym (eqb-true count 1 is_one))) ∙ e))
            by_several false is_one = refl

        by : (b : Bool) → (a.shape.1 == count) ≡ b
            → Computes m input whole (of_components (spread_words count (components_in v)), state.choices) state before (if b then given a.id else type_of (a.shape.0, count) >>= giving op.COMPOSITE_CONSTRUCT (replicate count a.id))
        by true e = given_does m input whole (λ id ids. Stands ids id (of_components (spread_words count (components_in v)))) a.id state before
            (stands ∙ ap (λ w. Some (Whole w)) (is.is ∙ ap of_components (sym (spread_self count is.words (is.count ∙ eqb-true a.shape.1 count e)) ∙ ap (spread_words count) (sym same_words))))
        by false e = by_served serves
          where
            by_served : (a.shape.1 ≡ count) ⊎ (a.shape.1 ≡ 1)
                → Computes m input whole (of_components (spread_words count (components_in v)), state.choices) state before (type_of (a.shape.0, count) >>= giving op.COMPOSITE_CONSTRUCT (replicate count a.id))
            by_served (inl same) = absurd (true≢false (sym (eq-eqb a.shape.1 count same) ∙ e))
            by_served (inr one) = by_one one (several one e)
