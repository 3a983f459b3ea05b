-- Components that are picked.
use Rattle.std.proofs.Common.{◌≡◌, refl, sym, ap, ap₂, ◌∙◌, subst, ℕ, zero, suc, ◌<◌, ◌≤◌, Bool, true, false, List, [], ◌∷◌, ◌++◌, length, map, Some, get_or, if◌then◌else◌, arith}
use Rattle.std.proofs.Math.ListN.{get_or-map}
use Rattle.std.proofs.lemmas.Bool.{eqb-true, true≢false}
use Rattle.std.proofs.lemmas.List.{get_or_append_left}
use Rattle.std.specs.List.{AllByRecursion}
use Rattle.std.specs.Prelude.{replicate, slice_index, ◌==◌}
use Rattle.gsl_base.specs.declared.input.Input.{Input}
use Rattle.gsl_instr.specs.Forms.{form_of}
use Rattle.gsl_instr.specs.declared.op.TheConstants as op
use Rattle.gsl_words.specs.declared.module.Module.{Module}
use Rattle.gsl_values.specs.declared.value.Value.{Value}
use Rattle.gsl_values.specs.declared.value.Value.TheVariants.{Word, outs-Many}
use Rattle.gsl_tree.specs.Operations.{value_at}
use Rattle.gsl_tree.specs.Values.{components_in, of_components, parts_layer}
use Rattle.gsl_machine.specs.Operations.{shuffled}
use Rattle.gsl_machine.specs.State.{State, Whole, giving_value, on_whole}
use Rattle.gsl_spv.specs.Sections.{Sections}
use Rattle.gsl_lower_values.specs.Building.{given, giving, ◌>>=◌}
use Rattle.gsl_lower_values.specs.Constructors.{component, picked}
use Rattle.gsl_lower_values.specs.Types.{type_of}
use Rattle.gsl_lower_values.specs.declared.operand.Operand.{Operand}
use Rattle.gsl_lower_law.specs.Values.{IsOf, Stands}
use Rattle.gsl_lower_law.specs.Computing.{Computes}
use Rattle.gsl_lower_law.specs.Operands.{picked_value}
use Rattle.gsl_lower_law.proofs.Components.{components_of, words_replicated}
use Rattle.gsl_lower_law.proofs.Gathers.{construct_does, each_stands}
use Rattle.gsl_lower_law.proofs.Giving.{Performs}
use Rattle.gsl_lower_law.proofs.Joining.{given_does}
use Rattle.gsl_lower_law.proofs.Typed.{typed_does}

-- ---- words

-- one component of a vector
part_is : (ws : List ℕ) (position : ℕ) → ((length ws == 1) ≡ false) → value_at (of_components ws) (position ∷ []) ≡ Word (slice_index ws position)
part_is [] position many = ap (λ l. get_or (parts_layer l) position (Word 0)) (outs-Many [])
part_is (w ∷ []) position many = absurd (true≢false many)
part_is (w ∷ next ∷ ws) position many = ap (λ l. get_or (parts_layer l) position (Word 0)) (outs-Many (map Word (w ∷ next ∷ ws))) ∙ get_or-map Word (w ∷ next ∷ ws) position 0

-- positions in front of a count
abbrev pub AreBelow : ℕ → List ℕ → Type 0
AreBelow count = AllByRecursion (λ position. position < count)

pub front_picked : (ws more positions : List ℕ) → AreBelow (length ws) positions → map (slice_index (ws ++ more)) positions ≡ map (slice_index ws) positions
front_picked ws more [] below = refl
front_picked ws more (p ∷ positions) below = ap₂ (λ w l. w ∷ l) (get_or_append_left ws more 0 p below.0) (front_picked ws more positions below.1)

-- a scalar has one position
alone_picked : (w : ℕ) (positions : List ℕ) → AreBelow 1 positions → map (slice_index (w ∷ [])) positions ≡ replicate (length positions) w
alone_picked w [] below = refl
alone_picked w (zero ∷ positions) below = ap (λ l. w ∷ l) (alone_picked w positions below.1)
alone_picked w (suc p ∷ positions) below = absurd (let less : suc p < 1 = below.0 in omega (arith, less))

pub several : (n : ℕ) → (suc (suc n) == 1) ≡ false
several n = by (suc (suc n) == 1) refl
  where
    by : (b : Bool) → (suc (suc n) == 1) ≡ b → (suc (suc n) == 1) ≡ false
    by true e = absurd (let z : suc (suc n) ≡ 1 = eqb-true (suc (suc n)) 1 e in omega (arith, z))
    by false e = e

pub one_word : (ws : List ℕ) → length ws ≡ 1 → (w : ℕ) × (ws ≡ w ∷ [])
one_word [] e = absurd (let z : 0 ≡ 1 = e in omega (arith, z))
one_word (w ∷ []) e = (w, refl)
one_word (w ∷ next ∷ ws) e = absurd (let z : suc (suc (length ws)) ≡ 1 = e in omega (arith, z))

module _ (m : Module) (input : Input) where
  pub takes : (type a : ℕ) (path : List ℕ) (v : Value) (state : State) → Stands state.ids a v → Performs m input op.COMPOSITE_EXTRACT (a ∷ path) type state (value_at v path) state.choices
  unfolding form_of
  takes type a path v state stands = record {
    gives = λ id. refl;
    named = λ id. refl;
    done = λ id at rest. ap (λ o. on_whole o (λ v. giving_value (record state { rest = rest }) id (value_at v path))) stands;
  }

  pub shuffles : (type a b : ℕ) (positions : List ℕ) (v w : Value) (state : State) → Stands state.ids a v → Stands state.ids b w → Performs m input op.VECTOR_SHUFFLE (a ∷ b ∷ positions) type state (shuffled v w positions) state.choices
  unfolding form_of
  shuffles type a b positions v w state first second = record {
    gives = λ id. refl;
    named = λ id. refl;
    done = λ id at rest.
        ap (λ o. on_whole o (λ v. on_whole (state.ids b) (λ w. giving_value (record state { rest = rest }) id (shuffled v w positions)))) first
        ∙ ap (λ o. on_whole o (λ w. giving_value (record state { rest = rest }) id (shuffled v w positions))) second;
  }

  module _ (whole : Sections) (a : Operand) (v : Value) (is : IsOf a.shape v) (state : State) (before : Sections) (stands : Stands state.ids a.id v) where
    words : components_in v ≡ is.words
    words = ap components_in is.is ∙ components_of is.words

    below_words : (positions : List ℕ) → AreBelow a.shape.1 positions → AreBelow (length (components_in v)) positions
    below_words positions below = subst (λ n. AreBelow n positions) (sym is.count ∙ ap length (sym words)) below

    -- of a scalar
    scalar_words : (a.shape.1 == 1) ≡ true → (positions : List ℕ) → AreBelow a.shape.1 positions → (w : ℕ) × (components_in v ≡ w ∷ []) × (map (slice_index (components_in v)) positions ≡ replicate (length positions) w)
    scalar_words e positions below =
        let count = eqb-true a.shape.1 1 e in
        let one = one_word is.words (is.count ∙ count) in
        let all : components_in v ≡ one.0 ∷ [] = words ∙ one.1 in
        (one.0, all, ap (λ l. map (slice_index l) positions) all ∙ alone_picked one.0 positions (subst (λ n. AreBelow n positions) count below))

    component_computes : (position : ℕ) → (a.shape.1 == 1) ≡ false → Computes m input whole (picked_value v (position ∷ []), state.choices) state before (component a position)
    component_computes position e =
        typed_does m input whole (a.shape.0, 1) op.COMPOSITE_EXTRACT (a.id ∷ position ∷ []) (picked_value v (position ∷ [])) state.choices state before
        (λ type ids keeps typed text. subst (λ w. Performs m input op.COMPOSITE_EXTRACT (a.id ∷ position ∷ []) type (record state { ids = ids }) w state.choices)
        (ap (λ v. value_at v (position ∷ [])) is.is ∙ part_is is.words position (ap (λ n. n == 1) is.count ∙ e) ∙ ap (λ ws. Word (slice_index ws position)) (sym words))
        (takes type a.id (position ∷ []) v (record state { ids = ids }) (keeps.same a.id _ stands)))

    one_computes : (position : ℕ) → position < a.shape.1 → (b : Bool) → (a.shape.1 == 1) ≡ b → Computes m input whole (picked_value v (position ∷ []), state.choices) state before (if b then given a.id else component a position)
    one_computes position less true e =
        let one = scalar_words e (position ∷ []) (less, tt) in
        given_does m input whole (λ id ids. Stands ids id (picked_value v (position ∷ []))) a.id state before
        (stands ∙ ap (λ v. Some (Whole v)) (is.is ∙ ap of_components (sym words ∙ one.1 ∙ sym one.2)))
    one_computes position less false e = component_computes position e

    spread_picked : (positions : List ℕ) → AreBelow a.shape.1 positions → (length positions == 1) ≡ false → (a.shape.1 == 1) ≡ true
        → Computes m input whole (picked_value v positions, state.choices) state before (type_of (a.shape.0, length positions) >>= giving op.COMPOSITE_CONSTRUCT (replicate (length positions) a.id))
    spread_picked positions below many e =
        let one = scalar_words e positions below in
        subst (λ ws. Computes m input whole (of_components ws, state.choices) state before (type_of (a.shape.0, length positions) >>= giving op.COMPOSITE_CONSTRUCT (replicate (length positions) a.id)))
        (words_replicated (length positions) one.0 v one.1 ∙ sym one.2)
        (construct_does m input whole (a.shape.0, length positions) (replicate (length positions) a.id) (replicate (length positions) v) state before many (each_stands state.ids (length positions) a.id v stands))

    several_picked : (positions : List ℕ) → AreBelow a.shape.1 positions
        → Computes m input whole (picked_value v positions, state.choices) state before (type_of (a.shape.0, length positions) >>= giving op.VECTOR_SHUFFLE (a.id ∷ a.id ∷ positions))
    several_picked positions below =
        typed_does m input whole (a.shape.0, length positions) op.VECTOR_SHUFFLE (a.id ∷ a.id ∷ positions) (picked_value v positions) state.choices state before
        (λ type ids keeps typed text. subst (λ w. Performs m input op.VECTOR_SHUFFLE (a.id ∷ a.id ∷ positions) type (record state { ids = ids }) w state.choices)
        (ap of_components (front_picked (components_in v) (components_in v) positions (below_words positions below)))
        (shuffles type a.id a.id positions v v (record state { ids = ids }) (keeps.same a.id _ stands) (keeps.same a.id _ stands)))

    components_compute : (positions : List ℕ) → AreBelow a.shape.1 positions → (length positions == 1) ≡ false → (b : Bool) → (a.shape.1 == 1) ≡ b
        → Computes m input whole (picked_value v positions, state.choices) state before
        (type_of (a.shape.0, length positions) >>= (if b then giving op.COMPOSITE_CONSTRUCT (replicate (length positions) a.id) else giving op.VECTOR_SHUFFLE (a.id ∷ a.id ∷ positions)))
    components_compute positions below many true e = spread_picked positions below many e
    components_compute positions below many false e = several_picked positions below

    pub picked_computes : (positions : List ℕ) → 1 ≤ length positions → AreBelow a.shape.1 positions → Computes m input whole (picked_value v positions, state.choices) state before (picked a positions)
    unfolding picked
    picked_computes [] some below = absurd (let z : 1 ≤ 0 = some in omega (arith, z))
    picked_computes (p ∷ []) some below = one_computes p below.0 (a.shape.1 == 1) refl
    picked_computes (p ∷ next ∷ positions) some below = components_compute (p ∷ next ∷ positions) below (several (length positions)) (a.shape.1 == 1) refl
