-- Constants of scalars and vectors stand for their values in each state of a function.
use Rattle.std.proofs.Common.{◌≡◌, ℕ, true, false, List, [], ◌∷◌, map}
use Rattle.std.specs.Prelude.{replicate, ◌==◌}
use Rattle.gsl_base.specs.declared.input.Input.{Input}
use Rattle.gsl_types.specs.declared.ty.Scalar.{Scalar}
use Rattle.gsl_words.specs.declared.module.Module.{Module}
use Rattle.gsl_values.specs.declared.value.Value.{Value}
use Rattle.gsl_values.specs.declared.value.Value.TheVariants.{Word, Many}
use Rattle.gsl_tree.specs.Operations.{converted as converted_word}
use Rattle.gsl_tree.specs.Shapes.{Shape}
use Rattle.gsl_tree.specs.Values.{of_components}
use Rattle.gsl_valid.specs.Kinds.{shape_of}
use Rattle.gsl_valid.specs.OperandRules.{is_vector}
use Rattle.gsl_valid.specs.Types.{defined_as}
use Rattle.gsl_machine.specs.State.{Ids, State}
use Rattle.gsl_spv.specs.Sections.{Sections}
use Rattle.gsl_lower_values.specs.Building.{Step, given, in_order, ◌>>=◌}
use Rattle.gsl_lower_values.specs.Types.{composed, filled_constant, scalar_constant, type_of, vector_constant}
use Rattle.gsl_lower_law.specs.Values.{Stands, StandEach}
use Rattle.gsl_lower_law.specs.Computing.{Computes, Does, Grows}
use Rattle.gsl_lower_law.proofs.Fixed.{Lasts, composed_grows, composite_does, does_so, filled_constant_lasts, scalar_constant_does, stands_now}
use Rattle.gsl_lower_law.proofs.Joining.{does_then, given_does, grows_then}
use Rattle.gsl_lower_law.proofs.Plain.{Any, IsType, type_does}

module _ (m : Module) (input : Input) (whole : Sections) where
  -- what stands in all of a function stands in its states
  standing : (v : Value) (state : State) (before : Sections) (step : Step ℕ) → Does m input whole (Lasts state v) state.choices state before step → Computes m input whole (v, state.choices) state before step
  standing v state before step p = does_so m input whole (Lasts state v) (λ id ids. Stands ids id v) state.choices state before step (λ text id ids lasting is. stands_now m input whole v state id ids lasting is) p

  pub scalar_stands : (s : Scalar) (word : ℕ) (state : State) (before : Sections) → Computes m input whole (Word (converted_word s word), state.choices) state before (scalar_constant s word)
  scalar_stands s word state before = standing (Word (converted_word s word)) state before (scalar_constant s word) (scalar_constant_does m input whole s word state before)

  pub filled_stands : (shape : Shape) (word : ℕ) (state : State) (before : Sections) → Computes m input whole (of_components (replicate shape.1 (converted_word shape.0 word)), state.choices) state before (filled_constant shape word)
  filled_stands shape word state before =
      standing (of_components (replicate shape.1 (converted_word shape.0 word))) state before (filled_constant shape word) (filled_constant_lasts m input whole shape word state before)

  abbrev pub values_of : Scalar → List ℕ → List Value
  values_of s words = map (λ word. Word (converted_word s word)) words

  -- one constant behind the other
  constants_grow : (s : Scalar) (words : List ℕ) (state : State) (before : Sections) → Grows before (in_order (scalar_constant s) words before)
  unfolding in_order
  constants_grow s [] state before = (given_does m input whole {A = List ℕ} (Any m input whole) [] state before tt).grows
  constants_grow s (word ∷ words) state before =
      grows_then m input whole before (scalar_constant s word before) (λ id. in_order (scalar_constant s) words >>= (λ ids. given (id ∷ ids))) (scalar_constant_does m input whole s word state before).grows
      (λ id between. grows_then m input whole between (in_order (scalar_constant s) words between) (λ ids. given (id ∷ ids)) (constants_grow s words state between) (λ ids later. (given_does m input whole (Any m input whole) (id ∷ ids) state later tt).grows))

  constants_last : (s : Scalar) (words : List ℕ) (state : State) (before : Sections) → Does m input whole (λ ids later. StandEach state.own ids (values_of s words)) state.choices state before (in_order (scalar_constant s) words)
  unfolding in_order
  constants_last s [] state before = given_does m input whole (λ (ids : List ℕ) (later : Ids). StandEach state.own ids []) [] state before tt
  constants_last s (word ∷ words) state before =
      does_then m input whole (Lasts state (Word (converted_word s word))) (λ ids later. StandEach state.own ids (values_of s (word ∷ words))) state.choices state.choices state before (scalar_constant s word) (λ id. in_order (scalar_constant s) words >>= (λ ids. given (id ∷ ids)))
      (scalar_constant_does m input whole s word state before)
      (λ id between. grows_then m input whole between (in_order (scalar_constant s) words between) (λ ids. given (id ∷ ids)) (constants_grow s words state between) (λ ids later. (given_does m input whole (Any m input whole) (id ∷ ids) state later tt).grows))
      (λ id between now is keeps.
      does_then m input whole (λ ids later. StandEach state.own ids (values_of s words)) (λ ids later. StandEach state.own ids (values_of s (word ∷ words))) state.choices state.choices (record state { ids = now }) between (in_order (scalar_constant s) words) (λ ids. given (id ∷ ids))
      (constants_last s words (record state { ids = now }) between)
      (λ ids later. (given_does m input whole (Any m input whole) (id ∷ ids) state later tt).grows)
      (λ ids later more stand further. given_does m input whole (λ ids later. StandEach state.own ids (values_of s (word ∷ words))) (id ∷ ids) (record state { ids = more }) later (is, stand)))

  pub vector_stands : (shape : Shape) (words : List ℕ) (state : State) (before : Sections) → Computes m input whole (Many (values_of shape.0 words), state.choices) state before (vector_constant shape words)
  unfolding vector_constant
  vector_stands shape words state before =
      standing (Many (values_of shape.0 words)) state before (in_order (scalar_constant shape.0) words >>= (λ parts. type_of shape >>= composed parts))
      (does_then m input whole (λ ids later. StandEach state.own ids (values_of shape.0 words)) (Lasts state (Many (values_of shape.0 words))) state.choices state.choices state before (in_order (scalar_constant shape.0) words) (λ parts. type_of shape >>= composed parts)
      (constants_last shape.0 words state before)
      (λ parts between. grows_then m input whole between (type_of shape between) (composed parts) (type_does m input whole shape state between).grows (λ type later. composed_grows m input whole parts type state later))
      (λ parts between ids stand keeps. composite_does m input whole shape parts (values_of shape.0 words) (record state { ids = ids }) between stand))

  -- the type of a vector is one
  pub type_is : (shape : Shape) (state : State) (before : Sections) → (shape.1 == 1) ≡ false → Does m input whole (λ type ids. is_vector (shape_of (defined_as m type)) ≡ true) state.choices state before (type_of shape)
  type_is shape state before many =
      does_so m input whole (IsType m input whole shape) (λ type ids. is_vector (shape_of (defined_as m type)) ≡ true) state.choices state before (type_of shape)
      (λ text type ids lasting is. text.vector is.0 shape.1 type (is.1 many)) (type_does m input whole shape state before)
