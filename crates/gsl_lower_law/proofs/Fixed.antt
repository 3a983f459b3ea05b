-- Constants: nothing is put for them, and their ids stand for their values in all of a function.
use Rattle.std.proofs.Common.{◌≡◌, refl, sym, ap, ◌∙◌, subst, ℕ, zero, suc, Bool, true, false, not, List, ◌∷◌, map, if◌then◌else◌}
use Rattle.std.proofs.lemmas.Bool.{eqb-true}
use Rattle.std.proofs.lemmas.List.Elements.{Contains-append_left}
use Rattle.std.specs.List.{Contains}
use Rattle.std.specs.Prelude.{replicate, ◌==◌}
use Rattle.gsl_base.specs.declared.input.Input.{Input}
use Rattle.gsl_types.specs.declared.ty.Scalar.{Scalar}
use Rattle.gsl_types.specs.declared.ty.Scalar.TheVariants.{Bool as Boolean, Int, Uint}
use Rattle.gsl_words.specs.declared.module.Module.{Module}
use Rattle.gsl_values.specs.declared.value.Value.{Value}
use Rattle.gsl_values.specs.declared.value.Value.TheVariants.{Word, Many}
use Rattle.gsl_values.specs.Word.{word_of_bool}
use Rattle.gsl_tree.specs.Operations.{converted}
use Rattle.gsl_tree.specs.Shapes.{Shape}
use Rattle.gsl_tree.specs.Values.{of_components}
use Rattle.gsl_machine.specs.State.{Ids, State}
use Rattle.gsl_spv.specs.Calls as call
use Rattle.gsl_spv.specs.Calls.{intern}
use Rattle.gsl_spv.specs.Declarations as d
use Rattle.gsl_spv.specs.Declarations.{defining}
use Rattle.gsl_spv.specs.Once.{IsOnce}
use Rattle.gsl_spv.specs.Sections.{Sections}
use Rattle.gsl_spv.specs.declared.plain.PlainConst.TheVariants as of
use Rattle.gsl_spv.specs.declared.plain.PlainType.TheVariants as plain
use Rattle.gsl_spv.proofs.Answering.{composite_once, constant_once}
use Rattle.gsl_spv.proofs.Defining.{interned_stands}
use Rattle.gsl_spv.proofs.Extending.{extends_then}
use Rattle.gsl_lower_values.specs.Building.{Built, Made, Full, Step, given, id_by, ◌>>=◌}
use Rattle.gsl_lower_values.specs.Types.{composed, filled_constant, scalar_constant, scalar_type, type_of, word_of_type}
use Rattle.gsl_lower_law.specs.Values.{Keeps, Stands, StandEach, Text}
use Rattle.gsl_lower_law.specs.Computing.{Comes, Does, Grows, drawing}
use Rattle.gsl_lower_law.proofs.Adding.{extends_intern, intern_functions}
use Rattle.gsl_lower_law.proofs.Joining.{does_then, given_does, grows_then}
use Rattle.gsl_lower_law.proofs.Plain.{Any, IsType, asking_does, intern_does, scalar_type_does, type_does}

-- a constant's id stands for a value in all of a function
abbrev pub Lasts : State → Value → ℕ → Ids → Type 0
Lasts state v id ids = Stands state.own id v

module _ (m : Module) (input : Input) (whole : Sections) where
  comes_so : {A : Type 0} (Is Then : A → Ids → Type 0) (choices : List ℕ) (state : State) (before : Sections) (built : Built A) → ((a : A) (ids : Ids) → Keeps state.own ids → Is a ids → Then a ids)
      → Comes m input whole Is (drawing state choices) state before built → Comes m input whole Then (drawing state choices) state before built
  comes_so Is Then choices state before Full so p = tt
  comes_so Is Then choices state before (Made a after) so p = λ inside.
      let r = p inside in record { code = r.code; puts = r.puts; ids = r.ids; leads = r.leads; is = so a r.ids r.ready.lasting r.is; keeps = r.keeps; ready = r.ready }

  -- what is so of what was given, is so
  pub does_so : {A : Type 0} (Is Then : A → Ids → Type 0) (choices : List ℕ) (state : State) (before : Sections) (step : Step A) → (Text m whole state.own → (a : A) (ids : Ids) → Keeps state.own ids → Is a ids → Then a ids)
      → Does m input whole Is choices state before step → Does m input whole Then choices state before step
  does_so Is Then choices state before step so p = record { grows = p.grows; comes = λ text ready. comes_so Is Then choices state before (step before) (so text) (p.comes text ready) }

  -- ---- scalars

  truth_does : (value : Bool) (state : State) (before : Sections) → Does m input whole (Lasts state (Word (word_of_bool value))) state.choices state before (id_by (call.truth value))
  truth_does value state before =
      let ty = call.plain_type plain.Bool before in
      let x = d.truth value ty.id in
      asking_does m input whole (Lasts state (Word (word_of_bool value))) (call.truth value) state before
      (extends_then (extends_intern (d.plain_type plain.Bool) before) (extends_intern x ty.sections))
      (intern_functions x ty.sections ∙ intern_functions (d.plain_type plain.Bool) before)
      (λ inside text lasting. text.truth value ty.id (intern x ty.sections).id
      (subst (λ l. Contains l (defining x (intern x ty.sections).id)) (sym inside.globals.is) (Contains-append_left (intern x ty.sections).sections.globals inside.globals.more _ (interned_stands x ty.sections (once value ty.id)))))
    where
      once : (value : Bool) (type : ℕ) → IsOnce (d.truth value type)
      once true type = constant_once of.True type
      once false type = constant_once of.False type

  word_does : (word type : ℕ) (state : State) (before : Sections) → Does m input whole (Lasts state (Word word)) state.choices state before (word_of_type word type)
  word_does word type state before =
      intern_does m input whole (Lasts state (Word word)) (d.word type word) state before (constant_once (of.Word type word) 0) (λ id stands text lasting. text.word type word id stands)

  number_does : (s : Scalar) (word : ℕ) (state : State) (before : Sections) → Does m input whole (Lasts state (Word word)) state.choices state before (scalar_type s >>= word_of_type word)
  number_does s word state before =
      does_then m input whole (Any m input whole) (Lasts state (Word word)) state.choices state.choices state before (scalar_type s) (word_of_type word) (scalar_type_does m input whole s state before)
      (λ type between. (word_does word type state between).grows)
      (λ type between ids is keeps. word_does word type (record state { ids = ids }) between)

  pub scalar_constant_does : (s : Scalar) (word : ℕ) (state : State) (before : Sections) → Does m input whole (Lasts state (Word (converted s word))) state.choices state before (scalar_constant s word)
  unfolding scalar_constant
  scalar_constant_does Boolean word state before = by (word == 0)
    where
      by : (b : Bool) → Does m input whole (Lasts state (Word (word_of_bool (not b)))) state.choices state before (id_by (call.constant (if b then of.False else of.True)))
      by true = truth_does false state before
      by false = truth_does true state before
  scalar_constant_does Int word state before = number_does Int word state before
  scalar_constant_does Uint word state before = number_does Uint word state before

  -- ---- vectors

  composed_does : (parts : List ℕ) (vs : List Value) (type : ℕ) (state : State) (before : Sections) → StandEach state.own parts vs → Does m input whole (Lasts state (Many vs)) state.choices state before (composed parts type)
  composed_does parts vs type state before stand =
      intern_does m input whole (Lasts state (Many vs)) (d.composite type parts) state before (composite_once type parts) (λ id stands text lasting. text.composite type parts id vs stands stand)

  pub composed_grows : (parts : List ℕ) (type : ℕ) (state : State) (before : Sections) → Grows before (composed parts type before)
  composed_grows parts type state before = (intern_does m input whole (Any m input whole) (d.composite type parts) state before (composite_once type parts) (λ id stands text lasting. tt)).grows

  pub composite_does : (shape : Shape) (parts : List ℕ) (vs : List Value) (state : State) (before : Sections) → StandEach state.own parts vs → Does m input whole (Lasts state (Many vs)) state.choices state before (type_of shape >>= composed parts)
  composite_does shape parts vs state before stand =
      does_then m input whole (IsType m input whole shape) (Lasts state (Many vs)) state.choices state.choices state before (type_of shape) (composed parts) (type_does m input whole shape state before)
      (λ type between. (composed_does parts vs type state between stand).grows)
      (λ type between ids is keeps. composed_does parts vs type (record state { ids = ids }) between stand)

  stand_filled : (own : Ids) (count id : ℕ) (v : Value) → Stands own id v → StandEach own (replicate count id) (replicate count v)
  stand_filled own zero id v stands = tt
  stand_filled own (suc count) id v stands = (stands, stand_filled own count id v stands)

  words_filled : (count w : ℕ) → replicate count (Word w) ≡ map Word (replicate count w)
  words_filled zero w = refl
  words_filled (suc count) w = ap (λ l. Word w ∷ l) (words_filled count w)

  filled_is : (count w : ℕ) → (count == 1) ≡ false → Many (replicate count (Word w)) ≡ of_components (replicate count w)
  filled_is zero w e = refl
  filled_is (suc zero) w e = absurd (let z : (1 == 1) ≡ false = e in cc)
  filled_is (suc (suc count)) w e = ap Many (words_filled (suc (suc count)) w)

  -- Each component has the word.
  pub filled_constant_lasts : (shape : Shape) (word : ℕ) (state : State) (before : Sections) → Does m input whole (Lasts state (of_components (replicate shape.1 (converted shape.0 word)))) state.choices state before (filled_constant shape word)
  unfolding filled_constant
  filled_constant_lasts shape word state before =
      does_then m input whole (Lasts state (Word w)) (Lasts state filled) state.choices state.choices state before (scalar_constant shape.0 word) (λ part. if shape.1 == 1 then given part else type_of shape >>= composed (replicate shape.1 part)) (scalar_constant_does shape.0 word state before)
      (λ part between. grows_by part between (shape.1 == 1))
      (λ part between ids is keeps. by part between ids is (shape.1 == 1) refl)
    where
      w : ℕ
      w = converted shape.0 word

      filled : Value
      filled = of_components (replicate shape.1 w)

      grows_by : (part : ℕ) (between : Sections) (b : Bool) → Grows between ((if b then given part else type_of shape >>= composed (replicate shape.1 part)) between)
      grows_by part between true = (given_does m input whole (Any m input whole) part state between tt).grows
      grows_by part between false =
          grows_then m input whole between (type_of shape between) (composed (replicate shape.1 part)) (type_does m input whole shape state between).grows
          (λ type later. composed_grows (replicate shape.1 part) type state later)

      by : (part : ℕ) (between : Sections) (ids : Ids) → Stands state.own part (Word w) → (b : Bool) → (shape.1 == 1) ≡ b
          → Does m input whole (Lasts state filled) state.choices (record state { ids = ids }) between (if b then given part else type_of shape >>= composed (replicate shape.1 part))
      by part between ids is true e = given_does m input whole (Lasts state filled) part (record state { ids = ids }) between (subst (λ n. Stands state.own part (of_components (replicate n w))) (sym (eqb-true shape.1 1 e)) is)
      by part between ids is false e =
          subst (λ v. Does m input whole (Lasts state v) state.choices (record state { ids = ids }) between (type_of shape >>= composed (replicate shape.1 part))) (filled_is shape.1 w e)
          (composite_does shape (replicate shape.1 part) (replicate shape.1 (Word w)) (record state { ids = ids }) between (stand_filled state.own shape.1 part (Word w) is))

  -- a constant stands for its value in a state
  pub stands_now : (v : Value) (state : State) (id : ℕ) (ids : Ids) → Keeps state.own ids → Lasts state v id ids → Stands ids id v
  stands_now v state id ids lasting is = lasting.same id _ is
