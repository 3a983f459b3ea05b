-- Stores.
use Rattle.std.proofs.Common.{◌≡◌, ap, ◌∙◌, ℕ, List, [], ◌∷◌, Some}
use Rattle.gsl_base.specs.declared.input.Buffer.{Buffer}
use Rattle.gsl_base.specs.declared.input.Input.{Input}
use Rattle.gsl_instr.specs.Forms.{form_of}
use Rattle.gsl_instr.specs.declared.op.TheConstants as op
use Rattle.gsl_words.specs.declared.module.Module.{Module}
use Rattle.gsl_values.specs.declared.value.Value.{Value}
use Rattle.gsl_tree.specs.Shapes.{Shape}
use Rattle.gsl_lower_law_constructors.specs.OfMachine.{storing}
use Rattle.gsl_lower_law_constructors.specs.OfMachine.{Going, Ids, Pointer, Points, State, on_pointer, on_whole}
use Rattle.gsl_spv.specs.Sections.{Sections}
use Rattle.gsl_lower_values.specs.Building.{Step, putting, ◌>>=◌}
use Rattle.gsl_lower_values.specs.Constructors.{operand}
use Rattle.gsl_lower_values.specs.Types.{type_of}
use Rattle.gsl_lower_places.specs.Reached.{stored_shape}
use Rattle.gsl_lower_places.specs.Reading.{pointer}
use Rattle.gsl_lower_places.specs.Writing.{in_class, put_at}
use Rattle.gsl_lower_places.specs.declared.reached.Part.{Part}
use Rattle.gsl_lower_law_constructors.specs.OfLaw.{Acts, Computes, Grows, Left, drawing}
use Rattle.gsl_lower_law_constructors.specs.OfLaw.{converted_value}
use Rattle.gsl_lower_law_constructors.specs.OfLaw.{IsOf, Stands}
use Rattle.gsl_lower_law_constructors.proofs.OfLaw.{extends_put}
use Rattle.gsl_lower_law_constructors.proofs.OfLaw.{acts_then, grows_then}
use Rattle.gsl_lower_law_constructors.proofs.OfLaw.{IsType, type_does}
use Rattle.gsl_lower_law_constructors.proofs.OfLaw.{putting_acts}
use Rattle.gsl_lower_law_constructors.proofs.Shares.{converted_grows}
use Rattle.gsl_lower_law_constructors.proofs.OfLawOperators.{converted_computes}
use Rattle.gsl_lower_law_places.specs.Leading.{LeadsTo, NumberEach}
use Rattle.gsl_lower_law_places.specs.Storing.{Stores}
use Rattle.gsl_lower_law_places.proofs.Chains.{pointer_does, pointer_grows, still_number}

-- nothing is said of what is given
abbrev pub Nothing : Unit {0} → Ids → Type 0
Nothing given ids = Unit {0}

module _ (m : Module) (input : Input) (whole : Sections) where
  -- what is left where these variables and buffers are
  abbrev pub stored_left : State → List Value → List Buffer → Left
  stored_left state variables buffers = record { choices = state.choices; variables = variables; buffers = buffers }

  pub store_acts : (to_id word : ℕ) (to : Pointer) (v : Value) (variables : List Value) (buffers : List Buffer) (state : State) (before : Sections) → state.ids to_id ≡ Some (Points to) → Stands state.ids word v → Stores m input state to v variables buffers
      → Acts m input whole (λ given ids. Unit {0}) (stored_left state variables buffers) state before (putting op.STORE (to_id ∷ word ∷ []))
  unfolding form_of
  store_acts to_id word to v variables buffers state before points stands stores =
      putting_acts m input whole op.STORE (to_id ∷ word ∷ []) (stored_left state variables buffers) state before
      (λ at rest.
      ap (λ o. on_pointer o (λ to. on_whole (state.ids word) (λ v. storing m input (record state { rest = rest }) to v Going))) points
      ∙ ap (λ o. on_whole o (λ v. storing m input (record state { rest = rest }) to v Going)) stands
      ∙ stores state.ids state.choices rest Going)

  pub in_class_computes : (class : ℕ) (shape : Shape) (id : ℕ) (v : Value) (state : State) (before : Sections) → IsOf shape v → Stands state.ids id v → Computes m input whole (converted_value (stored_shape class shape).0 v, state.choices) state before (in_class class shape id)
  unfolding in_class
  in_class_computes class shape id v state before is stands = converted_computes m input whole (operand shape id) v is (stored_shape class shape).0 state before stands

  pub put_grows : (id class : ℕ) (shape : Shape) (parts : List Part) (value : ℕ) (state : State) (before : Sections) → Grows before (put_at id class shape parts value before)
  unfolding put_at in_class
  put_grows id class shape parts value state before =
      grows_then m input whole before (in_class class shape value before) behind_word (converted_grows m input whole (stored_shape class shape).0 (operand shape value) state before)
      (λ word between. grows_then m input whole between (type_of (stored_shape class shape) between) (behind_type word) (type_does m input whole (stored_shape class shape) state between).grows
      (λ type later. grows_then m input whole later (pointer id class type parts later) (behind_pointer word) (pointer_grows m input whole id class type parts state later)
      (λ to last. extends_put op.STORE (to ∷ word ∷ []) last)))
    where
      behind_pointer : ℕ → ℕ → Step (Unit {0})
      behind_pointer word to = putting op.STORE (to ∷ word ∷ [])

      behind_type : ℕ → ℕ → Step (Unit {0})
      behind_type word type = pointer id class type parts >>= behind_pointer word

      behind_word : ℕ → Step (Unit {0})
      behind_word word = type_of (stored_shape class shape) >>= behind_type word

  pub put_acts : (id class : ℕ) (shape : Shape) (parts : List Part) (value : ℕ) (words : List ℕ) (from to : Pointer) (v : Value) (variables : List Value) (buffers : List Buffer) (state : State) (before : Sections) → state.ids id ≡ Some (Points from) → NumberEach state.ids parts words
      → LeadsTo m input state from words to → IsOf shape v → Stands state.ids value v → Stores m input state to (converted_value (stored_shape class shape).0 v) variables buffers
      → Acts m input whole (λ given ids. Unit {0}) (stored_left state variables buffers) state before (put_at id class shape parts value)
  unfolding put_at
  put_acts id class shape parts value words from to v variables buffers state before points each leads is stands stores =
      acts_then m input whole (λ id ids. Stands ids id lying) Nothing (drawing state state.choices) left state before (in_class class shape value) behind_word
      (in_class_computes class shape value v state before is stands)
      (λ word between. word_grows word between)
      (λ word between ids lies keeps.
      acts_then m input whole (IsType m input whole stored) Nothing (drawing (record state { ids = ids }) state.choices) left (record state { ids = ids }) between (type_of stored) (behind_type word)
      (type_does m input whole stored (record state { ids = ids }) between)
      (λ type later. type_grows word type later)
      (λ type later now typed kept.
      acts_then m input whole (λ given ids. ids given ≡ Some (Points to)) Nothing (drawing (record state { ids = now }) state.choices) left (record state { ids = now }) later (pointer id class type parts) (behind_pointer word)
      (pointer_does m input whole id class type parts words from to (record state { ids = now }) later (kept.same id _ (keeps.same id _ points)) (still_number ids now kept parts words (still_number state.ids ids keeps parts words each)) leads)
      (λ at last. extends_put op.STORE (at ∷ word ∷ []) last)
      (λ at last end points held. store_acts at word to lying variables buffers (record state { ids = end }) last points (held.same word _ (kept.same word _ lies)) stores)))
    where
      stored : Shape
      stored = stored_shape class shape

      lying : Value
      lying = converted_value (stored_shape class shape).0 v

      left : Left
      left = record { choices = state.choices; variables = variables; buffers = buffers }

      behind_pointer : ℕ → ℕ → Step (Unit {0})
      behind_pointer word at = putting op.STORE (at ∷ word ∷ [])

      behind_type : ℕ → ℕ → Step (Unit {0})
      behind_type word type = pointer id class type parts >>= behind_pointer word

      behind_word : ℕ → Step (Unit {0})
      behind_word word = type_of stored >>= behind_type word

      type_grows : (word type : ℕ) (later : Sections) → Grows later (behind_type word type later)
      type_grows word type later = grows_then m input whole later (pointer id class type parts later) (behind_pointer word) (pointer_grows m input whole id class type parts state later) (λ at last. extends_put op.STORE (at ∷ word ∷ []) last)

      word_grows : (word : ℕ) (between : Sections) → Grows between (behind_word word between)
      word_grows word between = grows_then m input whole between (type_of stored between) (behind_type word) (type_does m input whole stored state between).grows (λ type later. type_grows word type later)
