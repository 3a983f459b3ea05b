-- Several components that are stored, each by a pointer of its own.
use Rattle.std.proofs.Common.{◌≡◌, refl, ◌∙◌, ap, sym, subst, ℕ, ◌+◌, ◌<◌, Bool, true, false, if◌then◌else◌, List, [], ◌∷◌, ◌++◌, length, map, Some, arith}
use Rattle.std.specs.Prelude.{slice_index, ◌==◌}
use Rattle.gsl_base.specs.declared.input.Buffer.{Buffer}
use Rattle.gsl_base.specs.declared.input.Input.{Input}
use Rattle.gsl_instr.specs.declared.op.TheConstants as op
use Rattle.gsl_types.specs.declared.ty.Scalar.{Scalar}
use Rattle.gsl_words.specs.declared.module.Module.{Module}
use Rattle.gsl_values.specs.declared.value.Value.{Value}
use Rattle.gsl_values.specs.declared.value.Value.TheVariants.{Word}
use Rattle.gsl_tree.specs.Operations.{converted as converted_word}
use Rattle.gsl_tree.specs.Values.{components_in}
use Rattle.gsl_lower_law_constructors.specs.OfMachine.{Pointer, Points, State}
use Rattle.gsl_spv.specs.Sections.{Sections}
use Rattle.gsl_spv.proofs.Extending.{extends_same}
use Rattle.gsl_lower_values.specs.Building.{Step, given}
use Rattle.gsl_lower_values.specs.Constructors.{component, picked}
use Rattle.gsl_lower_values.specs.declared.operand.Operand.{Operand}
use Rattle.gsl_lower_places.specs.Reached.{stored_shape}
use Rattle.gsl_lower_places.specs.Writing.{each_from, one_at, put_at}
use Rattle.gsl_lower_places.specs.declared.reached.Part.{Part}
use Rattle.gsl_lower_places.specs.declared.reached.Part.TheVariants.{Fixed}
use Rattle.gsl_lower_law_constructors.specs.OfLaw.{Acts, Grows, drawing}
use Rattle.gsl_lower_law_constructors.specs.OfLaw.{converted_value}
use Rattle.gsl_lower_law_constructors.specs.OfLaw.{AreWords, IsOf, Stands}
use Rattle.gsl_lower_law_constructors.proofs.OfLaw.{acts_then, grows_then}
use Rattle.gsl_lower_law_constructors.proofs.OfLaw.{picked_computes}
use Rattle.gsl_lower_law_constructors.proofs.OfLaw.{typed_grows}
use Rattle.gsl_lower_law_constructors.proofs.Shares.{words_in}
use Rattle.gsl_lower_law_places.specs.Leading.{LeadsTo, NumberEach}
use Rattle.gsl_lower_law_places.specs.Storing.{Stores}
use Rattle.gsl_lower_law_places.proofs.Chains.{still_number}
use Rattle.gsl_lower_law_places.proofs.Reading.{mapped_length, numbers_on, one_is, words_stay}
use Rattle.gsl_lower_law_places.proofs.Stored.{Nothing, put_acts, put_grows, stored_left}

-- a converted value is of the scalar type that it is converted to
pub converted_of : (from to : Scalar) (count : ℕ) (v : Value) → IsOf (from, count) v → IsOf (to, count) (converted_value to v)
converted_of from to count v is = record {
  words = map (converted_word to) (components_in v);
  is = refl;
  count = mapped_length (converted_word to) (components_in v) ∙ ap length (words_in v is) ∙ is.count;
  fits = words_stay from to (components_in v) (subst (AreWords from) (sym (words_in v is)) is.fits);
}

module _ (m : Module) (input : Input) (whole : Sections) (id class : ℕ) (parts : List Part) (a : Operand) where
  abbrev put_word_at : ℕ → ℕ → Step (Unit {0})
  put_word_at position word = put_at id class (a.shape.0, 1) (parts ++ Fixed position ∷ []) word

  part_grows : (number : ℕ) (state : State) (before : Sections) → Grows before (picked a (number ∷ []) before)
  unfolding picked
  part_grows number state before = by (a.shape.1 == 1)
    where
      by : (b : Bool) → Grows before ((if b then given a.id else component a number) before)
      by true = extends_same before
      by false = typed_grows m input whole (a.shape.0, 1) op.COMPOSITE_EXTRACT (a.id ∷ number ∷ []) state before

  one_grows : (number position : ℕ) (state : State) (before : Sections) → Grows before (one_at id class parts a number position before)
  unfolding one_at
  one_grows number position state before =
      grows_then m input whole before (picked a (number ∷ []) before) (put_word_at position) (part_grows number state before) (λ word between. put_grows m input whole id class (a.shape.0, 1) (parts ++ Fixed position ∷ []) word state between)

  pub each_grows : (number : ℕ) (positions : List ℕ) (state : State) (before : Sections) → Grows before (each_from id class parts a number positions before)
  unfolding each_from
  each_grows number [] state before = extends_same before
  each_grows number (position ∷ positions) state before =
      grows_then m input whole before (one_at id class parts a number position before) (λ done. each_from id class parts a (number + 1) positions) (one_grows number position state before) (λ done between. each_grows (number + 1) positions state between)

  -- the component that is stored
  abbrev pub word_of : Value → ℕ → Value
  word_of w number = Word (slice_index (components_in w) number)

  pub one_acts : (number position : ℕ) (words : List ℕ) (from to : Pointer) (w : Value) (variables : List Value) (buffers : List Buffer) (state : State) (before : Sections) → IsOf a.shape w → number < a.shape.1 → Stands state.ids a.id w
      → state.ids id ≡ Some (Points from) → NumberEach state.ids parts words → LeadsTo m input state from (words ++ position ∷ []) to → Stores m input state to (converted_value (stored_shape class (a.shape.0, 1)).0 (word_of w number)) variables buffers
      → Acts m input whole Nothing (stored_left m input whole state variables buffers) state before (one_at id class parts a number position)
  unfolding one_at
  one_acts number position words from to w variables buffers state before is less stands points each leads stores =
      acts_then m input whole (λ word ids. Stands ids word (word_of w number)) Nothing (drawing state state.choices) (stored_left m input whole state variables buffers) state before (picked a (number ∷ [])) (put_word_at position)
      (picked_computes m input whole a w is state before stands (number ∷ []) (omega arith) (less, tt))
      (λ word between. put_grows m input whole id class (a.shape.0, 1) (parts ++ Fixed position ∷ []) word state between)
      (λ word between ids there keeps.
      put_acts m input whole id class (a.shape.0, 1) (parts ++ Fixed position ∷ []) word (words ++ position ∷ []) from to (word_of w number) variables buffers (record state { ids = ids }) between (keeps.same id _ points)
      (numbers_on ids parts (Fixed position ∷ []) words (position ∷ []) (still_number state.ids ids keeps parts words each) (refl, tt)) leads (one_is a.shape w number is less) there stores)
