-- Leaves that are copied one behind the other.
use Rattle.std.proofs.Common.{◌≡◌, refl, sym, ap, ◌∙◌, subst, ℕ, ◌≤◌, false, if◌then◌else◌, List, [], ◌∷◌, ◌++◌, length, map, set, Option, Some, None, arith}
use Rattle.std.specs.Prelude.{slice_get}
use Rattle.gsl_base.specs.declared.input.Input.{Input}
use Rattle.gsl_instr.specs.declared.enumerant.decoration.TheConstants as decoration
use Rattle.gsl_instr.specs.declared.enumerant.storage_class.TheConstants as storage_class
use Rattle.gsl_instr.specs.declared.op.TheConstants as op
use Rattle.gsl_words.specs.declared.module.Module.{Module}
use Rattle.gsl_values.specs.declared.value.Value.{Value}
use Rattle.gsl_tree.specs.Operations.{with_value_at}
use Rattle.gsl_tree.specs.Shapes.{Shape}
use Rattle.gsl_tree.specs.Values.{components_in, of_components}
use Rattle.gsl_valid.specs.Decorations.{number_on}
use Rattle.gsl_views.specs.Buffers.{put_words}
use Rattle.gsl_machine.specs.Memory.{bytes_if, bytes_of, is_push, with_bytes_if, with_variable, words_at}
use Rattle.gsl_machine.specs.State.{Ids, InBlock, InVariable, Pointer, Points, State, on}
use Rattle.gsl_spv.specs.Sections.{Sections}
use Rattle.gsl_lower_values.specs.Building.{Step, given, giving, ◌>>=◌}
use Rattle.gsl_lower_values.specs.Constructors.{operand}
use Rattle.gsl_lower_values.specs.Operators.{converted}
use Rattle.gsl_lower_values.specs.Types.{type_of}
use Rattle.gsl_lower_places.specs.Reached.{stored_shape}
use Rattle.gsl_lower_places.specs.Reading.{extracted, loaded, number_in, pointer}
use Rattle.gsl_lower_places.specs.Writing.{put_at}
use Rattle.gsl_lower_places.specs.declared.reached.Part.{Part}
use Rattle.gsl_lower_places.specs.declared.reached.Part.TheVariants.{Fixed, By}
use Rattle.gsl_lower_leaves.specs.Copies.{copied_in, copied_out, each, read_whole, store_whole}
use Rattle.gsl_lower_leaves.specs.declared.leaf.Leaf.{Leaf}
use Rattle.gsl_lower_law.specs.Computing.{Acts, Grows, Left, drawing}
use Rattle.gsl_lower_law.specs.Operands.{converted_value}
use Rattle.gsl_lower_law.specs.Straying.{Strays}
use Rattle.gsl_lower_law.specs.Values.{IsOf, Stands}
use Rattle.gsl_spv.proofs.Extending.{extends_same}
use Rattle.gsl_lower_law.proofs.Giving.{giving_does, giving_grows}
use Rattle.gsl_lower_law.proofs.Joining.{acts_then, given_does, grows_then}
use Rattle.gsl_lower_law.proofs.Plain.{IsType, type_does}
use Rattle.gsl_lower_law.proofs.Straying.{strays_before, strays_then}
use Rattle.gsl_lower_law_constructors.proofs.Shares.{converted_grows}
use Rattle.gsl_lower_law_leaves.specs.Equal.{HasLeaves, leaf_in}
use Rattle.gsl_lower_law_places.specs.Leading.{HoldsValue, NumberEach, StraysFrom}
use Rattle.gsl_lower_law_places.specs.Storing.{buffers_with}
use Rattle.gsl_lower_law_places.proofs.Blocks.{block_stores, held_value}
use Rattle.gsl_lower_law_places.proofs.Chains.{pointer_grows, still_number}
use Rattle.gsl_lower_law_places.proofs.Kept.{lies_same}
use Rattle.gsl_lower_law_places.proofs.Loads.{extracted_does, extracted_grows, loaded_computes, loads}
use Rattle.gsl_lower_law_places.proofs.Outside.{loaded_strays, put_strays}
use Rattle.gsl_lower_law_places.proofs.Reading.{converted_is, numbers_on}
use Rattle.gsl_lower_law_places.proofs.Stored.{put_acts, put_grows}
use Rattle.gsl_lower_law_picks.specs.Outside.{HasPart}
use Rattle.gsl_lower_law_picks.proofs.Along.{stray_on, words_lead}
use Rattle.gsl_lower_law_copies.specs.Copying.{AreFixed, Fits, LieEach, Lies, Place, ShowEach, filled, numbers_of, put_leaves, with_leaf}
use Rattle.gsl_lower_law_places.proofs.Lists.{bytes_put, bytes_same, bytes_twice, get_put, put_same, put_twice, words_length}

-- known numbers are their own words
fixed_number : (ids : Ids) (parts : List Part) → AreFixed parts → NumberEach ids parts (map number_in parts)
fixed_number ids [] fixed = tt
fixed_number ids (Fixed number ∷ parts) fixed = (refl, fixed_number ids parts fixed)
fixed_number ids (By s id ∷ parts) fixed = absurd fixed

module _ (m : Module) (input : Input) (whole : Sections) where
  -- ---- what is only added

  loaded_grows : (id class : ℕ) (shape : Shape) (parts : List Part) (state : State) (before : Sections) → Grows before (loaded id class shape parts before)
  unfolding loaded
  loaded_grows id class shape parts state before =
      grows_then m input whole before (type_of (stored_shape class shape) before) (λ type. pointer id class type parts >>= (λ from. giving op.LOAD (from ∷ []) type >>= (λ v. converted shape.0 (operand (stored_shape class shape) v)))) (type_does m input whole (stored_shape class shape) state before).grows
      (λ type between. grows_then m input whole between (pointer id class type parts between) (λ from. giving op.LOAD (from ∷ []) type >>= (λ v. converted shape.0 (operand (stored_shape class shape) v))) (pointer_grows m input whole id class type parts state between)
      (λ from later. grows_then m input whole later (giving op.LOAD (from ∷ []) type later) (λ v. converted shape.0 (operand (stored_shape class shape) v)) (giving_grows m input whole op.LOAD (from ∷ []) type later)
      (λ v last. converted_grows m input whole shape.0 (operand (stored_shape class shape) v) state last)))

  out_grows : (block class : ℕ) (parts : List Part) (holder : ℕ) (one : Leaf) (state : State) (before : Sections) → Grows before (copied_out block class parts holder one before)
  unfolding copied_out
  out_grows block class parts holder one state before =
      grows_then m input whole before (loaded block class one.shape (parts ++ one.path) before) (λ v. put_at holder storage_class.FUNCTION one.shape one.path v) (loaded_grows block class one.shape (parts ++ one.path) state before)
      (λ v between. put_grows m input whole holder storage_class.FUNCTION one.shape one.path v state between)

  in_grows : (block class : ℕ) (parts : List Part) (value : ℕ) (one : Leaf) (state : State) (before : Sections) → Grows before (copied_in block class parts value one before)
  unfolding copied_in
  in_grows block class parts value one state before =
      grows_then m input whole before (type_of one.shape before) (λ type. extracted value type one.path >>= (λ v. put_at block class one.shape (parts ++ one.path) v)) (type_does m input whole one.shape state before).grows
      (λ type between. grows_then m input whole between (extracted value type one.path between) (λ v. put_at block class one.shape (parts ++ one.path) v) (extracted_grows m input whole value type one.path state between)
      (λ v later. put_grows m input whole block class one.shape (parts ++ one.path) v state later))

  each_grows : (step : Leaf → Step (Unit {0})) → ((one : Leaf) (before : Sections) → Grows before (step one before)) → (leaves : List Leaf) (before : Sections) → Grows before (each step leaves before)
  unfolding each
  each_grows step grows [] before = extends_same before
  each_grows step grows (one ∷ more) before = grows_then m input whole before (step one before) (λ done. each step more) (grows one before) (λ done between. each_grows step grows more between)

  -- nothing is said of what a copy gives
  abbrev Done : Unit {0} → Ids → Type 0
  Done done ids = Unit {0}

  -- ---- out of a block

  module _ (block class : ℕ) (parts : List Part) (holder type : ℕ) (words : List ℕ) (from : Pointer) (variable number : ℕ) (bytes : List ℕ) (v : Value) where
    -- what a copy leaves where a value stands in the variable
    abbrev Filling : State → Value → Left
    Filling state x = record { choices = state.choices; variables = set state.variables number x; buffers = state.buffers }

    leaf_out : (one : Leaf) (place : Place) (old : Value) (state : State) (before : Sections) → state.ids block ≡ Some (Points from) → NumberEach state.ids parts words → bytes_of m input state variable ≡ Some bytes → Lies m input variable (length bytes) from words one place
        → (leaf_in v one ≡ of_components (words_at m place.offset place.pointee bytes)) → IsOf (stored_shape class one.shape) (leaf_in v one) → state.ids holder ≡ Some (Points (InVariable number [])) → slice_get state.variables number ≡ Some old → HasPart old (numbers_of one)
        → Acts m input whole Done (Filling state (with_leaf old v one)) state before (copied_out block class parts holder one)
    unfolding copied_out
    leaf_out one place old state before points each there lies shows is holds held has =
        acts_then m input whole (λ id ids. Stands ids id (converted_value one.shape.0 (leaf_in v one))) Done (drawing state state.choices) (Filling state (with_leaf old v one)) state before (loaded block class one.shape (parts ++ one.path)) (λ w. put_at holder storage_class.FUNCTION one.shape one.path w)
        (loaded_computes m input whole block class one.shape (parts ++ one.path) (words ++ numbers_of one) from (InBlock variable place.offset place.pointee) (leaf_in v one) state before points
        (numbers_on state.ids parts one.path words (numbers_of one) each (fixed_number state.ids one.path lies.fixed)) (lies.leads state bytes there refl)
        (subst (HoldsValue m input state (InBlock variable place.offset place.pointee)) (sym shows) (held_value m input state variable place.offset place.pointee bytes there)) is)
        (λ w between. put_grows m input whole holder storage_class.FUNCTION one.shape one.path w state between)
        (λ w between ids stands keeps.
        subst (λ x. Acts m input whole Done (Filling state (with_value_at old (numbers_of one) x)) (record state { ids = ids }) between (put_at holder storage_class.FUNCTION one.shape one.path w))
        (lies_same storage_class.FUNCTION one.shape (converted_value one.shape.0 (leaf_in v one)) refl (converted_is class one.shape (leaf_in v one) is))
        (put_acts m input whole holder storage_class.FUNCTION one.shape one.path w (numbers_of one) (InVariable number []) (InVariable number (numbers_of one)) (converted_value one.shape.0 (leaf_in v one))
        (set state.variables number (with_value_at old (numbers_of one) (lying one))) state.buffers (record state { ids = ids }) between (keeps.same holder _ holds) (fixed_number ids one.path lies.fixed)
        (words_lead m input state number old held [] (numbers_of one) has) (converted_is class one.shape (leaf_in v one) is) stands
        (λ ids choices rest go. ap (λ o. on o (λ old. go (with_variable (record state { ids = ids; choices = choices; rest = rest }) number (with_value_at old (numbers_of one) (lying one))))) held)))
      where
        lying : Leaf → Value
        lying one = converted_value (stored_shape storage_class.FUNCTION one.shape).0 (converted_value one.shape.0 (leaf_in v one))

    all_out : (leaves : List Leaf) (places : List Place) (old : Value) (state : State) (before : Sections) → state.ids block ≡ Some (Points from) → NumberEach state.ids parts words → bytes_of m input state variable ≡ Some bytes → LieEach m input variable (length bytes) from words leaves places
        → ShowEach m class bytes v leaves places → state.ids holder ≡ Some (Points (InVariable number [])) → slice_get state.variables number ≡ Some old → Fits old v leaves
        → Acts m input whole Done (Filling state (filled old v leaves)) state before (each (copied_out block class parts holder) leaves)
    unfolding each
    all_out [] places old state before points each there lie show holds held fits =
        subst (λ variables. Acts m input whole Done (record { choices = state.choices; variables = variables; buffers = state.buffers }) state before (given tt)) (sym (put_same state.variables number old held)) (given_does m input whole Done tt state before tt)
    all_out (one ∷ more) [] old state before points each there lie show holds held fits = absurd lie
    all_out (one ∷ more) (place ∷ places) old state before points number_each there lie show holds held fits =
        subst (λ variables. Acts m input whole Done (record { choices = state.choices; variables = variables; buffers = state.buffers }) state before (copied_out block class parts holder one >>= (λ done. each (copied_out block class parts holder) more)))
        (put_twice state.variables number (with_leaf old v one) (filled old v (one ∷ more)))
        (acts_then m input whole Done Done (Filling state (with_leaf old v one)) (record { choices = state.choices; variables = set (set state.variables number (with_leaf old v one)) number (filled old v (one ∷ more)); buffers = state.buffers }) state before (copied_out block class parts holder one) (λ done. each (copied_out block class parts holder) more)
        (leaf_out one place old state before points number_each there lie.0 show.0.0 show.0.1 holds held fits.0)
        (λ done between. each_grows (copied_out block class parts holder) (λ one before. out_grows block class parts holder one state before) more between)
        (λ done between ids is keeps. all_out more places (with_leaf old v one) (record state { ids = ids; variables = set state.variables number (with_leaf old v one) }) between (keeps.same block _ points) (still_number state.ids ids keeps parts words number_each) there lie.1 show.1
        (keeps.same holder _ holds) (get_put state.variables number old (with_leaf old v one) held) fits.1))

    pub whole_out : (leaves : List Leaf) (places : List Place) (old : Value) (state : State) (before : Sections) → state.ids block ≡ Some (Points from) → NumberEach state.ids parts words → bytes_of m input state variable ≡ Some bytes → LieEach m input variable (length bytes) from words leaves places
        → ShowEach m class bytes v leaves places → state.ids holder ≡ Some (Points (InVariable number [])) → slice_get state.variables number ≡ Some old → Fits old v leaves
        → Acts m input whole (λ id ids. Stands ids id (filled old v leaves)) (Filling state (filled old v leaves)) state before (read_whole block class parts holder type leaves)
    unfolding read_whole
    whole_out leaves places old state before points number_each there lie show holds held fits =
        acts_then m input whole Done (λ id ids. Stands ids id (filled old v leaves)) (Filling state (filled old v leaves)) (Filling state (filled old v leaves)) state before (each (copied_out block class parts holder) leaves) (λ done. giving op.LOAD (holder ∷ []) type)
        (all_out leaves places old state before points number_each there lie show holds held fits)
        (λ done between. giving_grows m input whole op.LOAD (holder ∷ []) type between)
        (λ done between ids is keeps.
        giving_does m input whole op.LOAD (holder ∷ []) type (record state { ids = ids; variables = set state.variables number (filled old v leaves) }) (filled old v leaves) state.choices between
        (λ text. loads m input type holder (InVariable number []) (filled old v leaves) (record state { ids = ids; variables = set state.variables number (filled old v leaves) }) (keeps.same holder _ holds)
        (λ go. ap (λ o. on o (λ v. go v)) (get_put state.variables number old (filled old v leaves) held))))

  -- ---- into a block

  module _ (block class : ℕ) (parts : List Part) (value : ℕ) (words : List ℕ) (from : Pointer) (variable : ℕ) (v : Value) (no_push : is_push m variable ≡ false) where
    -- what a copy leaves where the block has other bytes
    abbrev Putting : State → List ℕ → Left
    Putting state bytes = record { choices = state.choices; variables = state.variables; buffers = buffers_with m state variable bytes }

    abbrev lying_in : Leaf → Value
    lying_in one = converted_value (stored_shape class one.shape).0 (leaf_in v one)

    leaf_into : (one : Leaf) (place : Place) (bytes : List ℕ) (state : State) (before : Sections) → state.ids block ≡ Some (Points from) → NumberEach state.ids parts words → bytes_of m input state variable ≡ Some bytes → Lies m input variable (length bytes) from words one place → Stands state.ids value v
        → IsOf one.shape (leaf_in v one) → Acts m input whole Done (Putting state (put_words place.offset (components_in (converted_value (stored_shape class one.shape).0 (leaf_in v one))) bytes)) state before (copied_in block class parts value one)
    unfolding copied_in
    leaf_into one place bytes state before points each there lies stands is =
        acts_then m input whole (IsType m input whole one.shape) Done (drawing state state.choices) (Putting state put) state before (type_of one.shape) behind_type
        (type_does m input whole one.shape state before)
        (λ type between. grows_then m input whole between (extracted value type one.path between) behind_part (extracted_grows m input whole value type one.path state between) (λ w later. put_grows m input whole block class one.shape (parts ++ one.path) w state later))
        (λ type between ids typed keeps.
        acts_then m input whole (λ id ids. Stands ids id (leaf_in v one)) Done (drawing (record state { ids = ids }) state.choices) (Putting state put) (record state { ids = ids }) between (extracted value type one.path) behind_part
        (extracted_does m input whole value type one.path v (record state { ids = ids }) between (keeps.same value _ stands))
        (λ w later. put_grows m input whole block class one.shape (parts ++ one.path) w state later)
        (λ w later now there_now kept.
        put_acts m input whole block class one.shape (parts ++ one.path) w (words ++ numbers_of one) from (InBlock variable place.offset place.pointee) (leaf_in v one) state.variables (buffers_with m state variable put) (record state { ids = now }) later
        (kept.same block _ (keeps.same block _ points)) (numbers_on now parts one.path words (numbers_of one) (still_number ids now kept parts words (still_number state.ids ids keeps parts words each)) (fixed_number now one.path lies.fixed))
        (lies.leads (record state { ids = now }) bytes there refl) is there_now
        (block_stores m input (record state { ids = now }) variable place.offset place.pointee bytes there (converted_value (stored_shape class one.shape).0 (leaf_in v one)))))
      where
        put : List ℕ
        put = put_words place.offset (components_in (converted_value (stored_shape class one.shape).0 (leaf_in v one))) bytes

        behind_part : ℕ → Step (Unit {0})
        behind_part w = put_at block class one.shape (parts ++ one.path) w

        behind_type : ℕ → Step (Unit {0})
        behind_type type = extracted value type one.path >>= behind_part

    -- the bytes that were put are those of the block then, and put again they are those that are put last
    bytes_now : (state : State) (bytes new : List ℕ) → bytes_of m input state variable ≡ Some bytes → (later : State) → later.buffers ≡ buffers_with m state variable new → bytes_of m input later variable ≡ Some new
    bytes_now state bytes new there later is =
        ap (λ b. if b then input.push else bytes_if later.buffers (number_on m decoration.DESCRIPTOR_SET variable) (number_on m decoration.BINDING variable)) no_push
        ∙ ap (λ l. bytes_if l (number_on m decoration.DESCRIPTOR_SET variable) (number_on m decoration.BINDING variable)) is
        ∙ by (number_on m decoration.DESCRIPTOR_SET variable) (number_on m decoration.BINDING variable)
        (sym (ap (λ b. if b then input.push else bytes_if state.buffers (number_on m decoration.DESCRIPTOR_SET variable) (number_on m decoration.BINDING variable)) no_push) ∙ there)
      where
        by : (a b : Option ℕ) → bytes_if state.buffers a b ≡ Some bytes → bytes_if (with_bytes_if state.buffers a b new) a b ≡ Some new
        by None b e = absurd (let z : ◌≡◌ {A = Option (List ℕ)} None (Some bytes) = e in cc)
        by (Some a) None e = absurd (let z : ◌≡◌ {A = Option (List ℕ)} None (Some bytes) = e in cc)
        by (Some a) (Some b) e = bytes_put state.buffers a b bytes new e

    put_again : (state : State) (new last : List ℕ) → (later : State) → later.buffers ≡ buffers_with m state variable new → buffers_with m later variable last ≡ buffers_with m state variable last
    put_again state new last later is = ap (λ l. with_bytes_if l (number_on m decoration.DESCRIPTOR_SET variable) (number_on m decoration.BINDING variable) last) is ∙ by (number_on m decoration.DESCRIPTOR_SET variable) (number_on m decoration.BINDING variable)
      where
        by : (a b : Option ℕ) → with_bytes_if (with_bytes_if state.buffers a b new) a b last ≡ with_bytes_if state.buffers a b last
        by None b = refl
        by (Some a) None = refl
        by (Some a) (Some b) = bytes_twice state.buffers a b new last

    put_nothing : (state : State) (bytes : List ℕ) → bytes_of m input state variable ≡ Some bytes → buffers_with m state variable bytes ≡ state.buffers
    put_nothing state bytes there =
        by (number_on m decoration.DESCRIPTOR_SET variable) (number_on m decoration.BINDING variable)
        (sym (ap (λ b. if b then input.push else bytes_if state.buffers (number_on m decoration.DESCRIPTOR_SET variable) (number_on m decoration.BINDING variable)) no_push) ∙ there)
      where
        by : (a b : Option ℕ) → bytes_if state.buffers a b ≡ Some bytes → with_bytes_if state.buffers a b bytes ≡ state.buffers
        by None b e = refl
        by (Some a) None e = refl
        by (Some a) (Some b) e = bytes_same state.buffers a b bytes e

    all_into : (leaves : List Leaf) (places : List Place) (bytes : List ℕ) (state : State) (before : Sections) → state.ids block ≡ Some (Points from) → NumberEach state.ids parts words → bytes_of m input state variable ≡ Some bytes → LieEach m input variable (length bytes) from words leaves places
        → Stands state.ids value v → HasLeaves v leaves → Acts m input whole Done (Putting state (put_leaves class v leaves places bytes)) state before (each (copied_in block class parts value) leaves)
    unfolding each
    all_into [] places bytes state before points number_each there lie stands has =
        subst (λ buffers. Acts m input whole Done (record { choices = state.choices; variables = state.variables; buffers = buffers }) state before (given tt)) (sym (put_nothing state bytes there)) (given_does m input whole Done tt state before tt)
    all_into (one ∷ more) [] bytes state before points number_each there lie stands has = absurd lie
    all_into (one ∷ more) (place ∷ places) bytes state before points number_each there lie stands has =
        subst (λ buffers. Acts m input whole Done (record { choices = state.choices; variables = state.variables; buffers = buffers }) state before (copied_in block class parts value one >>= (λ done. each (copied_in block class parts value) more)))
        (put_again state put (put_leaves class v more places put) (record state { buffers = buffers_with m state variable put }) refl)
        (acts_then m input whole Done Done (Putting state put) (Putting (record state { buffers = buffers_with m state variable put }) (put_leaves class v more places put)) state before (copied_in block class parts value one) (λ done. each (copied_in block class parts value) more)
        (leaf_into one place bytes state before points number_each there lie.0 stands has.0.1)
        (λ done between. each_grows (copied_in block class parts value) (λ one before. in_grows block class parts value one state before) more between)
        (λ done between ids is keeps. all_into more places put (record state { ids = ids; buffers = buffers_with m state variable put }) between (keeps.same block _ points) (still_number state.ids ids keeps parts words number_each)
        (bytes_now state bytes put there (record state { ids = ids; buffers = buffers_with m state variable put }) refl)
        (subst (λ n. LieEach m input variable n from words more places) (sym (words_length place.offset (components_in (lying_in one)) bytes)) lie.1) (keeps.same value _ stands) has.1))
      where
        put : List ℕ
        put = put_words place.offset (components_in (lying_in one)) bytes

    pub whole_into : (leaves : List Leaf) (places : List Place) (bytes : List ℕ) (state : State) (before : Sections) → state.ids block ≡ Some (Points from) → NumberEach state.ids parts words → bytes_of m input state variable ≡ Some bytes → LieEach m input variable (length bytes) from words leaves places
        → Stands state.ids value v → HasLeaves v leaves → Acts m input whole Done (Putting state (put_leaves class v leaves places bytes)) state before (store_whole block class parts value leaves)
    unfolding store_whole
    whole_into leaves places bytes state before points number_each there lie stands has = all_into leaves places bytes state before points number_each there lie stands has

  -- ---- copies that stray

  module _ (block class : ℕ) (parts : List Part) (words : List ℕ) (from : Pointer) (variable size : ℕ) (state : State) (before : Sections) (points : state.ids block ≡ Some (Points from)) (number_each : NumberEach state.ids parts words) (out : StraysFrom m input state from words) where
    pub whole_out_strays : (holder type : ℕ) (leaves : List Leaf) (places : List Place) → 1 ≤ length leaves → LieEach m input variable size from words leaves places → Strays m input whole state before (read_whole block class parts holder type leaves)
    unfolding read_whole each copied_out
    whole_out_strays holder type [] places some lie = absurd (let z : 1 ≤ 0 = some in omega (arith, z))
    whole_out_strays holder type (one ∷ more) [] some lie = absurd lie
    whole_out_strays holder type (one ∷ more) (place ∷ places) some lie =
        strays_before m input whole state before (each (copied_out block class parts holder) (one ∷ more)) (λ done. giving op.LOAD (holder ∷ []) type)
        (strays_before m input whole state before (copied_out block class parts holder one) (λ done. each (copied_out block class parts holder) more)
        (strays_before m input whole state before (loaded block class one.shape (parts ++ one.path)) (λ w. put_at holder storage_class.FUNCTION one.shape one.path w)
        (loaded_strays m input whole block class one.shape (parts ++ one.path) (words ++ numbers_of one) from state before points
        (numbers_on state.ids parts one.path words (numbers_of one) number_each (fixed_number state.ids one.path lie.0.fixed)) (stray_on m input state from words (numbers_of one) out))
        (λ w between. put_grows m input whole holder storage_class.FUNCTION one.shape one.path w state between))
        (λ done between. each_grows (copied_out block class parts holder) (λ one before. out_grows block class parts holder one state before) more between))
        (λ done between. giving_grows m input whole op.LOAD (holder ∷ []) type between)

    pub whole_into_strays : (value : ℕ) (leaves : List Leaf) (places : List Place) (v : Value) → 1 ≤ length leaves → LieEach m input variable size from words leaves places → Stands state.ids value v → HasLeaves v leaves → Strays m input whole state before (store_whole block class parts value leaves)
    unfolding store_whole each copied_in
    whole_into_strays value [] places v some lie stands has = absurd (let z : 1 ≤ 0 = some in omega (arith, z))
    whole_into_strays value (one ∷ more) [] v some lie stands has = absurd lie
    whole_into_strays value (one ∷ more) (place ∷ places) v some lie stands has =
        strays_before m input whole state before (copied_in block class parts value one) (λ done. each (copied_in block class parts value) more)
        (strays_then m input whole (IsType m input whole one.shape) (drawing state state.choices) state before (type_of one.shape) behind_type
        (type_does m input whole one.shape state before)
        (λ type between. grows_then m input whole between (extracted value type one.path between) behind_part (extracted_grows m input whole value type one.path state between) (λ w later. put_grows m input whole block class one.shape (parts ++ one.path) w state later))
        (λ type between ids typed keeps.
        strays_then m input whole (λ id ids. Stands ids id (leaf_in v one)) (drawing (record state { ids = ids }) state.choices) (record state { ids = ids }) between (extracted value type one.path) behind_part
        (extracted_does m input whole value type one.path v (record state { ids = ids }) between (keeps.same value _ stands))
        (λ w later. put_grows m input whole block class one.shape (parts ++ one.path) w state later)
        (λ w later now there kept.
        put_strays m input whole block class one.shape (parts ++ one.path) w (words ++ numbers_of one) from (leaf_in v one) (record state { ids = now }) later (kept.same block _ (keeps.same block _ points))
        (numbers_on now parts one.path words (numbers_of one) (still_number ids now kept parts words (still_number state.ids ids keeps parts words number_each)) (fixed_number now one.path lie.0.fixed))
        (stray_on m input (record state { ids = now }) from words (numbers_of one) out) has.0.1 there)))
        (λ done between. each_grows (copied_in block class parts value) (λ one before. in_grows block class parts value one state before) more between)
      where
        behind_part : ℕ → Step (Unit {0})
        behind_part w = put_at block class one.shape (parts ++ one.path) w

        behind_type : ℕ → Step (Unit {0})
        behind_type type = extracted value type one.path >>= behind_part
