-- What is picked by a word that is out of bounds, and what is picked of what an index out of bounds leads to.
use Rattle.std.proofs.Common.{◌≡◌, refl, ap, ◌∙◌, subst, ℕ, zero, suc, ◌≤◌, Bool, true, false, if◌then◌else◌, List, [], ◌∷◌, ◌++◌, length, map, Option, Some, None, arith}
use Rattle.std.specs.Prelude.{◌==◌, slice_get}
use Rattle.std.proofs.lemmas.Bool.{eqb-true, true≢false}
use Rattle.gsl_base.specs.declared.input.Input.{Input}
use Rattle.gsl_instr.specs.Forms.{form_of}
use Rattle.gsl_instr.specs.declared.op.TheConstants as op
use Rattle.gsl_words.specs.declared.module.Module.{Module}
use Rattle.gsl_values.specs.declared.value.Value.{Value}
use Rattle.gsl_values.specs.declared.value.Value.TheVariants.{Word, outs-Word}
use Rattle.gsl_tree.specs.Operations.{value_at}
use Rattle.gsl_tree.specs.Shapes.{Shape}
use Rattle.gsl_tree.specs.Values.{parts_in, word_in, word_layer}
use Rattle.gsl_machine.specs.State.{Ids, Pointer, Points, State, on_whole}
use Rattle.gsl_machine.specs.Steps.{picking}
use Rattle.gsl_spv.specs.Sections.{Sections}
use Rattle.gsl_lower_values.specs.Building.{Step, giving, ◌>>=◌}
use Rattle.gsl_lower_values.specs.Constructors.{operand, picked}
use Rattle.gsl_lower_values.specs.Types.{type_of}
use Rattle.gsl_lower_places.specs.Reading.{component_by, extracted_shape, index, loaded, loaded_by, loaded_picked, loaded_scalar, loaded_vector, number_in, picked_by, read}
use Rattle.gsl_lower_places.specs.declared.reached.Base.TheVariants as base
use Rattle.gsl_lower_places.specs.declared.reached.Part.{Part}
use Rattle.gsl_lower_places.specs.declared.reached.Part.TheVariants.{Fixed}
use Rattle.gsl_lower_places.specs.declared.reached.Picked.{Picked}
use Rattle.gsl_lower_law.specs.Computing.{Grows, drawing}
use Rattle.gsl_lower_law.specs.Straying.{Strays}
use Rattle.gsl_lower_law.specs.Values.{IsOf, Stands}
use Rattle.gsl_lower_law.proofs.Giving.{giving_grows}
use Rattle.gsl_lower_law.proofs.Joining.{grows_then}
use Rattle.gsl_lower_law.proofs.Picking.{AreBelow}
use Rattle.gsl_lower_law.proofs.Plain.{IsType, type_does}
use Rattle.gsl_lower_law.proofs.Straying.{giving_strays, strays_before, strays_then}
use Rattle.gsl_lower_law_places.specs.Components.{Chooses}
use Rattle.gsl_lower_law_places.specs.Leading.{LeadsTo, NumberEach, Numbers, StraysFrom}
use Rattle.gsl_lower_law_places.proofs.Chains.{index_does, index_grows}
use Rattle.gsl_lower_law_places.proofs.Loads.{extracted_computes}
use Rattle.gsl_lower_law_places.proofs.Outside.{loaded_strays}
use Rattle.gsl_lower_law_places.proofs.Picked.{picked_grows}
use Rattle.gsl_lower_law_places.proofs.Reading.{dynamic_grows, numbers_on, still_chooses}
use Rattle.gsl_lower_law_places.proofs.Variables.{parts_are}
use Rattle.gsl_lower_law_picks.specs.Outside.{ArePositions, CanPick, PicksOutside}
use Rattle.gsl_lower_law_picks.proofs.Along.{stray_behind, stray_on}

-- two components at least are not one
pub not_one : (n : ℕ) → 2 ≤ n → (n == 1) ≡ false
not_one n many = by (n == 1) refl
  where
    by : (b : Bool) → (n == 1) ≡ b → b ≡ false
    by true e = absurd (let one : n ≡ 1 = eqb-true n 1 e in omega (arith, many, one))
    by false e = refl

-- of a scalar all positions are the first
pub first_of : (count : ℕ) (part : Option Part) (positions : List ℕ) → count ≡ 1 → ArePositions count part positions → AreBelow 1 positions
first_of count None positions one within = subst (λ n. AreBelow n positions) one within
first_of count (Some part) positions one within = within

-- no part stands behind the last
none_behind : (ws : List ℕ) (k : ℕ) → length ws ≤ k → slice_get (map Word ws) k ≡ None
none_behind [] k most = refl
none_behind (w ∷ ws) zero most = absurd (let z : suc (length ws) ≤ 0 = most in omega (arith, z))
none_behind (w ∷ ws) (suc k) most = none_behind ws k (let z : suc (length ws) ≤ suc k = most in omega (arith, z))

module _ (m : Module) (input : Input) (whole : Sections) where
  -- what is picked of what strays, strays
  picked_strays : (a : Shape) (positions : List ℕ) (state : State) (before : Sections) (step : Step ℕ) → 1 ≤ length positions → AreBelow a.1 positions → Strays m input whole state before step → Strays m input whole state before (step >>= (λ v. picked (operand a v) positions))
  picked_strays a positions state before step some below strays =
      strays_before m input whole state before step (λ v. picked (operand a v) positions) strays (λ v between. picked_grows m input whole (operand a v) positions state between some below)

  -- ---- variables

  module _ (id class : ℕ) (parts : List Part) (p : Picked) (words : List ℕ) (from : Pointer) (state : State) (before : Sections) (stands : state.ids id ≡ Some (Points from)) (each : NumberEach state.ids parts words) where
    -- an index more that leads out, or any behind one that does
    loads_out : (shape : Shape) (part : Part) (k : ℕ) → Numbers state.ids part k → StraysFrom m input state from (words ++ k ∷ []) → Strays m input whole state before (loaded id class shape (parts ++ part ∷ []))
    loads_out shape part k number out = loaded_strays m input whole id class shape (parts ++ part ∷ []) (words ++ k ∷ []) from state before stands (numbers_on state.ids parts (part ∷ []) words (k ∷ []) each (number, tt)) out

    picks_out : (to : Pointer) (word : ℕ) → LeadsTo m input state from words to → StraysFrom m input state to (word ∷ []) → PicksOutside state.ids p word → Strays m input whole state before (loaded_picked id class parts p)
    unfolding loaded_picked
    picks_out to word leads out picks = by_count (p.shape.1 == 1) (not_one p.shape.1 picks.several)
      where
        by_part : (part : Option Part) → Chooses state.ids part (Some word) → ArePositions p.shape.1 part p.positions → Strays m input whole state before (loaded_by id class p.shape part p.positions parts)
        by_part None chooses within = absurd chooses
        by_part (Some part) chooses within =
            picked_strays (p.shape.0, 1) p.positions state before (loaded id class (p.shape.0, 1) (parts ++ part ∷ [])) picks.can.some within (loads_out (p.shape.0, 1) part word chooses (stray_behind m input state from to words (word ∷ []) leads out))

        by_count : (b : Bool) → b ≡ false → Strays m input whole state before (if b then loaded_scalar id class p.shape.0 p.positions parts else loaded_by id class p.shape p.by p.positions parts)
        by_count true e = absurd (true≢false e)
        by_count false e = by_part p.by picks.by_word picks.can.within

    pub picked_out : (shape : Shape) (to : Pointer) (word : ℕ) → LeadsTo m input state from words to → StraysFrom m input state to (word ∷ []) → PicksOutside state.ids p word → Strays m input whole state before (read shape (record { base = base.Variable id class; path = parts; picked = Some p }))
    unfolding read
    picked_out shape to word leads out picks = picks_out to word leads out picks

  -- ---- values in no variable

  module _ (p : Picked) (w : Value) (is : IsOf p.shape w) (word : ℕ) (several : 2 ≤ p.shape.1) (outside : p.shape.1 ≤ word) (some : 1 ≤ length p.positions) (first : AreBelow 1 p.positions) where
    extract_strays : (type vector at_id : ℕ) (state : State) (before : Sections) → Stands state.ids vector w → Stands state.ids at_id (Word word) → Strays m input whole state before (giving op.VECTOR_EXTRACT_DYNAMIC (vector ∷ at_id ∷ []) type)
    unfolding form_of
    extract_strays type vector at_id state before stands there =
        giving_strays m input whole op.VECTOR_EXTRACT_DYNAMIC (vector ∷ at_id ∷ []) type state before
        (λ id at rest.
        ap (λ o. on_whole o (λ v. on_whole (state.ids at_id) (λ i. picking at (record state { rest = rest }) id v (slice_get (parts_in v) (word_in i))))) stands
        ∙ ap (λ o. on_whole o (λ i. picking at (record state { rest = rest }) id w (slice_get (parts_in w) (word_in i)))) there
        ∙ ap (λ n. picking at (record state { rest = rest }) id w (slice_get (parts_in w) n)) (ap word_layer (outs-Word word))
        ∙ ap (picking at (record state { rest = rest }) id w) (ap (λ l. slice_get l word) (ap parts_in is.is ∙ parts_are is.words (omega (arith, several, is.count))) ∙ none_behind is.words word (omega (arith, outside, is.count))))

    component_strays : (part : Part) (vector : ℕ) (state : State) (before : Sections) → Stands state.ids vector w → Numbers state.ids part word → Strays m input whole state before (component_by p.shape vector part p.positions)
    component_strays part vector state before stands number =
        strays_then m input whole (λ id ids. Stands ids id (Word word)) (drawing state state.choices) state before (index part) behind_index
        (index_does m input whole part word state before number)
        (λ at_id between. index_grows_on at_id between)
        (λ at_id between ids is_word keeps.
        strays_then m input whole (IsType m input whole (p.shape.0, 1)) (drawing (record state { ids = ids }) state.choices) (record state { ids = ids }) between (type_of (p.shape.0, 1)) (behind_type at_id)
        (type_does m input whole (p.shape.0, 1) (record state { ids = ids }) between)
        (λ type later. type_grows_on at_id type later)
        (λ type later now typed kept.
        picked_strays (p.shape.0, 1) p.positions (record state { ids = now }) later (giving op.VECTOR_EXTRACT_DYNAMIC (vector ∷ at_id ∷ []) type) some first
        (extract_strays type vector at_id (record state { ids = now }) later (kept.same vector _ (keeps.same vector _ stands)) (kept.same at_id _ is_word))))
      where
        behind_extract : ℕ → Step ℕ
        behind_extract v = picked (operand (p.shape.0, 1) v) p.positions

        behind_type : ℕ → ℕ → Step ℕ
        behind_type at_id type = giving op.VECTOR_EXTRACT_DYNAMIC (vector ∷ at_id ∷ []) type >>= behind_extract

        behind_index : ℕ → Step ℕ
        behind_index at_id = type_of (p.shape.0, 1) >>= behind_type at_id

        type_grows_on : (at_id type : ℕ) (later : Sections) → Grows later (behind_type at_id type later)
        type_grows_on at_id type later = grows_then m input whole later (giving op.VECTOR_EXTRACT_DYNAMIC (vector ∷ at_id ∷ []) type later) behind_extract (giving_grows m input whole op.VECTOR_EXTRACT_DYNAMIC (vector ∷ at_id ∷ []) type later) (λ v last. picked_grows m input whole (operand (p.shape.0, 1) v) p.positions state last some first)

        index_grows_on : (at_id : ℕ) (between : Sections) → Grows between (behind_index at_id between)
        index_grows_on at_id between = grows_then m input whole between (type_of (p.shape.0, 1) between) (behind_type at_id) (type_does m input whole (p.shape.0, 1) state between).grows (λ type later. type_grows_on at_id type later)

    by_part_strays : (part : Option Part) (vector : ℕ) (state : State) (before : Sections) → Stands state.ids vector w → Chooses state.ids part (Some word) → Strays m input whole state before (picked_by p.shape vector part p.positions)
    by_part_strays None vector state before stands chooses = absurd chooses
    by_part_strays (Some part) vector state before stands chooses = component_strays part vector state before stands chooses

    by_part_grows : (part : Option Part) (vector : ℕ) (ids : Ids) (state : State) (before : Sections) → Chooses ids part (Some word) → Grows before (picked_by p.shape vector part p.positions before)
    by_part_grows None vector ids state before chooses = absurd chooses
    by_part_grows (Some part) vector ids state before chooses =
        grows_then m input whole before (index part before) (λ at_id. type_of (p.shape.0, 1) >>= (λ type. giving op.VECTOR_EXTRACT_DYNAMIC (vector ∷ at_id ∷ []) type >>= (λ v. picked (operand (p.shape.0, 1) v) p.positions))) (index_grows m input whole part state before)
        (λ at_id between. dynamic_grows m input whole p w is vector at_id state between some first)

  pub values_picked_out : (id type : ℕ) (shape : Shape) (parts : List Part) (p : Picked) (word : ℕ) (v : Value) (state : State) (before : Sections) → Stands state.ids id v → IsOf p.shape (value_at v (map number_in parts)) → PicksOutside state.ids p word
      → Strays m input whole state before (read shape (record { base = base.Value id type; path = parts; picked = Some p }))
  unfolding read
  values_picked_out id type shape parts p word v state before stands is picks = by_count (p.shape.1 == 1) (not_one p.shape.1 picks.several) (firsts p.by picks.by_word picks.can.within)
    where
      firsts : (part : Option Part) → Chooses state.ids part (Some word) → ArePositions p.shape.1 part p.positions → AreBelow 1 p.positions
      firsts None chooses within = absurd chooses
      firsts (Some part) chooses within = within

      by_count : (b : Bool) → b ≡ false → AreBelow 1 p.positions → Strays m input whole state before (extracted_shape id p.shape parts >>= (λ v. if b then picked (operand p.shape v) p.positions else picked_by p.shape v p.by p.positions))
      by_count true e first = absurd (true≢false e)
      by_count false e first =
          strays_then m input whole (λ given ids. Stands ids given (value_at v (map number_in parts))) (drawing state state.choices) state before (extracted_shape id p.shape parts) (λ v. picked_by p.shape v p.by p.positions)
          (extracted_computes m input whole id p.shape parts v state before stands)
          (λ given between. by_part_grows p (value_at v (map number_in parts)) is word picks.several picks.outside picks.can.some first p.by given state.ids state between picks.by_word)
          (λ given between ids there keeps. by_part_strays p (value_at v (map number_in parts)) is word picks.several picks.outside picks.can.some first p.by given (record state { ids = ids }) between there (still_chooses m input whole state.ids ids keeps p.by (Some word) picks.by_word))

  -- ---- paths that lead out

  module _ (id class : ℕ) (parts : List Part) (p : Picked) (words : List ℕ) (from : Pointer) (state : State) (before : Sections) (stands : state.ids id ≡ Some (Points from)) (each : NumberEach state.ids parts words) (out : StraysFrom m input state from words) where
    whole_out : (shape : Shape) → Strays m input whole state before (loaded id class shape parts)
    whole_out shape = loaded_strays m input whole id class shape parts words from state before stands each out

    -- one index more, whatever it is
    longer_out : (shape : Shape) (part : Part) (k : ℕ) → Numbers state.ids part k → Strays m input whole state before (loaded id class shape (parts ++ part ∷ []))
    longer_out shape part k number = loads_out id class parts p words from state before stands each shape part k number (stray_on m input state from words (k ∷ []) out)

    vector_out : (positions : List ℕ) → 1 ≤ length positions → AreBelow p.shape.1 positions → Strays m input whole state before (loaded_vector id class p.shape positions parts)
    vector_out [] some within = absurd (let z : 1 ≤ 0 = some in omega (arith, z))
    vector_out (position ∷ []) some within = longer_out (p.shape.0, 1) (Fixed position) position refl
    vector_out (position ∷ next ∷ positions) some within = picked_strays p.shape (position ∷ next ∷ positions) state before (loaded id class p.shape parts) some within (whole_out p.shape)

    components_out : (by : Option ℕ) → Chooses state.ids p.by by → CanPick p → Strays m input whole state before (loaded_picked id class parts p)
    unfolding loaded_picked
    components_out by chooses can = by_count (p.shape.1 == 1) refl
      where
        by_part : (part : Option Part) (by : Option ℕ) → Chooses state.ids part by → ArePositions p.shape.1 part p.positions → Strays m input whole state before (loaded_by id class p.shape part p.positions parts)
        by_part None None chooses within = vector_out p.positions can.some within
        by_part None (Some k) chooses within = absurd chooses
        by_part (Some part) None chooses within = absurd chooses
        by_part (Some part) (Some k) chooses within = picked_strays (p.shape.0, 1) p.positions state before (loaded id class (p.shape.0, 1) (parts ++ part ∷ [])) can.some within (longer_out (p.shape.0, 1) part k chooses)

        by_count : (b : Bool) → (p.shape.1 == 1) ≡ b → Strays m input whole state before (if b then loaded_scalar id class p.shape.0 p.positions parts else loaded_by id class p.shape p.by p.positions parts)
        by_count true e = picked_strays (p.shape.0, 1) p.positions state before (loaded id class (p.shape.0, 1) parts) can.some (first_of p.shape.1 p.by p.positions (eqb-true p.shape.1 1 e) can.within) (whole_out (p.shape.0, 1))
        by_count false e = by_part p.by by chooses can.within

    pub path_out : (shape : Shape) (by : Option ℕ) → Chooses state.ids p.by by → CanPick p → Strays m input whole state before (read shape (record { base = base.Variable id class; path = parts; picked = Some p }))
    unfolding read
    path_out shape by chooses can = components_out by chooses can
