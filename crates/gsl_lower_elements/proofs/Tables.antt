-- Positions by a word: a constant vector of them, and the one at the word (SPIR-V 1.0, 3.32.12).
use Rattle.std.proofs.Common.{◌≡◌, refl, ap, ◌∙◌, ℕ, zero, suc, ◌<◌, ◌≤◌, List, [], ◌∷◌, length, Some, None, arith}
use Rattle.std.specs.Prelude.{slice_get, slice_index}
use Rattle.gsl_base.specs.declared.input.Input.{Input}
use Rattle.gsl_instr.specs.Forms.{form_of}
use Rattle.gsl_instr.specs.declared.op.TheConstants as op
use Rattle.gsl_types.specs.declared.ty.Scalar.TheVariants.{Uint}
use Rattle.gsl_words.specs.declared.module.Module.{Module}
use Rattle.gsl_values.specs.declared.value.Value.{Value}
use Rattle.gsl_values.specs.declared.value.Value.TheVariants.{Many, Word, outs-Many, outs-Word}
use Rattle.gsl_tree.specs.Values.{parts_in, parts_layer, word_in, word_layer}
use Rattle.gsl_machine.specs.State.{State, on_whole}
use Rattle.gsl_machine.specs.Steps.{picking}
use Rattle.gsl_spv.specs.Sections.{Sections}
use Rattle.gsl_lower_values.specs.Building.{Step, giving, ◌>>=◌}
use Rattle.gsl_lower_values.specs.Types.{type_of, vector_constant}
use Rattle.gsl_lower_places.specs.Reached.{position_by}
use Rattle.gsl_lower_law.specs.Computing.{Computes, Grows, drawing}
use Rattle.gsl_lower_law.specs.Straying.{Strays}
use Rattle.gsl_lower_law.specs.Values.{Stands}
use Rattle.gsl_lower_law.proofs.Constants.{values_of, vector_stands}
use Rattle.gsl_lower_law.proofs.Giving.{Performs, giving_does, giving_grows}
use Rattle.gsl_lower_law.proofs.Joining.{does_then, grows_then}
use Rattle.gsl_lower_law.proofs.Plain.{IsType, type_does}
use Rattle.gsl_lower_law.proofs.Straying.{giving_strays, strays_then}

module _ (m : Module) (input : Input) (whole : Sections) where
  -- the words of a table
  table_at : (positions : List ℕ) (k : ℕ) → k < length positions → slice_get (values_of m input whole Uint positions) k ≡ Some (Word (slice_index positions k))
  table_at [] k less = absurd (let z : k < 0 = less in omega (arith, z))
  table_at (position ∷ positions) zero less = refl
  table_at (position ∷ positions) (suc k) less = table_at positions k (let z : suc k < suc (length positions) = less in omega (arith, z))

  none_at : (positions : List ℕ) (k : ℕ) → length positions ≤ k → slice_get (values_of m input whole Uint positions) k ≡ None
  none_at [] k most = refl
  none_at (position ∷ positions) zero most = absurd (let z : suc (length positions) ≤ 0 = most in omega (arith, z))
  none_at (position ∷ positions) (suc k) most = none_at positions k (let z : suc (length positions) ≤ suc k = most in omega (arith, z))

  module _ (positions : List ℕ) (id k : ℕ) where
    abbrev table : Value
    table = Many (values_of m input whole Uint positions)

    parts_are : parts_in table ≡ values_of m input whole Uint positions
    parts_are = ap parts_layer (outs-Many (values_of m input whole Uint positions))

    taken : (type vector : ℕ) (state : State) → k < length positions → Stands state.ids vector table → Stands state.ids id (Word k) → Performs m input op.VECTOR_EXTRACT_DYNAMIC (vector ∷ id ∷ []) type state (Word (slice_index positions k)) state.choices
    unfolding form_of
    taken type vector state less first second = record {
      gives = λ id. refl;
      named = λ id. refl;
      done = λ given at rest.
          ap (λ o. on_whole o (λ v. on_whole (state.ids id) (λ i. picking at (record state { rest = rest }) given v (slice_get (parts_in v) (word_in i))))) first
          ∙ ap (λ o. on_whole o (λ i. picking at (record state { rest = rest }) given table (slice_get (parts_in table) (word_in i)))) second
          ∙ ap (λ n. picking at (record state { rest = rest }) given table (slice_get (parts_in table) n)) (ap word_layer (outs-Word k))
          ∙ ap (picking at (record state { rest = rest }) given table) (ap (λ l. slice_get l k) parts_are ∙ table_at positions k less);
    }

    taken_out : (type vector : ℕ) (state : State) (before : Sections) → length positions ≤ k → Stands state.ids vector table → Stands state.ids id (Word k) → Strays m input whole state before (giving op.VECTOR_EXTRACT_DYNAMIC (vector ∷ id ∷ []) type)
    unfolding form_of
    taken_out type vector state before most first second =
        giving_strays m input whole op.VECTOR_EXTRACT_DYNAMIC (vector ∷ id ∷ []) type state before
        (λ given at rest.
        ap (λ o. on_whole o (λ v. on_whole (state.ids id) (λ i. picking at (record state { rest = rest }) given v (slice_get (parts_in v) (word_in i))))) first
        ∙ ap (λ o. on_whole o (λ i. picking at (record state { rest = rest }) given table (slice_get (parts_in table) (word_in i)))) second
        ∙ ap (λ n. picking at (record state { rest = rest }) given table (slice_get (parts_in table) n)) (ap word_layer (outs-Word k))
        ∙ ap (picking at (record state { rest = rest }) given table) (ap (λ l. slice_get l k) parts_are ∙ none_at positions k most))

    abbrev behind_table : ℕ → Step ℕ
    behind_table vector = type_of (Uint, 1) >>= giving op.VECTOR_EXTRACT_DYNAMIC (vector ∷ id ∷ [])

    table_grows : (vector : ℕ) (state : State) (before : Sections) → Grows before (behind_table vector before)
    table_grows vector state before = grows_then m input whole before (type_of (Uint, 1) before) (giving op.VECTOR_EXTRACT_DYNAMIC (vector ∷ id ∷ [])) (type_does m input whole (Uint, 1) state before).grows (λ type later. giving_grows m input whole op.VECTOR_EXTRACT_DYNAMIC (vector ∷ id ∷ []) type later)

    pub position_grows : (state : State) (before : Sections) → Grows before (position_by positions id before)
    position_grows state before = grows_then m input whole before (vector_constant (Uint, length positions) positions before) behind_table (vector_stands m input whole (Uint, length positions) positions state before).grows (λ vector between. table_grows vector state between)

    -- the position at a word that is there
    pub position_computes : (state : State) (before : Sections) → k < length positions → Stands state.ids id (Word k) → Computes m input whole (Word (slice_index positions k), state.choices) state before (position_by positions id)
    position_computes state before less stands =
        does_then m input whole (λ given ids. Stands ids given table) (λ given ids. Stands ids given (Word (slice_index positions k))) state.choices state.choices state before (vector_constant (Uint, length positions) positions) behind_table
        (vector_stands m input whole (Uint, length positions) positions state before)
        (λ vector between. table_grows vector state between)
        (λ vector between ids there keeps.
        does_then m input whole (IsType m input whole (Uint, 1)) (λ given ids. Stands ids given (Word (slice_index positions k))) state.choices state.choices (record state { ids = ids }) between (type_of (Uint, 1)) (giving op.VECTOR_EXTRACT_DYNAMIC (vector ∷ id ∷ []))
        (type_does m input whole (Uint, 1) (record state { ids = ids }) between)
        (λ type later. giving_grows m input whole op.VECTOR_EXTRACT_DYNAMIC (vector ∷ id ∷ []) type later)
        (λ type later now typed kept.
        giving_does m input whole op.VECTOR_EXTRACT_DYNAMIC (vector ∷ id ∷ []) type (record state { ids = now }) (Word (slice_index positions k)) state.choices later
        (λ text. taken type vector (record state { ids = now }) less (kept.same vector _ there) (kept.same id _ (keeps.same id _ stands)))))

    -- a word that is not below the count of positions
    pub position_strays : (state : State) (before : Sections) → length positions ≤ k → Stands state.ids id (Word k) → Strays m input whole state before (position_by positions id)
    position_strays state before most stands =
        strays_then m input whole (λ given ids. Stands ids given table) (drawing state state.choices) state before (vector_constant (Uint, length positions) positions) behind_table
        (vector_stands m input whole (Uint, length positions) positions state before)
        (λ vector between. table_grows vector state between)
        (λ vector between ids there keeps.
        strays_then m input whole (IsType m input whole (Uint, 1)) (drawing (record state { ids = ids }) state.choices) (record state { ids = ids }) between (type_of (Uint, 1)) (giving op.VECTOR_EXTRACT_DYNAMIC (vector ∷ id ∷ []))
        (type_does m input whole (Uint, 1) (record state { ids = ids }) between)
        (λ type later. giving_grows m input whole op.VECTOR_EXTRACT_DYNAMIC (vector ∷ id ∷ []) type later)
        (λ type later now typed kept.
        taken_out type vector (record state { ids = now }) later most (kept.same vector _ there) (kept.same id _ (keeps.same id _ stands))))
