-- Pointers into the bytes of blocks.
use Rattle.std.proofs.Common.{◌≡◌, refl, sym, ap, ◌∙◌, ℕ, suc, ◌+◌, ◌*◌, ◌<◌, if◌then◌else◌, List, [], ◌∷◌, length, map, Some, arith}
use Rattle.std.specs.Prelude.{nat_lt, slice_index}
use Rattle.std.specs.List.{range_with_len}
use Rattle.std.proofs.lemmas.Bool.{cond-true, lt-ltb}
use Rattle.std.proofs.lemmas.List.FromFn.{get_or-map-range_with_len, length-range_with_len}
use Rattle.gsl_base.specs.declared.input.Input.{Input}
use Rattle.gsl_words.specs.Words.{word_at}
use Rattle.gsl_words.specs.declared.module.Module.{Module}
use Rattle.gsl_values.specs.declared.value.Value.{Value}
use Rattle.gsl_values.specs.declared.value.Value.TheVariants.{Word}
use Rattle.gsl_tree.specs.Values.{components_in, of_components}
use Rattle.gsl_views.specs.Buffers.{put_words}
use Rattle.gsl_lower_law_constructors.specs.OfMachine.{bytes_of, into_block, part_as, parts_as, with_block, words_at}
use Rattle.gsl_lower_law_constructors.specs.OfMachine.{InBlock, State, Strayed, on}
use Rattle.gsl_lower_law_constructors.proofs.OfLaw.{components_of}
use Rattle.gsl_lower_law_places.specs.Components.{HoldsComponents}
use Rattle.gsl_lower_law_places.specs.Leading.{HoldsValue, LeadsTo}
use Rattle.gsl_lower_law_places.specs.Storing.{IsVectorType, Stores, buffers_with}

module _ (m : Module) (input : Input) (state : State) (variable offset pointee : ℕ) (bytes : List ℕ) (there : bytes_of m input state variable ≡ Some bytes) where
  -- the scalar or vector that lies there
  pub held_value : HoldsValue m input state (InBlock variable offset pointee) (of_components (words_at m offset pointee bytes))
  held_value go = ap (λ o. on o (λ bytes. go (of_components (words_at m offset pointee bytes)))) there

  pub block_stores : (v : Value) → Stores m input state (InBlock variable offset pointee) v state.variables (buffers_with m state variable (put_words offset (components_in v) bytes))
  block_stores v ids choices rest go = ap (λ o. on o (λ bytes. go (with_block m (record state { ids = ids; choices = choices; rest = rest }) variable (put_words offset (components_in v) bytes)))) there

  module _ (component count : ℕ) (vector : IsVectorType m pointee component count) where
    all_words : components_in (of_components (words_at m offset pointee bytes)) ≡ map (λ k. word_at bytes (offset + 4 * k)) (range_with_len 0 count)
    all_words = components_of (words_at m offset pointee bytes) ∙ ap (λ n. map (λ k. word_at bytes (offset + 4 * k)) (range_with_len 0 n)) vector.size

    mapped : (f : ℕ → ℕ) (l : List ℕ) → length (map f l) ≡ length l
    mapped f [] = refl
    mapped f (y ∷ l) = ap suc (mapped f l)

    counted : length (components_in (of_components (words_at m offset pointee bytes))) ≡ count
    counted = ap length all_words ∙ mapped (λ k. word_at bytes (offset + 4 * k)) (range_with_len 0 count) ∙ length-range_with_len 0 count

    pub component_led : (k : ℕ) → k < count → LeadsTo m input state (InBlock variable offset pointee) (k ∷ []) (InBlock variable (offset + 4 * k) component)
    component_led k less place go =
        ap (λ o. on o (into_block m input place variable offset pointee k go)) there
        ∙ ap (λ s. if nat_lt k (parts_as m (length bytes) offset pointee s) then on (part_as m variable offset pointee k s) go else Strayed place) vector.is
        ∙ cond-true (nat_lt k count) (go (InBlock variable (offset + 4 * k) component)) (Strayed place) (lt-ltb k count less)

    component_held : (k : ℕ) → k < count → HoldsValue m input state (InBlock variable (offset + 4 * k) component) (Word (slice_index (components_in (of_components (words_at m offset pointee bytes))) k))
    component_held k less go =
        ap (λ o. on o (λ bytes. go (of_components (words_at m (offset + 4 * k) component bytes)))) there
        ∙ ap (λ n. go (of_components (map (λ j. word_at bytes (offset + 4 * k + 4 * j)) (range_with_len 0 n)))) vector.part
        ∙ ap (λ at. go (Word (word_at bytes at))) same
        ∙ ap (λ w. go (Word w)) (sym (ap (λ ws. slice_index ws k) all_words ∙ get_or-map-range_with_len (λ k. word_at bytes (offset + 4 * k)) 0 count k k 0 less (omega arith)))
      where
        same : offset + 4 * k + 4 * 0 ≡ offset + 4 * k
        same = omega arith

    pub block_components : HoldsComponents m input state (InBlock variable offset pointee) (of_components (words_at m offset pointee bytes))
    block_components = record { all = held_value; each = λ k many less. (InBlock variable (offset + 4 * k) component, component_led k (omega (arith, less, counted)), component_held k (omega (arith, less, counted))) }
