-- Components that are replaced.
use Rattle.std.proofs.Common.{◌≡◌, refl, sym, ap, ap₂, ◌∙◌, subst, ℕ, zero, suc, ◌+◌, ◌<◌, ◌≤◌, Bool, true, false, List, [], ◌∷◌, ◌++◌, length, map, Option, Some, None, if◌then◌else◌, arith}
use Rattle.std.proofs.lemmas.Bool.{leb-true}
use Rattle.std.proofs.lemmas.List.{get_or-append-add, get_or_append_left}
use Rattle.std.proofs.lemmas.List.FromFn.{get_or-map-range_with_len}
use Rattle.std.specs.List.{range_with_len}
use Rattle.std.specs.Prelude.{nat_le, slice_index, ◌==◌}
use Rattle.gsl_base.specs.declared.input.Input.{Input}
use Rattle.gsl_instr.specs.declared.op.TheConstants as op
use Rattle.gsl_words.specs.declared.module.Module.{Module}
use Rattle.gsl_values.specs.declared.value.Value.{Value}
use Rattle.gsl_tree.specs.Values.{components_in, of_components}
use Rattle.gsl_machine.specs.Operations.{shuffled}
use Rattle.gsl_machine.specs.State.{Ids, State}
use Rattle.gsl_spv.specs.Sections.{Sections}
use Rattle.gsl_lower_values.specs.Building.{given, giving, ◌>>=◌}
use Rattle.gsl_lower_values.specs.Constructors.{operand, own_or_first, place_among, replaced, source, source_by, sources, wide, widened}
use Rattle.gsl_lower_values.specs.Types.{type_of}
use Rattle.gsl_lower_values.specs.declared.operand.Operand.{Operand}
use Rattle.gsl_lower_law.specs.Values.{IsOf, Stands}
use Rattle.gsl_lower_law.specs.Computing.{Computes, Does}
use Rattle.gsl_lower_law.specs.Operands.{new_or_old, replaced_value}
use Rattle.gsl_lower_law.proofs.Components.{components_of}
use Rattle.gsl_lower_law.proofs.Fixed.{does_so}
use Rattle.gsl_lower_law.proofs.Giving.{Performs}
use Rattle.gsl_lower_law.proofs.Joining.{does_then, given_does}
use Rattle.gsl_lower_law.proofs.Picking.{shuffles}
use Rattle.gsl_lower_law.proofs.Typed.{typed_does, typed_grows}

-- ---- places

none_some : (place : ℕ) → None ≡ Some place → ⊥
none_some place e = cc

place_below : (position : ℕ) (positions : List ℕ) (from place : ℕ) → place_among position positions from ≡ Some place → place < from + length positions
place_below position [] from place e = absurd (none_some place e)
place_below position (other ∷ positions) from place e = by (other == position) e (λ later. place_below position positions (from + 1) place later)
  where
    by : (b : Bool) → (if b then Some from else place_among position positions (from + 1)) ≡ Some place → (place_among position positions (from + 1) ≡ Some place → place < from + 1 + length positions) → place < from + suc (length positions)
    by true e later = let same : from ≡ place = cc in omega (arith, same)
    by false e later = let less : place < from + 1 + length positions = later e in omega (arith, less)

map_range : (f h : ℕ → ℕ) (from n : ℕ) → ((k : ℕ) → k < from + n → f k ≡ h k) → map f (range_with_len from n) ≡ map h (range_with_len from n)
map_range f h from zero same = refl
map_range f h from (suc n) same = ap₂ (λ w l. w ∷ l) (same from (omega arith)) (map_range f h (from + 1) n (λ k less. same k (omega (arith, less))))

map_map : (f g : ℕ → ℕ) (xs : List ℕ) → map f (map g xs) ≡ map (λ x. f (g x)) xs
map_map f g [] = refl
map_map f g (x ∷ xs) = ap (λ l. f (g x) ∷ l) (map_map f g xs)

-- The first words of a list are those of another.
abbrev pub Begins : List ℕ → List ℕ → Type 0
Begins ws us = (j : ℕ) → j < length ws → slice_index us j ≡ slice_index ws j

own_at : (few j : ℕ) → j < few → own_or_first few j ≡ j
own_at few j less = by (nat_le few j) refl
  where
    by : (b : Bool) → nat_le few j ≡ b → (if b then 0 else j) ≡ j
    by true e = absurd (let z : few ≤ j = leb-true few j e in omega (arith, z, less))
    by false e = refl

widened_begins : (count : ℕ) (ws : List ℕ) → length ws ≤ count → Begins ws (map (slice_index (ws ++ ws)) (widened count (length ws)))
widened_begins count ws few j less =
    ap (λ l. slice_index l j) (map_map (slice_index (ws ++ ws)) (own_or_first (length ws)) (range_with_len 0 count))
    ∙ get_or-map-range_with_len (λ k. slice_index (ws ++ ws) (own_or_first (length ws) k)) 0 count j j 0 (omega (arith, few, less)) (omega arith)
    ∙ ap (slice_index (ws ++ ws)) (own_at (length ws) j less)
    ∙ get_or_append_left ws ws 0 j less

sources_give : (old new us positions : List ℕ) (count : ℕ) → length old ≡ count → length positions ≡ length new → Begins new us
    → map (slice_index (old ++ us)) (sources count positions) ≡ map (λ k. new_or_old old new (place_among k positions 0) k) (range_with_len 0 count)
sources_give old new us positions count is few begins =
    map_map (slice_index (old ++ us)) (source count positions) (range_with_len 0 count)
    ∙ map_range (λ k. slice_index (old ++ us) (source count positions k)) (λ k. new_or_old old new (place_among k positions 0) k) 0 count (λ k less. by k (omega (arith, less)) (place_among k positions 0) refl)
  where
    by : (k : ℕ) → k < count → (found : Option ℕ) → place_among k positions 0 ≡ found → slice_index (old ++ us) (source_by count k found) ≡ new_or_old old new found k
    by k less None e = get_or_append_left old us 0 k (omega (arith, is, less))
    by k less (Some place) e =
        ap (λ n. slice_index (old ++ us) (n + place)) (sym is) ∙ get_or-append-add old us place 0
        ∙ begins place (let below : place < 0 + length positions = place_below k positions 0 place e in omega (arith, below, few))

module _ (m : Module) (input : Input) (whole : Sections) where
  -- a vector that begins with these components
  abbrev pub Wide : Value → ℕ → Ids → Type 0
  Wide w id ids = (u : Value) × Stands ids id u × Begins (components_in w) (components_in u)

  wide_does : (count : ℕ) (b : Operand) (w : Value) (state : State) (before : Sections) → IsOf b.shape w → b.shape.1 ≤ count → Stands state.ids b.id w → Does m input whole (Wide w) state.choices state before (wide count b)
  unfolding wide
  wide_does count b w state before is few stands = by (b.shape.1 == count)
    where
      length_w : length (components_in w) ≡ b.shape.1
      length_w = ap length (ap components_in is.is ∙ components_of is.words) ∙ is.count

      begins : Begins (components_in w) (components_in (of_components (map (slice_index (components_in w ++ components_in w)) (widened count b.shape.1))))
      begins =
          subst (Begins (components_in w)) (ap (λ n. map (slice_index (components_in w ++ components_in w)) (widened count n)) length_w ∙ sym (components_of (map (slice_index (components_in w ++ components_in w)) (widened count b.shape.1))))
          (widened_begins count (components_in w) (omega (arith, length_w, few)))

      by : (c : Bool) → Does m input whole (Wide w) state.choices state before (if c then given b.id else type_of (b.shape.0, count) >>= giving op.VECTOR_SHUFFLE (b.id ∷ b.id ∷ widened count b.shape.1))
      by true = given_does m input whole (Wide w) b.id state before (w, stands, λ j less. refl)
      by false =
          does_so m input whole (λ id ids. Stands ids id (shuffled w w (widened count b.shape.1))) (Wide w) state.choices state before (type_of (b.shape.0, count) >>= giving op.VECTOR_SHUFFLE (b.id ∷ b.id ∷ widened count b.shape.1))
          (λ text id ids lasting is. (shuffled w w (widened count b.shape.1), is, begins))
          (typed_does m input whole (b.shape.0, count) op.VECTOR_SHUFFLE (b.id ∷ b.id ∷ widened count b.shape.1) (shuffled w w (widened count b.shape.1)) state.choices state before
          (λ type ids keeps typed text. shuffles m input type b.id b.id (widened count b.shape.1) w w (record state { ids = ids }) (keeps.same b.id _ stands) (keeps.same b.id _ stands)))

  pub replaced_computes : (a : Operand) (positions : List ℕ) (new : ℕ) (v w : Value) (state : State) (before : Sections) → IsOf a.shape v → IsOf (a.shape.0, length positions) w → length positions ≤ a.shape.1
      → Stands state.ids a.id v → Stands state.ids new w → Computes m input whole (replaced_value v positions w, state.choices) state before (replaced a positions new)
  unfolding replaced
  replaced_computes a positions new v w state before is_v is_w few first second =
      does_then m input whole (Wide w) (λ id ids. Stands ids id (replaced_value v positions w)) state.choices state.choices state before (wide a.shape.1 (operand (a.shape.0, length positions) new)) (λ id. type_of a.shape >>= giving op.VECTOR_SHUFFLE (a.id ∷ id ∷ sources a.shape.1 positions))
      (wide_does a.shape.1 (operand (a.shape.0, length positions) new) w state before is_w few second)
      (λ id between. typed_grows m input whole a.shape op.VECTOR_SHUFFLE (a.id ∷ id ∷ sources a.shape.1 positions) state between)
      (λ id between ids is keeps.
      typed_does m input whole a.shape op.VECTOR_SHUFFLE (a.id ∷ id ∷ sources a.shape.1 positions) (replaced_value v positions w) state.choices (record state { ids = ids }) between
      (λ type later more typed text. subst (λ o. Performs m input op.VECTOR_SHUFFLE (a.id ∷ id ∷ sources a.shape.1 positions) type (record state { ids = later }) o state.choices) (gives is.0 is.2)
      (shuffles m input type a.id id (sources a.shape.1 positions) v is.0 (record state { ids = later }) (more.same a.id _ (keeps.same a.id _ first)) (more.same id _ is.1))))
    where
      length_v : length (components_in v) ≡ a.shape.1
      length_v = ap length (ap components_in is_v.is ∙ components_of is_v.words) ∙ is_v.count

      length_w : length (components_in w) ≡ length positions
      length_w = ap length (ap components_in is_w.is ∙ components_of is_w.words) ∙ is_w.count

      gives : (u : Value) → Begins (components_in w) (components_in u) → shuffled v u (sources a.shape.1 positions) ≡ replaced_value v positions w
      gives u begins =
          ap of_components (sources_give (components_in v) (components_in w) (components_in u) positions a.shape.1 length_v (sym length_w) begins
          ∙ ap (λ n. map (λ k. new_or_old (components_in v) (components_in w) (place_among k positions 0) k) (range_with_len 0 n)) (sym length_v))
