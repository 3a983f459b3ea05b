-- Parts of values have the shapes of the parts of their types; what is read from a block has the shape of its type.
use Rattle.std.proofs.Common.{◌≡◌, refl, sym, ap, ◌∙◌, ℕ, zero, suc, ◌+◌, ◌*◌, Bool, true, false, if◌then◌else◌, nat_lt, List, [], ◌∷◌, map, replicate, length, set, slice_get, slice_index, Option, Some, None, unwrap_or, arith}
use Rattle.std.specs.List.{range_with_len}
use Rattle.std.specs.Prelude.{slice_index_or}
use Rattle.std.proofs.lemmas.Bool.{and_from, and_parts, eqb-true, lt-ltb, ltb-true, false≢true}
use Rattle.std.proofs.lemmas.List.FromFn.{length-range_with_len}
use Rattle.gsl_words.specs.declared.module.Module.{Module}
use Rattle.gsl_words.specs.Words.{word_at}
use Rattle.gsl_values.specs.declared.value.Value.{Value}
use Rattle.gsl_values.specs.declared.value.Value.TheOpen.{Value-F}
use Rattle.gsl_values.specs.declared.value.Value.TheVariants.{Word, Many}
use Rattle.gsl_values.specs.declared.value.Value.TheViews.{out-Value}
use Rattle.gsl_tree.specs.Operations.{member_value, value_at, with_value_at}
use Rattle.gsl_tree.specs.Values.{all_pass, has_parts_layer, of_components, parts_in, parts_layer}
use Rattle.gsl_valid.specs.Kinds.{Shape, OfVector, OfArray, OfStruct, shape_of, value_of}
use Rattle.gsl_valid.specs.OperandRules.{component_in, if_below, part_of_at, part_within, size_in}
use Rattle.gsl_valid.specs.Types.{Lanes, defined_as, is_type, is_value_shape, lanes_of}
use Rattle.gsl_machine.specs.Constants.{length_by}
use Rattle.gsl_machine.specs.Memory as memory
use Rattle.gsl_machine.specs.Memory.{words_at}
use Rattle.gsl_sound_code.proofs.Looks.{Kept}
use Rattle.gsl_sound_values.specs.Shaped.{is_shaped, shaped_as}
use Rattle.gsl_sound_values.proofs.Constants.{parts_pass, unfolds}
use Rattle.gsl_sound_values.proofs.Counted.{HasLanes, of_counted}

-- ---- lists whose items pass tests

module _ (f : Value → Bool) where
  passed_at : (n k : ℕ) (vs : List Value) (d : Value) → all_pass (replicate n f) vs ≡ true → nat_lt k n ≡ true → f (slice_index_or vs k d) ≡ true
  passed_at zero k vs d is below = let low = ltb-true k 0 below in absurd (omega (arith, low))
  passed_at (suc n) k [] d is below = absurd (false≢true is)
  passed_at (suc n) zero (v ∷ vs) d is below = (and_parts (f v) (all_pass (replicate n f) vs) is).0
  passed_at (suc n) (suc k) (v ∷ vs) d is below =
      let low = ltb-true (suc k) (suc n) below in passed_at n k vs d (and_parts (f v) (all_pass (replicate n f) vs) is).1 (lt-ltb k n (omega (arith, low)))

  passed_set : (n k : ℕ) (vs : List Value) (new : Value) → all_pass (replicate n f) vs ≡ true → f new ≡ true → all_pass (replicate n f) (set vs k new) ≡ true
  passed_set zero k [] new is passes = is
  passed_set zero k (v ∷ vs) new is passes = absurd (false≢true is)
  passed_set (suc n) k [] new is passes = absurd (false≢true is)
  passed_set (suc n) zero (v ∷ vs) new is passes = and_from _ _ passes (and_parts (f v) (all_pass (replicate n f) vs) is).1
  passed_set (suc n) (suc k) (v ∷ vs) new is passes = let parts = and_parts (f v) (all_pass (replicate n f) vs) is in and_from _ _ parts.0 (passed_set n k vs new parts.1 passes)

  passed_get : (n k : ℕ) (vs : List Value) (v : Value) → all_pass (replicate n f) vs ≡ true → slice_get vs k ≡ Some v → f v ≡ true
  passed_get zero k [] v is here = absurd (cc)
  passed_get zero k (w ∷ vs) v is here = absurd (false≢true is)
  passed_get (suc n) k [] v is here = absurd (false≢true is)
  passed_get (suc n) zero (w ∷ vs) v is here = let same : w ≡ v = cc in ap f (sym same) ∙ (and_parts (f w) (all_pass (replicate n f) vs) is).0
  passed_get (suc n) (suc k) (w ∷ vs) v is here = passed_get n k vs v (and_parts (f w) (all_pass (replicate n f) vs) is).1 here

module _ (f : ℕ → Value → Bool) where
  member_at : (types : List ℕ) (k : ℕ) (vs : List Value) (d : Value) → all_pass (map f types) vs ≡ true → nat_lt k (length types) ≡ true → f (slice_index types k) (slice_index_or vs k d) ≡ true
  member_at [] k vs d is below = let low = ltb-true k 0 below in absurd (omega (arith, low))
  member_at (type ∷ types) k [] d is below = absurd (false≢true is)
  member_at (type ∷ types) zero (v ∷ vs) d is below = (and_parts (f type v) (all_pass (map f types) vs) is).0
  member_at (type ∷ types) (suc k) (v ∷ vs) d is below =
      let low = ltb-true (suc k) (suc (length types)) below in member_at types k vs d (and_parts (f type v) (all_pass (map f types) vs) is).1 (lt-ltb k (length types) (omega (arith, low)))

  member_set : (types : List ℕ) (k : ℕ) (vs : List Value) (new : Value) → all_pass (map f types) vs ≡ true → nat_lt k (length types) ≡ true → f (slice_index types k) new ≡ true → all_pass (map f types) (set vs k new) ≡ true
  member_set [] k vs new is below passes = let low = ltb-true k 0 below in absurd (omega (arith, low))
  member_set (type ∷ types) k [] new is below passes = absurd (false≢true is)
  member_set (type ∷ types) zero (v ∷ vs) new is below passes = and_from _ _ passes (and_parts (f type v) (all_pass (map f types) vs) is).1
  member_set (type ∷ types) (suc k) (v ∷ vs) new is below passes =
      let parts = and_parts (f type v) (all_pass (map f types) vs) is in
      let low = ltb-true (suc k) (suc (length types)) below in
      and_from _ _ parts.0 (member_set types k vs new parts.1 (lt-ltb k (length types) (omega (arith, low))) passes)

-- the parts of what has parts
parts_of_layer : (tests : List (Value → Bool)) (layer : Value-F Value) → has_parts_layer tests layer ≡ true → all_pass tests (parts_layer layer) ≡ true
parts_of_layer tests (Value-F.Word word) is = absurd (false≢true is)
parts_of_layer tests (Value-F.Many parts) is = is

below_type : (k : ℕ) (o : Option ℕ) (type part : ℕ) → if_below k o type ≡ Some part → (n : ℕ) × (o ≡ Some n) × (nat_lt k n ≡ true) × (type ≡ part)
below_type k None type part is = absurd (cc)
below_type k (Some n) type part is = by_test (nat_lt k n) refl is
  where
    by_test : (b : Bool) → nat_lt k n ≡ b → (if b then Some type else None) ≡ Some part → (c : ℕ) × (Some n ≡ Some c) × (nat_lt k c ≡ true) × (type ≡ part)
    by_test true below is = (n, refl, below, cc)
    by_test false below is = absurd (cc)

module _ (m : Module) (kept : Kept m) where
  part_value : (s : Shape) (k part : ℕ) → part_of_at m k s ≡ Some part → is_value_shape s ≡ true
  part_value (OfVector component count) k part is = refl
  part_value (OfArray element size) k part is = refl
  part_value (OfStruct id members) k part is = refl
  part_value _ k part is = absurd (cc)

  struct_part : (members : List ℕ) (k part : ℕ) → (if nat_lt k (length members) then Some (slice_index members k) else None) ≡ Some part → (nat_lt k (length members) ≡ true) × (slice_index members k ≡ part)
  struct_part members k part is = by_test (nat_lt k (length members)) refl is
    where
      by_test : (b : Bool) → nat_lt k (length members) ≡ b → (if b then Some (slice_index members k) else None) ≡ Some part → (nat_lt k (length members) ≡ true) × (slice_index members k ≡ part)
      by_test true below is = (below, cc)
      by_test false below is = absurd (cc)

  -- a part has the shape of its type, and with another the whole has its shape
  part_shaped : (s : Shape) (k part : ℕ) (v new : Value) → part_of_at m k s ≡ Some part → shaped_as m (is_shaped m) s v ≡ true
      → (is_shaped m part (member_value v k) ≡ true) × (is_shaped m part new ≡ true → shaped_as m (is_shaped m) s (Many (set (parts_in v) k new)) ≡ true)
  part_shaped (OfVector component count) k part v new is shaped =
      let at = below_type k (Some count) component part is in
      let same : count ≡ at.0 = let e : Some count ≡ Some at.0 = at.1 in cc in
      let all = parts_of_layer (replicate count (is_shaped m component)) (out-Value v) shaped in (
        ap (λ t. is_shaped m t (member_value v k)) (sym at.3) ∙ passed_at (is_shaped m component) count k (parts_in v) (Word 0) all (ap (nat_lt k) same ∙ at.2),
        λ passes. parts_pass (replicate count (is_shaped m component)) (set (parts_in v) k new) (passed_set (is_shaped m component) count k (parts_in v) new all (ap (λ t. is_shaped m t new) at.3 ∙ passes)),
      )
  part_shaped (OfArray element size) k part v new is shaped =
      let at = below_type k (value_of (defined_as m size)) element part is in
      let same : length_by m size ≡ at.0 = ap (λ o. unwrap_or o 0) at.1 in
      let all = parts_of_layer (replicate (length_by m size) (is_shaped m element)) (out-Value v) shaped in (
        ap (λ t. is_shaped m t (member_value v k)) (sym at.3) ∙ passed_at (is_shaped m element) (length_by m size) k (parts_in v) (Word 0) all (ap (nat_lt k) same ∙ at.2),
        λ passes. parts_pass (replicate (length_by m size) (is_shaped m element)) (set (parts_in v) k new) (passed_set (is_shaped m element) (length_by m size) k (parts_in v) new all (ap (λ t. is_shaped m t new) at.3 ∙ passes)),
      )
  part_shaped (OfStruct id members) k part v new is shaped =
      let at = struct_part members k part is in
      let all = parts_of_layer (map (is_shaped m) members) (out-Value v) shaped in (
        ap (λ t. is_shaped m t (member_value v k)) (sym at.1) ∙ member_at (is_shaped m) members k (parts_in v) (Word 0) all at.0,
        λ passes. parts_pass (map (is_shaped m) members) (set (parts_in v) k new) (member_set (is_shaped m) members k (parts_in v) new all at.0 (ap (λ t. is_shaped m t new) at.1 ∙ passes)),
      )
  part_shaped _ k part v new is shaped = absurd (cc)

  -- what places lead to has the shape of its type, and with another there the whole has its shape
  pub within_shaped : (type : ℕ) (path : List ℕ) (part : ℕ) (v new : Value) → part_within m (Some type) path ≡ Some part → is_shaped m type v ≡ true
      → (is_shaped m part (value_at v path) ≡ true) × (is_shaped m part new ≡ true → is_shaped m type (with_value_at v path new) ≡ true)
  within_shaped type [] part v new is shaped =
      let same : type ≡ part = cc in (ap (λ t. is_shaped m t v) (sym same) ∙ shaped, λ passes. ap (λ t. is_shaped m t new) same ∙ passes)
  within_shaped type (k ∷ path) part v new is shaped =
      by_part (part_of_at m k (shape_of (defined_as m type))) refl (λ next e here. within_shaped next path part (member_value v k) new e here) is
    where
      by_part : (o : Option ℕ) → part_of_at m k (shape_of (defined_as m type)) ≡ o
          → ((next : ℕ) → part_within m (Some next) path ≡ Some part → is_shaped m next (member_value v k) ≡ true → (is_shaped m part (value_at (member_value v k) path) ≡ true) × (is_shaped m part new ≡ true → is_shaped m next (with_value_at (member_value v k) path new) ≡ true))
          → part_within m o path ≡ Some part
          → (is_shaped m part (value_at (member_value v k) path) ≡ true) × (is_shaped m part new ≡ true → is_shaped m type (Many (set (parts_in v) k (with_value_at (member_value v k) path new))) ≡ true)
      by_part None e later is = absurd (none_within path is)
        where
          none_within : (path : List ℕ) → part_within m None path ≡ Some part → ⊥
          none_within path is = absurd (cc)
      by_part (Some next) e later is =
          let value = part_value (shape_of (defined_as m type)) k next e in
          let here = sym (unfolds m kept type v value) ∙ shaped in
          let p = part_shaped (shape_of (defined_as m type)) k next v (with_value_at (member_value v k) path new) e here in
          let inner = later next is p.0 in
          (inner.0, λ passes. unfolds m kept type (Many (set (parts_in v) k (with_value_at (member_value v k) path new))) value ∙ p.1 (inner.1 passes))

  -- a component of a vector
  pub component_shaped : (type vector k : ℕ) (v c : Value) → is_type type (component_in (shape_of (defined_as m vector))) ≡ true → is_shaped m vector v ≡ true → slice_get (parts_in v) k ≡ Some c → is_shaped m type c ≡ true
  component_shaped type vector k v c is shaped here = by_shape (shape_of (defined_as m vector)) refl is
    where
      by_shape : (s : Shape) → shape_of (defined_as m vector) ≡ s → is_type type (component_in s) ≡ true → is_shaped m type c ≡ true
      by_shape (OfVector component count) e is =
          let unfolded = ap (λ s. shaped_as m (is_shaped m) s v) (sym e) ∙ sym (unfolds m kept vector v (ap is_value_shape e)) ∙ shaped in
          ap (λ t. is_shaped m t c) (sym (eqb-true component type is))
          ∙ passed_get (is_shaped m component) count k (parts_in v) c (parts_of_layer (replicate count (is_shaped m component)) (out-Value v) unfolded) here
      by_shape _ e is = absurd (false≢true is)

  -- what is read from a block
  pub read_shaped : (type offset : ℕ) (bytes : List ℕ) → HasLanes m type → is_shaped m type (of_components (words_at m offset type bytes)) ≡ true
  read_shaped type offset bytes has = of_counted m kept type (words_at m offset type bytes) has (mapped (range_with_len 0 (memory.size_of (lanes_of m type))) ∙ length-range_with_len 0 (memory.size_of (lanes_of m type)) ∙ same (lanes_of m type))
    where
      mapped : (ks : List ℕ) → length (map (λ k. word_at bytes (offset + 4 * k)) ks) ≡ length ks
      mapped [] = refl
      mapped (k ∷ ks) = ap suc (mapped ks)

      same : (o : Option Lanes) → memory.size_of o ≡ size_in o
      same None = refl
      same (Some lanes) = refl
