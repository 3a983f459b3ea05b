-- What is put together from values has the shape of its type.
use Rattle.std.proofs.Common.{◌≡◌, refl, sym, ap, ◌∙◌, subst, ℕ, Bool, true, ◌&&◌, ◌||◌, List, [], ◌∷◌, ◌++◌, map, replicate, length, Option, Some, None, sum, unwrap_or, inl, inr, arith, length-append}
use Rattle.std.specs.List.{list_all}
use Rattle.std.specs.Prelude.{◌==◌}
use Rattle.std.proofs.lemmas.List.Sums.{sum_by-cons}
use Rattle.std.proofs.lemmas.Bool.{and_from, and_parts, eq-eqb, eqb-true, or_cases, false≢true}
use Rattle.gsl_words.specs.declared.module.Module.{Module}
use Rattle.gsl_values.specs.declared.value.Value.{Value}
use Rattle.gsl_values.specs.declared.value.Value.TheVariants.{Many}
use Rattle.gsl_tree.specs.Operations.{all_components}
use Rattle.gsl_tree.specs.Values.{all_pass, components_in, has_parts}
use Rattle.gsl_valid.specs.ConstantRules.{have_all, have_each}
use Rattle.gsl_valid.specs.Kinds.{Shape, OfBool, OfInt, OfVector, OfArray, OfStruct, shape_of, type_of, value_of}
use Rattle.gsl_valid.specs.OperandRules.{component_in, is_built, is_of_scalar, is_vector, size_if, size_in, size_of}
use Rattle.gsl_valid.specs.TypeRules.{is_component, is_made}
use Rattle.gsl_valid.specs.Types.{Lanes, Truths, Words, defined_as, has_type, is_bool_shape, is_int_shape, is_type, is_value_shape, lanes_in, lanes_with, scalar_in}
use Rattle.gsl_machine.specs.Operations.{constructed}
use Rattle.gsl_sound_code.proofs.Looks.{Kept, made_at}
use Rattle.gsl_sound_values.specs.Shaped.{HaveShapes, is_shaped, shaped_as}
use Rattle.gsl_sound_values.proofs.Constants.{parts_pass, unfolds}
use Rattle.gsl_sound_values.proofs.Counted.{HasLanes, counted, of_counted}

module _ (m : Module) where
  has_type_of : (type id : ℕ) → has_type m type id ≡ true → type_of (defined_as m id) ≡ Some type
  has_type_of type id is = by_type (type_of (defined_as m id)) is
    where
      by_type : (o : Option ℕ) → is_type type o ≡ true → o ≡ Some type
      by_type None is = absurd (false≢true is)
      by_type (Some other) is = ap Some (eqb-true other type is)

  -- a scalar's type, and that of a vector of it
  component_lanes : (s : Shape) → (is_int_shape s || is_bool_shape s) ≡ true → (lanes : Lanes) × (lanes_in m s ≡ Some lanes)
  component_lanes OfBool is = (record { scalar = Truths; size = 1 }, refl)
  component_lanes (OfInt signedness) is = (record { scalar = Words signedness; size = 1 }, refl)
  component_lanes _ is = absurd (false≢true is)

  vector_lanes : (scalar : ℕ) (s : Shape) → is_component m scalar ≡ true → is_type scalar (component_in s) ≡ true → (lanes : Lanes) × (lanes_in m s ≡ Some lanes)
  vector_lanes scalar (OfVector component count) is same = by_shape (shape_of (defined_as m component)) (ap (is_component m) (eqb-true component scalar same) ∙ is)
    where
      by_shape : (s : Shape) → (is_int_shape s || is_bool_shape s) ≡ true → (lanes : Lanes) × (lanes_with count (scalar_in s) ≡ Some lanes)
      by_shape OfBool is = (record { scalar = Truths; size = count }, refl)
      by_shape (OfInt signedness) is = (record { scalar = Words signedness; size = count }, refl)
      by_shape _ is = absurd (false≢true is)
  vector_lanes scalar _ is same = absurd (false≢true same)

module _ (m : Module) (kept : Kept m) where
  -- the words of scalars and vectors of a scalar, in a row
  filled : (scalar : ℕ) (ids : List ℕ) (vs : List Value) → is_component m scalar ≡ true → HaveShapes m ids vs → list_all (λ part. is_of_scalar m scalar (type_of (defined_as m part))) ids ≡ true → length (all_components vs) ≡ sum (map (size_of m) ids)
  filled scalar [] [] component have all = refl
  filled scalar [] (v ∷ vs) component have all = absurd have
  filled scalar (id ∷ ids) [] component have all = absurd have
  filled scalar (id ∷ ids) (v ∷ vs) component have all =
      let parts = and_parts (is_of_scalar m scalar (type_of (defined_as m id))) (list_all (λ part. is_of_scalar m scalar (type_of (defined_as m part))) ids) all in
      let first = by_type (type_of (defined_as m id)) refl parts.0 in
      let later = filled scalar ids vs component have.1 parts.1 in
      let joined = length-append (components_in v) (all_components vs) in
      let total = sum_by-cons (λ n. n) (size_of m id) (map (size_of m) ids) in
      let e : length (components_in v ++ all_components vs) ≡ sum (size_of m id ∷ map (size_of m) ids) = omega (arith, first, later, joined, total) in e
    where
      lanes_of_type : (type : ℕ) → (type == scalar || is_type scalar (component_in (shape_of (defined_as m type)))) ≡ true → HasLanes m type
      lanes_of_type type is = elim (or_cases (type == scalar) (is_type scalar (component_in (shape_of (defined_as m type)))) is) [
        | inl same ↦ subst (HasLanes m) (sym (eqb-true type scalar same)) (component_lanes m (shape_of (defined_as m scalar)) component)
        | inr vector ↦ vector_lanes m scalar (shape_of (defined_as m type)) component vector
      ]

      by_type : (o : Option ℕ) → type_of (defined_as m id) ≡ o → is_of_scalar m scalar o ≡ true → length (components_in v) ≡ size_of m id
      by_type None typed is = absurd (false≢true is)
      by_type (Some type) typed is = counted m kept type v (lanes_of_type type is) (have.0 type typed) ∙ ap (size_if m) (sym typed)

  same_shaped : (type : ℕ) (ids : List ℕ) (vs : List Value) → HaveShapes m ids vs → list_all (has_type m type) ids ≡ true → all_pass (replicate (length ids) (is_shaped m type)) vs ≡ true
  same_shaped type [] [] have all = refl
  same_shaped type [] (v ∷ vs) have all = absurd have
  same_shaped type (id ∷ ids) [] have all = absurd have
  same_shaped type (id ∷ ids) (v ∷ vs) have all =
      let parts = and_parts (has_type m type id) (list_all (has_type m type) ids) all in and_from _ _ (have.0 type (has_type_of m type id parts.0)) (same_shaped type ids vs have.1 parts.1)

  each_shaped : (types ids : List ℕ) (vs : List Value) → HaveShapes m ids vs → have_each (has_type m) types ids ≡ true → all_pass (map (is_shaped m) types) vs ≡ true
  each_shaped [] [] [] have all = refl
  each_shaped [] [] (v ∷ vs) have all = absurd have
  each_shaped [] (id ∷ ids) vs have all = absurd (false≢true all)
  each_shaped (type ∷ types) [] vs have all = absurd (false≢true all)
  each_shaped (type ∷ types) (id ∷ ids) [] have all = absurd have
  each_shaped (type ∷ types) (id ∷ ids) (v ∷ vs) have all =
      let parts = and_parts (has_type m type id) (have_each (has_type m) types ids) all in and_from _ _ (have.0 type (has_type_of m type id parts.0)) (each_shaped types ids vs have.1 parts.1)

  pub constructed_shaped : (type : ℕ) (ids : List ℕ) (vs : List Value) → HaveShapes m ids vs → is_built m ids (shape_of (defined_as m type)) ≡ true → is_shaped m type (constructed (is_vector (shape_of (defined_as m type))) vs) ≡ true
  constructed_shaped type ids vs have built = by_shape (shape_of (defined_as m type)) refl (made_at m kept type) built
    where
      by_shape : (s : Shape) → shape_of (defined_as m type) ≡ s → ((first : Bool) × (is_made m first s ≡ true)) → is_built m ids s ≡ true → is_shaped m type (constructed (is_vector s) vs) ≡ true
      by_shape (OfVector component count) e made is =
          let part = (and_parts (is_component m component) _ (and_parts (is_component m component && _) _ (and_parts (is_component m component && _ && _) made.0 made.1).0).0).0 in
          let both = and_parts (list_all (λ part. is_of_scalar m component (type_of (defined_as m part))) ids) (sum (map (size_of m) ids) == count) is in
          let lanes = vector_lanes m component (OfVector component count) part (eq-eqb component component refl) in
          let has : HasLanes m type = (lanes.0, ap (lanes_in m) e ∙ lanes.1) in
          of_counted m kept type (all_components vs) has (filled component ids vs part have both.0 ∙ eqb-true (sum (map (size_of m) ids)) count both.1 ∙ sized component count part ∙ ap (λ s. size_in (lanes_in m s)) (sym e))
        where
          sized : (component count : ℕ) → is_component m component ≡ true → count ≡ size_in (lanes_with count (scalar_in (shape_of (defined_as m component))))
          sized component count is = by_scalar (shape_of (defined_as m component)) is
            where
              by_scalar : (s : Shape) → (is_int_shape s || is_bool_shape s) ≡ true → count ≡ size_in (lanes_with count (scalar_in s))
              by_scalar OfBool is = refl
              by_scalar (OfInt signedness) is = refl
              by_scalar _ is = absurd (false≢true is)
      by_shape (OfArray element size) e made is = unfolds m kept type (Many vs) (ap is_value_shape e) ∙ ap (λ s. shaped_as m (is_shaped m) s (Many vs)) e ∙ by_count (value_of (defined_as m size)) is
        where
          by_count : (o : Option ℕ) → have_all (has_type m) element o ids ≡ true → has_parts (replicate (unwrap_or o 0) (is_shaped m element)) (Many vs) ≡ true
          by_count None is = absurd (false≢true is)
          by_count (Some count) is =
              let both = and_parts (length ids == count) (list_all (has_type m element) ids) is in
              parts_pass (replicate count (is_shaped m element)) vs (subst (λ n. all_pass (replicate n (is_shaped m element)) vs ≡ true) (eqb-true (length ids) count both.0) (same_shaped element ids vs have both.1))
      by_shape (OfStruct id members) e made is =
          unfolds m kept type (Many vs) (ap is_value_shape e) ∙ ap (λ s. shaped_as m (is_shaped m) s (Many vs)) e ∙ parts_pass (map (is_shaped m) members) vs (each_shaped members ids vs have is)
      by_shape _ e made is = absurd (false≢true is)
