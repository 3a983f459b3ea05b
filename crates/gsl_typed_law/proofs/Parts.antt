-- Parts of values of types are values of the types of the parts.
use Rattle.std.proofs.Common.{◌≡◌, refl, sym, ap, ◌∙◌, subst, ℕ, zero, suc, ◌<◌, ◌≤◌, inl, inr, Bool, true, List, [], ◌∷◌, map, set, replicate, length, Some, arith}
use Rattle.std.specs.Prelude.{nat_lt, slice_get, slice_index, slice_index_or}
use Rattle.std.specs.List.{list_all}
use Rattle.std.proofs.lemmas.Bool.{and_from, and_parts, false≢true, ltb-true}
use Rattle.std.proofs.lemmas.List.{length-take-le}
use Rattle.gsl_types.specs.Known.{AreStructs}
use Rattle.gsl_types.specs.declared.ty.Member.{Member}
use Rattle.gsl_types.specs.declared.ty.Scalar.{Scalar}
use Rattle.gsl_types.specs.declared.ty.StructType.{StructType}
use Rattle.gsl_types.specs.declared.ty.Ty.{Ty}
use Rattle.gsl_types.specs.declared.ty.Ty.TheOpen.{Ty-F}
use Rattle.gsl_types.specs.declared.ty.Ty.TheVariants.{rolls-Array, rolls-Vector}
use Rattle.gsl_types.specs.declared.ty.Ty.TheViews.{out-Ty, roll-Ty, roll-out-Ty}
use Rattle.gsl_values.specs.declared.lane.Lanes.{Lanes}
use Rattle.gsl_values.specs.declared.value.Value.{Value}
use Rattle.gsl_values.specs.declared.value.Value.TheOpen.{Value-F}
use Rattle.gsl_values.specs.declared.value.Value.TheVariants.{Many, Word}
use Rattle.gsl_values.specs.declared.value.Value.TheViews.{out-Value}
use Rattle.gsl_values.specs.Vectors.{components as picked}
use Rattle.gsl_tree.specs.Expressions.{IsSwizzle, element_kind, member_types}
use Rattle.gsl_tree.specs.Operations.{length_kind, member_value, swizzle_value, value_at, with_value_at}
use Rattle.gsl_tree.specs.Values.{all_pass, components_in, has_parts, has_parts_layer, is_scalar, is_value_of, parts_in, parts_layer}
use Rattle.gsl_tree.proofs.Nodes.{value_of_array, value_of_one, value_of_vector}
use Rattle.gsl_typed_law.specs.Parts.{IsPart, LeadsTo}
use Rattle.gsl_typed_law.proofs.Built.{value_of_struct}
use Rattle.gsl_typed_law.proofs.Builtins.{index_fits}
use Rattle.gsl_typed_law.proofs.Components.{Fill, components_fill, filled_typed, some_same}
use Rattle.gsl_typed_law.proofs.Zeros.{many_pass}

-- ---- lists of values that pass tests

pass_at : (tests : List (Value → Bool)) (vs : List Value) (k : ℕ) (test : Value → Bool) (d : Value) → slice_get tests k ≡ Some test → all_pass tests vs ≡ true → test (slice_index_or vs k d) ≡ true
pass_at [] vs k test d at pass = absurd cc
pass_at (f ∷ tests) [] k test d at pass = absurd (false≢true pass)
pass_at (f ∷ tests) (v ∷ vs) zero test d at pass = let same : f ≡ test = cc in ap (λ (g : Value → Bool). g v) (sym same) ∙ (and_parts (f v) (all_pass tests vs) pass).0
pass_at (f ∷ tests) (v ∷ vs) (suc k) test d at pass = pass_at tests vs k test d at (and_parts (f v) (all_pass tests vs) pass).1

pass_set : (tests : List (Value → Bool)) (vs : List Value) (k : ℕ) (test : Value → Bool) (new : Value) → slice_get tests k ≡ Some test → all_pass tests vs ≡ true → test new ≡ true → all_pass tests (set vs k new) ≡ true
pass_set [] vs k test new at pass is = absurd cc
pass_set (f ∷ tests) [] k test new at pass is = absurd (false≢true pass)
pass_set (f ∷ tests) (v ∷ vs) zero test new at pass is = let same : f ≡ test = cc in and_from (f new) (all_pass tests vs) (ap (λ (g : Value → Bool). g new) same ∙ is) (and_parts (f v) (all_pass tests vs) pass).1
pass_set (f ∷ tests) (v ∷ vs) (suc k) test new at pass is =
    let both = and_parts (f v) (all_pass tests vs) pass in and_from (f v) (all_pass tests (set vs k new)) both.0 (pass_set tests vs k test new at both.1 is)

parts_pass : (tests : List (Value → Bool)) (layer : Value-F Value) → has_parts_layer tests layer ≡ true → all_pass tests (parts_layer layer) ≡ true
parts_pass tests (Value-F.Word word) is = absurd (false≢true is)
parts_pass tests (Value-F.Many parts) is = is

repeat_at : (test : Value → Bool) (n k : ℕ) → k < n → slice_get (replicate n test) k ≡ Some test
repeat_at test zero k below = absurd (omega (arith, below))
repeat_at test (suc n) zero below = refl
repeat_at test (suc n) (suc k) below = repeat_at test n k (omega (arith, below))

member_at : (test : Ty → Value → Bool) (members : List Member) (k : ℕ) (member : Member) → slice_get members k ≡ Some member → slice_get (map test (member_types members)) k ≡ Some (test member.ty)
member_at test [] k member at = absurd cc
member_at test (first ∷ members) zero member at = ap (λ (x : Member). Some (test x.ty)) (some_same at)
member_at test (first ∷ members) (suc k) member at = member_at test members k member at

-- ---- one part

-- The values of a type are what has parts that pass tests, and the one at a number tests for a type.
record Tested (structs : List StructType) (base : Ty) (number : ℕ) (t : Ty) : Type 0 where
  tests : List (Value → Bool)
  test : Value → Bool
  at : slice_get tests number ≡ Some test
  whole : (v : Value) → is_value_of structs base v ≡ has_parts tests v
  part : (v : Value) → is_value_of structs t v ≡ test v

element_tested : (structs : List StructType) (base : Ty) (number : ℕ) (t : Ty) (layer : Ty-F Ty) → roll-Ty layer ≡ base → element_kind layer ≡ Some t → number < length_kind layer → Tested structs base number t
element_tested structs base number t Ty-F.Void e is below = absurd cc
element_tested structs base number t (Ty-F.One s) e is below = absurd cc
element_tested structs base number t (Ty-F.Vector s n) e is below = record {
  tests = replicate n (is_scalar s);
  test = is_scalar s;
  at = repeat_at (is_scalar s) n number below;
  whole = λ v. ap (λ u. is_value_of structs u v) (sym e ∙ rolls-Vector s n) ∙ value_of_vector structs s n v;
  part = λ v. ap (λ u. is_value_of structs u v) (sym (some_same is)) ∙ value_of_one structs s v;
}
element_tested structs base number t (Ty-F.Array element n) e is below = record {
  tests = replicate n (is_value_of structs element);
  test = is_value_of structs element;
  at = repeat_at (is_value_of structs element) n number below;
  whole = λ v. ap (λ u. is_value_of structs u v) (sym e ∙ rolls-Array element n) ∙ value_of_array structs element n v;
  part = λ v. ap (λ u. is_value_of structs u v) (sym (some_same is));
}
element_tested structs base number t (Ty-F.Runtime element) e is below = absurd (omega (arith, below))
element_tested structs base number t (Ty-F.Struct k) e is below = absurd cc

part_tested : (structs : List StructType) → AreStructs structs → (base : Ty) (number : ℕ) (t : Ty) → IsPart structs base number t → Tested structs base number t
part_tested structs are base number t (inl (n, struct, member, is, found, at, type)) = record {
  tests = map (is_value_of structs) (member_types struct.members);
  test = is_value_of structs member.ty;
  at = member_at (is_value_of structs) struct.members number member at;
  whole = λ v. ap (λ u. is_value_of structs u v) is ∙ value_of_struct structs are n struct found v;
  part = λ v. ap (λ u. is_value_of structs u v) (sym type);
}
part_tested structs are base number t (inr (is, below)) = element_tested structs base number t (out-Ty base) (roll-out-Ty base) is below

member_typed : (structs : List StructType) (base : Ty) (number : ℕ) (t : Ty) (v : Value) → Tested structs base number t → is_value_of structs base v ≡ true → is_value_of structs t (member_value v number) ≡ true
member_typed structs base number t v x fits = x.part (member_value v number) ∙ pass_at x.tests (parts_in v) number x.test (Word 0) x.at (parts_pass x.tests (out-Value v) (sym (x.whole v) ∙ fits))

set_typed : (structs : List StructType) (base : Ty) (number : ℕ) (t : Ty) (v new : Value) → Tested structs base number t → is_value_of structs base v ≡ true → is_value_of structs t new ≡ true → is_value_of structs base (Many (set (parts_in v) number new)) ≡ true
set_typed structs base number t v new x fits is =
    x.whole (Many (set (parts_in v) number new))
    ∙ many_pass x.tests (set (parts_in v) number new) (pass_set x.tests (parts_in v) number x.test new x.at (parts_pass x.tests (out-Value v) (sym (x.whole v) ∙ fits)) (sym (x.part new) ∙ is))

-- ---- along paths

module _ (structs : List StructType) (are : AreStructs structs) where
  pub value_typed : (base : Ty) (path : List ℕ) (t : Ty) (v : Value) → LeadsTo structs base path t → is_value_of structs base v ≡ true → is_value_of structs t (value_at v path) ≡ true
  value_typed base [] t v leads fits = subst (λ u. is_value_of structs u v ≡ true) leads fits
  value_typed base (number ∷ path) t v (part, is, later) fits = value_typed part path t (member_value v number) later (member_typed structs base number part v (part_tested structs are base number part is) fits)

  pub with_value_typed : (base : Ty) (path : List ℕ) (t : Ty) (v new : Value) → LeadsTo structs base path t → is_value_of structs base v ≡ true → is_value_of structs t new ≡ true → is_value_of structs base (with_value_at v path new) ≡ true
  with_value_typed base [] t v new leads fits is = subst (λ u. is_value_of structs u new ≡ true) (sym leads) is
  with_value_typed base (number ∷ path) t v new (part, step, later) fits is =
      let x = part_tested structs are base number part step in
      set_typed structs base number part v (with_value_at (member_value v number) path new) x fits
      (with_value_typed part path t (member_value v number) new later (member_typed structs base number part v x fits) is)

-- ---- swizzles

picks_fill : (s : Scalar) (n : ℕ) (words positions : List ℕ) → Fill (s, n) words → list_all (λ position. nat_lt position n) positions ≡ true → Fill (s, length positions) (map (slice_index words) positions)
picks_fill s n words [] fill below = (refl, tt)
picks_fill s n words (position ∷ positions) fill below =
    let both = and_parts (nat_lt position n) (list_all (λ position. nat_lt position n) positions) below in
    let more = picks_fill s n words positions fill both.1 in
    let low = ltb-true position n both.0 in
    (ap suc more.0, (index_fits s words position fill.1 (omega (arith, low, fill.0)), more.1))

pub swizzle_typed : (structs : List StructType) (base : Ty) (lanes : Lanes) (t : Ty) (v : Value) → lanes.count ≤ length lanes.words → IsSwizzle base lanes t → is_value_of structs base v ≡ true → is_value_of structs t (swizzle_value v lanes) ≡ true
swizzle_typed structs base lanes t v enough (shape, is, lane, below, gives) fits =
    let fill = picks_fill shape.0 shape.1 (components_in v) (picked lanes) (components_fill structs base shape v is fits) below in
    let count : length (picked lanes) ≡ lanes.count = length-take-le lanes.count lanes.words enough in
    subst (λ u. is_value_of structs u (swizzle_value v lanes) ≡ true) gives
    (filled_typed structs shape.0 lanes.count (map (slice_index (components_in v)) (picked lanes)) (subst (λ n. Fill (shape.0, n) (map (slice_index (components_in v)) (picked lanes))) count fill))
