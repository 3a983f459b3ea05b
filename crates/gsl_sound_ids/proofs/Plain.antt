-- Types of values, and what is of them.
use Rattle.std.proofs.Common.{◌≡◌, refl, sym, ap, ◌∙◌, subst, ℕ, zero, suc, Bool, true, false, ◌&&◌, if◌then◌else◌, nat_lt, List, [], ◌∷◌, length, slice_index, Option, Some, None, inl, inr, arith}
use Rattle.std.specs.List.{AllByRecursion, list_all}
use Rattle.std.specs.Prelude.{◌==◌}
use Rattle.std.proofs.lemmas.Bool.{and_parts, eqb-true, false≢true, lt-ltb, ltb-true, or_cases}
use Rattle.gsl_words.specs.declared.module.Module.{Module}
use Rattle.gsl_valid.specs.ConstantRules.{have_all, have_each}
use Rattle.gsl_valid.specs.Kinds.{Shape, OfVoid, OfVector, OfArray, OfStruct, OfPointer, shape_of, type_of, value_of}
use Rattle.gsl_valid.specs.OperandRules.{component_in, if_below, is_built, is_of_scalar, is_part, part_of_at, part_within}
use Rattle.gsl_valid.specs.TypeRules.{is_component, is_made, is_member}
use Rattle.gsl_valid.specs.Types.{Scalar, Target, bool_type, defined_as, has_lanes, has_type, is_bool_shape, is_int, is_int_shape, is_int_type, is_int_value, is_runtime, is_runtime_shape, is_type, is_value_shape, is_value_type, is_void, is_void_shape, lanes_in, lanes_of, target_in, target_of}
use Rattle.gsl_sound_code.proofs.Looks.{Kept, made_at}

-- neither Void nor pointers
abbrev pub plain_shape : Shape → Bool
plain_shape OfVoid = false
plain_shape (OfPointer class pointee) = false
plain_shape _ = true

abbrev pub IsPlain : Module → ℕ → Type 0
IsPlain m type = plain_shape (shape_of (defined_as m type)) ≡ true

pub full_shape : (s : Shape) → plain_shape s ≡ true → is_void_shape s ≡ false
full_shape OfVoid is = absurd (false≢true is)
full_shape _ is = refl

no_target : (s : Shape) → plain_shape s ≡ true → target_in s ≡ None
no_target (OfPointer class pointee) is = absurd (false≢true is)
no_target _ is = refl

target_full : (s : Shape) (t : Target) → target_in s ≡ Some t → is_void_shape s ≡ false
target_full OfVoid t is = absurd (cc)
target_full _ t is = refl

pub value_plain : (s : Shape) → is_value_shape s ≡ true → plain_shape s ≡ true
value_plain OfVoid is = absurd (false≢true is)
value_plain (OfPointer class pointee) is = absurd (false≢true is)
value_plain _ is = refl

int_plain : (s : Shape) → is_int_shape s ≡ true → plain_shape s ≡ true
int_plain OfVoid is = absurd (false≢true is)
int_plain (OfPointer class pointee) is = absurd (false≢true is)
int_plain _ is = refl

bool_plain : (s : Shape) → is_bool_shape s ≡ true → plain_shape s ≡ true
bool_plain OfVoid is = absurd (false≢true is)
bool_plain (OfPointer class pointee) is = absurd (false≢true is)
bool_plain _ is = refl

runtime_plain : (s : Shape) → is_runtime_shape s ≡ true → plain_shape s ≡ true
runtime_plain OfVoid is = absurd (false≢true is)
runtime_plain (OfPointer class pointee) is = absurd (false≢true is)
runtime_plain _ is = refl

lanes_plain : (m : Module) (test : Scalar → Bool) (s : Shape) → has_lanes test (lanes_in m s) ≡ true → plain_shape s ≡ true
lanes_plain m test OfVoid is = absurd (false≢true is)
lanes_plain m test (OfPointer class pointee) is = absurd (false≢true is)
lanes_plain m test _ is = refl

-- ---- values and pointers

-- The id is of a type of values.
pub record IsValue (m : Module) (id : ℕ) : Type 0 where
  pub type : ℕ
  pub typed : type_of (defined_as m id) ≡ Some type
  pub plain : IsPlain m type

-- The id is of a type of pointers.
pub record IsPointer (m : Module) (id : ℕ) : Type 0 where
  pub type : ℕ
  pub typed : type_of (defined_as m id) ≡ Some type
  pub target : Target
  pub points : target_of (defined_as m type) ≡ Some target

module _ (m : Module) where
  pub is_full : (type : ℕ) → IsPlain m type → is_void m type ≡ false
  is_full type plain = full_shape (shape_of (defined_as m type)) plain

  pub points_nowhere : (type : ℕ) → IsPlain m type → target_of (defined_as m type) ≡ None
  points_nowhere type plain = no_target (shape_of (defined_as m type)) plain

  pub pointer_full : (type : ℕ) (t : Target) → target_of (defined_as m type) ≡ Some t → is_void m type ≡ false
  pointer_full type t is = target_full (shape_of (defined_as m type)) t is

  pub value_type_plain : (type : ℕ) → is_value_type m type ≡ true → IsPlain m type
  value_type_plain type is = value_plain (shape_of (defined_as m type)) is

  pub int_type_plain : (type : ℕ) → is_int m type ≡ true → IsPlain m type
  int_type_plain type is = int_plain (shape_of (defined_as m type)) is

  pub bool_type_plain : (type : ℕ) → bool_type (defined_as m type) ≡ true → IsPlain m type
  bool_type_plain type is = bool_plain (shape_of (defined_as m type)) is

  pub lanes_type_plain : (test : Scalar → Bool) (type : ℕ) → has_lanes test (lanes_of m type) ≡ true → IsPlain m type
  lanes_type_plain test type is = lanes_plain m test (shape_of (defined_as m type)) is

  pub component_plain : (type : ℕ) → is_component m type ≡ true → IsPlain m type
  component_plain type is = elim (or_cases (is_int m type) (bool_type (defined_as m type)) is) [ inl int ↦ int_type_plain type int | inr bool ↦ bool_type_plain type bool ]

  member_plain : (type : ℕ) → is_member m type ≡ true → IsPlain m type
  member_plain type is = elim (or_cases (is_value_type m type) (is_runtime m type) is) [ inl value ↦ value_type_plain type value | inr runtime ↦ runtime_plain (shape_of (defined_as m type)) runtime ]

  -- ---- ids by their types

  type_is : (type : ℕ) (o : Option ℕ) → is_type type o ≡ true → o ≡ Some type
  type_is type None is = absurd (false≢true is)
  type_is type (Some other) is = ap Some (eqb-true other type is)

  pub has_type_is : (type id : ℕ) → has_type m type id ≡ true → type_of (defined_as m id) ≡ Some type
  has_type_is type id is = type_is type (type_of (defined_as m id)) is

  pub value_of_type : (type id : ℕ) → has_type m type id ≡ true → IsPlain m type → IsValue m id
  value_of_type type id is plain = record { type = type; typed = has_type_is type id is; plain = plain }

  -- a value, by what is asked of its type
  pub value_by : (test : Option ℕ → Bool) (id : ℕ) → test None ≡ false → ((type : ℕ) → test (Some type) ≡ true → IsPlain m type) → test (type_of (defined_as m id)) ≡ true → IsValue m id
  value_by test id none plain is = by_type (type_of (defined_as m id)) refl is
    where
      by_type : (o : Option ℕ) → type_of (defined_as m id) ≡ o → test o ≡ true → IsValue m id
      by_type None typed is = absurd (false≢true (sym none ∙ is))
      by_type (Some type) typed is = record { type = type; typed = typed; plain = plain type is }

  pub int_value : (id : ℕ) → is_int_value m id ≡ true → IsValue m id
  int_value id is = value_by (is_int_type m) id refl (λ type int. int_type_plain type int) is

-- ---- what types are made of

module _ (m : Module) (kept : Kept m) where
  pub list_at : (test : ℕ → Bool) (xs : List ℕ) (k : ℕ) → list_all test xs ≡ true → nat_lt k (length xs) ≡ true → test (slice_index xs k) ≡ true
  list_at test [] k all below = let low = ltb-true k 0 below in absurd (omega (arith, low))
  list_at test (x ∷ xs) zero all below = (and_parts (test x) (list_all test xs) all).0
  list_at test (x ∷ xs) (suc k) all below =
      let low = ltb-true (suc k) (suc (length xs)) below in list_at test xs k (and_parts (test x) (list_all test xs) all).1 (lt-ltb k (length xs) (omega (arith, low)))

  below_is : (k : ℕ) (count : Option ℕ) (type part : ℕ) → if_below k count type ≡ Some part → type ≡ part
  below_is k None type part is = absurd (cc)
  below_is k (Some count) type part is = by_test (nat_lt k count) is
    where
      by_test : (b : Bool) → (if b then Some type else None) ≡ Some part → type ≡ part
      by_test true is = cc
      by_test false is = absurd (cc)

  -- a part of a type is of values
  part_plain : (s : Shape) (k part : ℕ) → ((first : Bool) × (is_made m first s ≡ true)) → part_of_at m k s ≡ Some part → IsPlain m part
  part_plain (OfVector component count) k part made is =
      let parts = and_parts (is_component m component) _ (and_parts (is_component m component && _) _ (and_parts (is_component m component && _ && _) made.0 made.1).0).0 in
      subst (IsPlain m) (below_is k (Some count) component part is) (component_plain m component parts.0)
  part_plain (OfArray element length) k part made is = subst (IsPlain m) (below_is k (value_of (defined_as m length)) element part is) (value_type_plain m element (and_parts (is_value_type m element) _ made.1).0)
  part_plain (OfStruct id members) k part made is = by_test (nat_lt k (length members)) refl is
    where
      by_test : (b : Bool) → nat_lt k (length members) ≡ b → (if b then Some (slice_index members k) else None) ≡ Some part → IsPlain m part
      by_test true below is = let same : slice_index members k ≡ part = cc in subst (IsPlain m) same (member_plain m (slice_index members k) (list_at (is_member m) members k made.1 below))
      by_test false below is = absurd (cc)
  part_plain _ k part made is = absurd (cc)

  within_plain : (type : ℕ) (places : List ℕ) (part : ℕ) → IsPlain m type → part_within m (Some type) places ≡ Some part → IsPlain m part
  within_plain type [] part plain is = let same : type ≡ part = cc in subst (IsPlain m) same plain
  within_plain type (k ∷ places) part plain is = by_part (part_of_at m k (shape_of (defined_as m type))) refl (λ next p e. within_plain next places part p e) is
    where
      by_part : (o : Option ℕ) → part_of_at m k (shape_of (defined_as m type)) ≡ o → ((next : ℕ) → IsPlain m next → part_within m (Some next) places ≡ Some part → IsPlain m part) → part_within m o places ≡ Some part → IsPlain m part
      by_part None e later is = absurd (cc)
      by_part (Some next) e later is = later next (part_plain (shape_of (defined_as m type)) k next (made_at m kept type) e) is

  -- what has a part is of values itself
  has_part : (type k : ℕ) (places : List ℕ) (part : ℕ) → part_within m (Some type) (k ∷ places) ≡ Some part → IsPlain m type
  has_part type k places part is = by_shape (shape_of (defined_as m type)) is
    where
      by_shape : (s : Shape) → part_within m (part_of_at m k s) places ≡ Some part → plain_shape s ≡ true
      by_shape OfVoid is = absurd (cc)
      by_shape (OfPointer class pointee) is = absurd (cc)
      by_shape _ is = refl

  part_is : (type : ℕ) (o : Option ℕ) → is_part type o ≡ true → o ≡ Some type
  part_is type None is = absurd (false≢true is)
  part_is type (Some part) is = ap Some (eqb-true part type is)

  -- the part that is taken from a composite, and the composite
  pub taken_from : (type k : ℕ) (places : List ℕ) (o : Option ℕ) → is_part type (part_within m o (k ∷ places)) ≡ true → (whole : ℕ) × (o ≡ Some whole) × IsPlain m whole × IsPlain m type
  taken_from type k places None is = absurd (false≢true is)
  taken_from type k places (Some whole) is =
      let e = part_is type (part_within m (Some whole) (k ∷ places)) is in
      let p = has_part whole k places type e in
      (whole, refl, p, within_plain whole (k ∷ places) type p e)

  -- ---- parts that make up a composite

  all_same : (type : ℕ) (ids : List ℕ) → IsPlain m type → list_all (has_type m type) ids ≡ true → AllByRecursion (IsValue m) ids
  all_same type [] plain all = tt
  all_same type (id ∷ ids) plain all = let parts = and_parts (has_type m type id) (list_all (has_type m type) ids) all in (value_of_type m type id parts.0 plain, all_same type ids plain parts.1)

  pub same_values : (type : ℕ) (ids : List ℕ) → IsPlain m type → list_all (has_type m type) ids ≡ true → AllByRecursion (IsValue m) ids
  same_values type ids plain all = all_same type ids plain all

  all_counted : (type : ℕ) (count : Option ℕ) (ids : List ℕ) → IsPlain m type → have_all (has_type m) type count ids ≡ true → AllByRecursion (IsValue m) ids
  all_counted type None ids plain all = absurd (false≢true all)
  all_counted type (Some count) ids plain all = all_same type ids plain (and_parts (length ids == count) _ all).1

  each_member : (types ids : List ℕ) → list_all (is_member m) types ≡ true → have_each (has_type m) types ids ≡ true → AllByRecursion (IsValue m) ids
  each_member [] [] made all = tt
  each_member [] (id ∷ ids) made all = absurd (false≢true all)
  each_member (type ∷ types) [] made all = absurd (false≢true all)
  each_member (type ∷ types) (id ∷ ids) made all =
      let parts = and_parts (has_type m type id) _ all in
      let members = and_parts (is_member m type) _ made in
      (value_of_type m type id parts.0 (member_plain m type members.0), each_member types ids members.1 parts.1)

  component_vector : (scalar : ℕ) (s : Shape) → is_type scalar (component_in s) ≡ true → plain_shape s ≡ true
  component_vector scalar OfVoid is = absurd (false≢true is)
  component_vector scalar (OfPointer class pointee) is = absurd (false≢true is)
  component_vector scalar _ is = refl

  scalar_values : (scalar : ℕ) (ids : List ℕ) → IsPlain m scalar → list_all (λ part. is_of_scalar m scalar (type_of (defined_as m part))) ids ≡ true → AllByRecursion (IsValue m) ids
  scalar_values scalar [] plain all = tt
  scalar_values scalar (id ∷ ids) plain all =
      let parts = and_parts (is_of_scalar m scalar (type_of (defined_as m id))) _ all in (
        value_by m (is_of_scalar m scalar) id refl (λ type is. elim (or_cases (type == scalar) _ is) [
          | inl same ↦ subst (IsPlain m) (sym (eqb-true type scalar same)) plain
          | inr vector ↦ component_vector scalar (shape_of (defined_as m type)) vector
        ]) parts.0,
        scalar_values scalar ids plain parts.1,
      )

  pub built_values : (ids : List ℕ) (s : Shape) → ((first : Bool) × (is_made m first s ≡ true)) → is_built m ids s ≡ true → AllByRecursion (IsValue m) ids
  built_values ids (OfVector component count) made is =
      let parts = and_parts (is_component m component) _ (and_parts (is_component m component && _) _ (and_parts (is_component m component && _ && _) made.0 made.1).0).0 in
      scalar_values component ids (component_plain m component parts.0) (and_parts (list_all (λ part. is_of_scalar m component (type_of (defined_as m part))) ids) _ is).0
  built_values ids (OfArray element length) made is = all_counted element (value_of (defined_as m length)) ids (value_type_plain m element (and_parts (is_value_type m element) _ made.1).0) is
  built_values ids (OfStruct id members) made is = each_member members ids made.1 is
  built_values ids _ made is = absurd (false≢true is)
