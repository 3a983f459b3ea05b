-- Zeros and constants have the shapes of their types.
use Rattle.std.proofs.Common.{◌≡◌, refl, sym, ap, ◌∙◌, subst, ℕ, zero, suc, Bool, true, false, ◌&&◌, ◌||◌, not, if◌then◌else◌, List, [], ◌∷◌, map, replicate, length, unwrap_or, Option, Some, None, inl, inr}
use Rattle.std.specs.List.{list_all, list_any}
use Rattle.std.specs.Prelude.{◌==◌}
use Rattle.std.proofs.lemmas.Bool.{and_from, and_parts, eqb-true, or_cases, or_from, or_left, or_parts, or_right, false≢true, true≢false, not-true}
use Rattle.gsl_instr.specs.declared.instruction.Instruction.{Instruction}
use Rattle.gsl_instr.specs.declared.instruction.Instruction.TheVariants as instruction
use Rattle.gsl_words.specs.declared.module.Instr.{Instr}
use Rattle.gsl_words.specs.declared.module.Module.{Module}
use Rattle.gsl_values.specs.declared.value.Value.{Value}
use Rattle.gsl_values.specs.declared.value.Value.TheVariants.{Word, Many, outs-Many, outs-Word}
use Rattle.gsl_tree.specs.Values.{all_pass, has_parts, has_parts_layer}
use Rattle.gsl_valid.specs.ConstantRules.{are_parts, has_runtime, have_all, have_each, is_constant, is_constant_of, is_fixed, is_whole}
use Rattle.gsl_valid.specs.Ids.{defined, defines, needs}
use Rattle.gsl_valid.specs.Instruction.{read}
use Rattle.gsl_valid.specs.Kinds.{Shape, OfBool, OfInt, OfVector, OfArray, OfStruct, Value as Fixed, Truth, Word as OneWord, Parts, Zeros, constant_is, constant_type, shape_of, value_of}
use Rattle.gsl_valid.specs.Placed.{Code}
use Rattle.gsl_valid.specs.Search.{whole}
use Rattle.gsl_valid.specs.TypeRules.{is_component, is_first, is_made, is_member}
use Rattle.gsl_valid.specs.Types.{defined_as, has_in, is_bool_shape, is_int, is_int_shape, is_runtime, is_runtime_shape, is_type, is_value_shape, is_value_type, parts_in, parts_of}
use Rattle.gsl_machine.specs.Constants.{constant, constant_in, fixed, fixed_if, length_by, truth_of, zeros, zeros_as, zeros_in}
use Rattle.gsl_sound_code.specs.Rules.{Keeps}
use Rattle.gsl_sound_code.proofs.Looks.{Kept, constant_at, defines_result, found, kept_behind}
use Rattle.gsl_sound_ids.proofs.Laid.{KeepBack, keep_back}
use Rattle.gsl_sound_values.specs.Shaped.{is_shaped, is_word, is_word_layer, shaped_as, shaped_in}
use Rattle.gsl_sound_values.proofs.Unfolded.{Made, made_of, result_defines, shape_unfolds}

-- ---- words, and parts that all pass

pub word_is : (word : ℕ) → is_word (Word word) ≡ true
word_is word = ap is_word_layer (outs-Word word)

pub parts_pass : (tests : List (Value → Bool)) (vs : List Value) → all_pass tests vs ≡ true → has_parts tests (Many vs) ≡ true
parts_pass tests vs all = ap (has_parts_layer tests) (outs-Many vs) ∙ all

pub each_passes : (f : Value → Bool) (v : Value) → f v ≡ true → (n : ℕ) → all_pass (replicate n f) (replicate n v) ≡ true
each_passes f v passes zero = refl
each_passes f v passes (suc n) = and_from _ _ passes (each_passes f v passes n)

members_pass : (f : ℕ → Value → Bool) (g : ℕ → Value) (test : ℕ → Bool) → ((type : ℕ) → test type ≡ true → f type (g type) ≡ true) → (members : List ℕ) → list_all test members ≡ true → all_pass (map f members) (map g members) ≡ true
members_pass f g test each [] all = refl
members_pass f g test each (type ∷ members) all = let parts = and_parts (test type) (list_all test members) all in and_from _ _ (each type parts.0) (members_pass f g test each members parts.1)

-- ---- types that are defined, and arrays without length in them

has_itself : (test : ℕ → Bool) (before : Code) (type : ℕ) → defined before type ≡ true → test type ≡ true → has_in test before type ≡ true
has_itself test [] type is passes = absurd (false≢true is)
has_itself test (i ∷ before) type is passes = by_test (defines i type) is (λ later. has_itself test before type later passes)
  where
    by_test : (b : Bool) → (b || defined before type) ≡ true → (defined before type ≡ true → has_in test before type ≡ true) → (if b then test type || list_any (has_in test before) (parts_of (read i)) else has_in test before type) ≡ true
    by_test true is later = or_left _ _ passes
    by_test false is later = later is

-- The same of each of some types.
all_three : (a b c : ℕ → Bool) (xs : List ℕ) → list_all a xs ≡ true → list_all b xs ≡ true → list_any c xs ≡ false → list_all (λ x. a x && b x && not (c x)) xs ≡ true
all_three a b c [] first second third = refl
all_three a b c (x ∷ xs) first second third =
    let p = and_parts (a x) (list_all a xs) first in
    let q = and_parts (b x) (list_all b xs) second in
    let r = or_parts (c x) (list_any c xs) third in
    and_from (a x && b x && not (c x)) _ (and_from (a x && b x) _ (and_from _ _ p.0 q.0) (ap not r.0)) (all_three a b c xs p.1 q.1 r.1)

module _ (m : Module) where
  pub component_shape : (s : Shape) → (is_int_shape s || is_bool_shape s) ≡ true → (is_value_shape s ≡ true) × (is_runtime_shape s ≡ false) × (parts_in s ≡ [])
  component_shape OfBool is = (refl, refl, refl)
  component_shape (OfInt signedness) is = (refl, refl, refl)
  component_shape _ is = absurd (false≢true is)

  component_alone : (before : Code) → KeepBack m before → (type : ℕ) → is_component m type ≡ true → has_in (is_runtime m) before type ≡ false
  component_alone [] back type is = refl
  component_alone (i ∷ before) back type is = by_test (defines i type) refl (component_alone before back.1 type is)
    where
      by_test : (b : Bool) → defines i type ≡ b → has_in (is_runtime m) before type ≡ false → (if b then is_runtime m type || list_any (has_in (is_runtime m) before) (parts_of (read i)) else has_in (is_runtime m) before type) ≡ false
      by_test true here later =
          let c = component_shape (shape_of (defined_as m type)) is in
          or_from _ _ c.1 (ap (λ x. list_any (has_in (is_runtime m) before) (parts_of x)) (sym (back.0.1.own type (defines_result i type here))) ∙ ap (list_any (has_in (is_runtime m) before)) c.2)
      by_test false here later = later

  -- zeros of a type by what it is made of
  zero_as : (before : Code) (s : Shape) (first : Bool) → ((type : ℕ) → (defined before type && is_value_type m type && not (has_in (is_runtime m) before type)) ≡ true → shaped_in m before type (zeros_in m before type) ≡ true)
      → ((type : ℕ) → is_component m type ≡ true → has_in (is_runtime m) before type ≡ false) → ((type : ℕ) → defined before type ≡ true → is_runtime m type ≡ true → has_in (is_runtime m) before type ≡ true)
      → is_made m first s ≡ true → Made (defined before) s → is_value_shape s ≡ true → list_any (has_in (is_runtime m) before) (parts_in s) ≡ false → shaped_as m (shaped_in m before) s (zeros_as m (zeros_in m before) s) ≡ true
  zero_as before OfBool first later alone runtime made there value none = word_is 0
  zero_as before (OfInt signedness) first later alone runtime made there value none = word_is 0
  zero_as before (OfVector component count) first later alone runtime made there value none =
      let part = (and_parts (is_component m component) _ (and_parts (is_component m component && _) _ (and_parts (is_component m component && _ && _) first made).0).0).0 in
      parts_pass (replicate count (shaped_in m before component)) (replicate count (zeros_in m before component)) (each_passes (shaped_in m before component) (zeros_in m before component)
      (later component (and_from (defined before component && is_value_type m component) _ (and_from _ _ there (component_shape (shape_of (defined_as m component)) part).0) (ap not (alone component part)))) count)
  zero_as before (OfArray element size) first later alone runtime made there value none =
      parts_pass (replicate (length_by m size) (shaped_in m before element)) (replicate (length_by m size) (zeros_in m before element)) (each_passes (shaped_in m before element) (zeros_in m before element)
      (later element (and_from (defined before element && is_value_type m element) _ (and_from _ _ there (and_parts (is_value_type m element) _ made).0) (ap not (or_parts (has_in (is_runtime m) before element) false none).0))) (length_by m size))
  zero_as before (OfStruct id members) first later alone runtime made there value none =
      parts_pass (map (shaped_in m before) members) (map (zeros_in m before) members) (members_pass (shaped_in m before) (zeros_in m before) (λ type. defined before type && is_member m type && not (has_in (is_runtime m) before type)) (λ type is.
      let outer = and_parts (defined before type && is_member m type) (not (has_in (is_runtime m) before type)) is in
      let inner = and_parts (defined before type) (is_member m type) outer.0 in
      later type (and_from (defined before type && is_value_type m type) _ (and_from _ _ inner.0 (elim (or_cases (is_value_type m type) (is_runtime m type) inner.1) [
        | inl value ↦ value
        | inr grows ↦ absurd (true≢false (sym (runtime type inner.0 grows) ∙ not-true _ outer.1))
      ])) outer.1)) members (all_three (defined before) (is_member m) (has_in (is_runtime m) before) members there made none))
  zero_as before _ first later alone runtime made there value none = absurd (false≢true value)

  zero_in : (before : Code) → KeepBack m before → (type : ℕ) → (defined before type && is_value_type m type && not (has_in (is_runtime m) before type)) ≡ true → shaped_in m before type (zeros_in m before type) ≡ true
  zero_in [] back type is = absurd (false≢true is)
  zero_in (i ∷ before) back type is =
      let outer = and_parts (defined (i ∷ before) type && is_value_type m type) (not (has_in (is_runtime m) (i ∷ before) type)) is in
      let inner = and_parts (defined (i ∷ before) type) (is_value_type m type) outer.0 in
      by_test (defines i type) refl inner.0 inner.1 (not-true _ outer.1) (zero_in before back.1) (component_alone before back.1)
    where
      by_test : (b : Bool) → defines i type ≡ b → (b || defined before type) ≡ true → is_value_type m type ≡ true
          → (if b then is_runtime m type || list_any (has_in (is_runtime m) before) (parts_of (read i)) else has_in (is_runtime m) before type) ≡ false
          → ((type : ℕ) → (defined before type && is_value_type m type && not (has_in (is_runtime m) before type)) ≡ true → shaped_in m before type (zeros_in m before type) ≡ true)
          → ((type : ℕ) → is_component m type ≡ true → has_in (is_runtime m) before type ≡ false)
          → (if b then shaped_as m (shaped_in m before) (shape_of (read i)) (if b then zeros_as m (zeros_in m before) (shape_of (read i)) else zeros_in m before type)
          else shaped_in m before type (if b then zeros_as m (zeros_in m before) (shape_of (read i)) else zeros_in m before type)) ≡ true
      by_test true here there value none later alone =
          let keeps : Keeps m before i back.0.0 = back.0.1 in
          zero_as before (shape_of (read i)) (is_first before i) later alone (λ type. has_itself (is_runtime m) before type) keeps.made (made_of (defined before) (read i) (and_parts (list_all (defined before) (needs (read i))) _ keeps.uses).0)
          (ap (λ x. is_value_shape (shape_of x)) (sym (keeps.own type (defines_result i type here))) ∙ value) (or_parts (is_runtime m type) _ none).1
      by_test false here there value none later alone = later type (and_from (defined before type && is_value_type m type) _ (and_from _ _ there value) (ap not none))

module _ (m : Module) (kept : Kept m) where
  -- a type of values stands among the module's instructions
  type_there : (type : ℕ) → is_value_type m type ≡ true → (d : Instruction) × (defined_as m type ≡ Some d) × (defined (whole m) type ≡ true)
  type_there type is = by_definition (defined_as m type) refl is
    where
      by_definition : (o : Option Instruction) → defined_as m type ≡ o → is_value_shape (shape_of o) ≡ true → (d : Instruction) × (o ≡ Some d) × (defined (whole m) type ≡ true)
      by_definition None e is = absurd (false≢true is)
      by_definition (Some d) e is = let f = found m [] m.instrs type d kept.all e in (d, refl, kept_behind m (f.instr ∷ f.before) f.code type f.later (or_left _ _ (result_defines f.instr type f.gives)))

  -- zeros have the shape of their type
  pub zeros_shaped : (type : ℕ) → is_whole m type ≡ true → is_shaped m type (zeros m type) ≡ true
  zeros_shaped type is =
      let parts = and_parts (is_value_type m type) (not (has_runtime m type)) is in
      zero_in m (whole m) (keep_back m [] m.instrs kept.all tt) type (and_from (defined (whole m) type && is_value_type m type) _ (and_from _ _ (type_there type parts.0).2 parts.0) parts.1)

  -- the shape of a type of values
  pub unfolds : (type : ℕ) (v : Value) → is_value_type m type ≡ true → is_shaped m type v ≡ shaped_as m (is_shaped m) (shape_of (defined_as m type)) v
  unfolds type v is = let t = type_there type is in shape_unfolds m kept type t.0 v t.1

  -- a word has the shape of a scalar
  pub word_shaped : (type word : ℕ) → is_component m type ≡ true → is_shaped m type (Word word) ≡ true
  word_shaped type word is = unfolds type (Word word) (component_shape m (shape_of (defined_as m type)) is).0 ∙ by_shape (shape_of (defined_as m type)) is
    where
      by_shape : (s : Shape) → (is_int_shape s || is_bool_shape s) ≡ true → shaped_as m (is_shaped m) s (Word word) ≡ true
      by_shape OfBool is = word_is word
      by_shape (OfInt signedness) is = word_is word
      by_shape _ is = absurd (false≢true is)

-- ---- constants

-- the parts of a constant
abbrev listed_in : Fixed → List ℕ
listed_in Truth = []
listed_in (OneWord word) = []
listed_in (Parts parts) = parts
listed_in Zeros = []

abbrev listed : Option (ℕ × Fixed) → List ℕ
listed None = []
listed (Some c) = listed_in c.1

listed_needed : (test : ℕ → Bool) (d : Option Instruction) → list_all test (needs d) ≡ true → list_all test (listed (constant_is d)) ≡ true
listed_needed test None all = refl
listed_needed test (Some (instruction.ConstantComposite type result parts)) all = (and_parts (test type) (list_all test parts) all).1
listed_needed test (Some d) all = refl

typed_constant : (type : ℕ) (o : Option (ℕ × Fixed)) → is_type type (constant_type o) ≡ true → (value : Fixed) × (o ≡ Some (type, value))
typed_constant type None is = absurd (false≢true is)
typed_constant type (Some c) is = (c.1, ap (λ t. Some (t, c.1)) (eqb-true c.0 type is))

module _ (m : Module) (kept : Kept m) (before : Code) (later : (id type : ℕ) (value : Fixed) → defined before id ≡ true → constant_is (defined_as m id) ≡ Some (type, value) → is_shaped m type (constant_in m before id) ≡ true) where
  part_shaped : (type id : ℕ) → defined before id ≡ true → is_constant_of m type id ≡ true → is_shaped m type (constant_in m before id) ≡ true
  part_shaped type id there is = let c = typed_constant type (constant_is (defined_as m id)) is in later id type c.0 there c.1

  all_shaped : (type : ℕ) (ids : List ℕ) → list_all (defined before) ids ≡ true → list_all (is_constant_of m type) ids ≡ true → all_pass (replicate (length ids) (is_shaped m type)) (map (constant_in m before) ids) ≡ true
  all_shaped type [] there is = refl
  all_shaped type (id ∷ ids) there is =
      let p = and_parts (defined before id) (list_all (defined before) ids) there in
      let q = and_parts (is_constant_of m type id) (list_all (is_constant_of m type) ids) is in
      and_from _ _ (part_shaped type id p.0 q.0) (all_shaped type ids p.1 q.1)

  each_shaped : (types ids : List ℕ) → list_all (defined before) ids ≡ true → have_each (is_constant_of m) types ids ≡ true → all_pass (map (is_shaped m) types) (map (constant_in m before) ids) ≡ true
  each_shaped [] [] there is = refl
  each_shaped [] (id ∷ ids) there is = absurd (false≢true is)
  each_shaped (type ∷ types) [] there is = absurd (false≢true is)
  each_shaped (type ∷ types) (id ∷ ids) there is =
      let p = and_parts (defined before id) (list_all (defined before) ids) there in
      let q = and_parts (is_constant_of m type id) (have_each (is_constant_of m) types ids) is in
      and_from _ _ (part_shaped type id p.0 q.0) (each_shaped types ids p.1 q.1)

  parts_shaped : (s : Shape) (ids : List ℕ) → list_all (defined before) ids ≡ true → are_parts m (is_constant_of m) ids s ≡ true → shaped_as m (is_shaped m) s (Many (map (constant_in m before) ids)) ≡ true
  parts_shaped (OfVector component count) ids there is =
      let both = and_parts (length ids == count) (list_all (is_constant_of m component) ids) is in
      parts_pass (replicate count (is_shaped m component)) (map (constant_in m before) ids)
      (subst (λ n. all_pass (replicate n (is_shaped m component)) (map (constant_in m before) ids) ≡ true) (eqb-true (length ids) count both.0) (all_shaped component ids there both.1))
  parts_shaped (OfArray element size) ids there is = by_count (value_of (defined_as m size)) is
    where
      by_count : (o : Option ℕ) → have_all (is_constant_of m) element o ids ≡ true → has_parts (replicate (unwrap_or o 0) (is_shaped m element)) (Many (map (constant_in m before) ids)) ≡ true
      by_count None is = absurd (false≢true is)
      by_count (Some count) is =
          let both = and_parts (length ids == count) (list_all (is_constant_of m element) ids) is in
          parts_pass (replicate count (is_shaped m element)) (map (constant_in m before) ids)
          (subst (λ n. all_pass (replicate n (is_shaped m element)) (map (constant_in m before) ids) ≡ true) (eqb-true (length ids) count both.0) (all_shaped element ids there both.1))
  parts_shaped (OfStruct id members) ids there is = parts_pass (map (is_shaped m) members) (map (constant_in m before) ids) (each_shaped members ids there is)
  parts_shaped _ ids there is = absurd (false≢true is)

  parts_value : (s : Shape) (ids : List ℕ) → are_parts m (is_constant_of m) ids s ≡ true → is_value_shape s ≡ true
  parts_value (OfVector component count) ids is = refl
  parts_value (OfArray element size) ids is = refl
  parts_value (OfStruct id members) ids is = refl
  parts_value _ ids is = absurd (false≢true is)

  fixed_shaped : (i : Instr) (type : ℕ) (value : Fixed) → list_all (defined before) (listed_in value) ≡ true → is_fixed m type value ≡ true → is_shaped m type (fixed m (constant_in m before) i type value) ≡ true
  fixed_shaped i type Truth there is = word_shaped m kept type (truth_of i) (or_right (is_int m type) _ is)
  fixed_shaped i type (OneWord word) there is = word_shaped m kept type word (or_left _ _ is)
  fixed_shaped i type (Parts ids) there is = unfolds m kept type (Many (map (constant_in m before) ids)) (parts_value (shape_of (defined_as m type)) ids is) ∙ parts_shaped (shape_of (defined_as m type)) ids there is
  fixed_shaped i type Zeros there is = zeros_shaped m kept type is

module _ (m : Module) (kept : Kept m) where
  constant_shaped_in : (before : Code) → KeepBack m before → (id type : ℕ) (value : Fixed) → defined before id ≡ true → constant_is (defined_as m id) ≡ Some (type, value) → is_shaped m type (constant_in m before id) ≡ true
  constant_shaped_in [] back id type value there is = absurd (false≢true there)
  constant_shaped_in (i ∷ before) back id type value there is = by_test (defines i id) refl there (constant_shaped_in before back.1)
    where
      by_test : (b : Bool) → defines i id ≡ b → (b || defined before id) ≡ true → ((id type : ℕ) (value : Fixed) → defined before id ≡ true → constant_is (defined_as m id) ≡ Some (type, value) → is_shaped m type (constant_in m before id) ≡ true)
          → is_shaped m type (if b then fixed_if m (constant_in m before) i (constant_is (read i)) else constant_in m before id) ≡ true
      by_test true here there later =
          let keeps : Keeps m before i back.0.0 = back.0.1 in
          let reads : constant_is (read i) ≡ Some (type, value) = ap constant_is (sym (keeps.own id (defines_result i id here))) ∙ is in
          let needed = listed_needed (defined before) (read i) (and_parts (list_all (defined before) (needs (read i))) _ keeps.uses).0 in
          ap (λ o. is_shaped m type (fixed_if m (constant_in m before) i o)) reads
          ∙ fixed_shaped m kept before later i type value (ap (λ o. list_all (defined before) (listed o)) (sym reads) ∙ needed) (ap (is_constant m) (sym is) ∙ constant_at m kept id)
      by_test false here there later = later id type value there is

  -- a constant has the shape of its type
  pub constant_shaped : (id type : ℕ) (value : Fixed) → constant_is (defined_as m id) ≡ Some (type, value) → is_shaped m type (constant m id) ≡ true
  constant_shaped id type value is = constant_shaped_in (whole m) (keep_back m [] m.instrs kept.all tt) id type value (by_definition (defined_as m id) refl is) is
    where
      by_definition : (o : Option Instruction) → defined_as m id ≡ o → constant_is o ≡ Some (type, value) → defined (whole m) id ≡ true
      by_definition None e is = absurd (cc)
      by_definition (Some d) e is = let f = found m [] m.instrs id d kept.all e in kept_behind m (f.instr ∷ f.before) f.code id f.later (or_left _ _ (result_defines f.instr id f.gives))
