-- The words of constants, and the parts that there are of a value.
use Rattle.std.proofs.Common.{◌≡◌, refl, sym, ap, ◌∙◌, ℕ, zero, suc, Bool, true, false, ◌||◌, if◌then◌else◌, nat_lt, List, [], ◌∷◌, map, replicate, length, slice_index, unwrap_or, Option, Some, None, arith}
use Rattle.std.proofs.lemmas.Bool.{and_parts, cond-true, ltb-true, or_left, false≢true}
use Rattle.gsl_instr.specs.declared.instruction.Instruction.{Instruction}
use Rattle.gsl_words.specs.declared.module.Module.{Module}
use Rattle.gsl_values.specs.declared.value.Value.{Value}
use Rattle.gsl_values.specs.declared.value.Value.TheOpen.{Value-F}
use Rattle.gsl_values.specs.declared.value.Value.TheVariants.{Word}
use Rattle.gsl_values.specs.declared.value.Value.TheViews.{out-Value}
use Rattle.gsl_tree.specs.Values.{all_pass, has_parts_layer, parts_in, parts_layer}
use Rattle.gsl_valid.specs.Ids.{defined, defines}
use Rattle.gsl_valid.specs.Instruction.{read}
use Rattle.gsl_valid.specs.Kinds.{Shape, OfVector, OfArray, OfRuntimeArray, OfStruct, Value as Fixed, Truth, Word as OneWord, Parts, Zeros, constant_is, shape_of, value_of, word_if}
use Rattle.gsl_valid.specs.MemoryRules.{member_at, part_by}
use Rattle.gsl_valid.specs.OperandRules.{if_below, part_of_at}
use Rattle.gsl_valid.specs.Placed.{Code}
use Rattle.gsl_valid.specs.Search.{whole}
use Rattle.gsl_valid.specs.Types.{defined_as}
use Rattle.gsl_machine.specs.Constants.{constant, constant_in, fixed_if, length_by}
use Rattle.gsl_sound_code.specs.Rules.{Keeps}
use Rattle.gsl_sound_code.proofs.Looks.{Kept, defines_result, found, kept_behind}
use Rattle.gsl_sound_ids.proofs.Laid.{KeepBack, keep_back}
use Rattle.gsl_sound_values.specs.Shaped.{is_shaped, shaped_as}
use Rattle.gsl_sound_values.proofs.Unfolded.{result_defines, shape_unfolds}

-- ---- the words of constants

module _ (m : Module) (kept : Kept m) where
  word_in_code : (before : Code) → KeepBack m before → (id type word : ℕ) → defined before id ≡ true → constant_is (defined_as m id) ≡ Some (type, OneWord word) → constant_in m before id ≡ Word word
  word_in_code [] back id type word there is = absurd (false≢true there)
  word_in_code (i ∷ before) back id type word there is = by_test (defines i id) refl there (λ later. word_in_code before back.1 id type word later is)
    where
      by_test : (b : Bool) → defines i id ≡ b → (b || defined before id) ≡ true → (defined before id ≡ true → constant_in m before id ≡ Word word)
          → (if b then fixed_if m (constant_in m before) i (constant_is (read i)) else constant_in m before id) ≡ Word word
      by_test true here there later =
          let keeps : Keeps m before i back.0.0 = back.0.1 in
          ap (fixed_if m (constant_in m before) i) (ap constant_is (sym (keeps.own id (defines_result i id here))) ∙ is)
      by_test false here there later = later there

  -- a constant of one word is that word
  pub constant_word : (id word : ℕ) → value_of (defined_as m id) ≡ Some word → constant m id ≡ Word word
  constant_word id word is = by_constant (constant_is (defined_as m id)) refl is
    where
      there : (type w : ℕ) → constant_is (defined_as m id) ≡ Some (type, OneWord w) → defined (whole m) id ≡ true
      there type w e = by_definition (defined_as m id) refl e
        where
          by_definition : (o : Option Instruction) → defined_as m id ≡ o → constant_is o ≡ Some (type, OneWord w) → defined (whole m) id ≡ true
          by_definition None here e = absurd (cc)
          by_definition (Some d) here e = let f = found m [] m.instrs id d kept.all here in kept_behind m (f.instr ∷ f.before) f.code id f.later (or_left _ _ (result_defines f.instr id f.gives))

      by_fixed : (type : ℕ) (value : Fixed) → constant_is (defined_as m id) ≡ Some (type, value) → word_if (Some (type, value)) ≡ Some word → constant m id ≡ Word word
      by_fixed type Truth e is = absurd (cc)
      by_fixed type (OneWord w) e is = let same : w ≡ word = cc in word_in_code (whole m) (keep_back m [] m.instrs kept.all tt) id type w (there type w e) e ∙ ap Word same
      by_fixed type (Parts parts) e is = absurd (cc)
      by_fixed type Zeros e is = absurd (cc)

      by_constant : (o : Option (ℕ × Fixed)) → constant_is (defined_as m id) ≡ o → word_if o ≡ Some word → constant m id ≡ Word word
      by_constant None e is = absurd (cc)
      by_constant (Some c) e is = by_fixed c.0 c.1 e is

-- ---- the parts that there are

counted : (tests : List (Value → Bool)) (vs : List Value) → all_pass tests vs ≡ true → length vs ≡ length tests
counted [] [] all = refl
counted [] (v ∷ vs) all = absurd (false≢true all)
counted (test ∷ tests) [] all = absurd (false≢true all)
counted (test ∷ tests) (v ∷ vs) all = ap suc (counted tests vs (and_parts (test v) (all_pass tests vs) all).1)

counted_layer : (tests : List (Value → Bool)) (layer : Value-F Value) → has_parts_layer tests layer ≡ true → length (parts_layer layer) ≡ length tests
counted_layer tests (Value-F.Word word) is = absurd (false≢true is)
counted_layer tests (Value-F.Many parts) is = counted tests parts is

replicated : {A : Type 0} (n : ℕ) (a : A) → length (replicate n a) ≡ n
replicated zero a = refl
replicated (suc n) a = ap suc (replicated n a)

mapped : {A B : Type 0} (f : A → B) (xs : List A) → length (map f xs) ≡ length xs
mapped f [] = refl
mapped f (x ∷ xs) = ap suc (mapped f xs)

module _ (m : Module) (kept : Kept m) where
  -- the part that an index names, where there is one, is one of the type
  pub part_named : (type index next : ℕ) (indexed : Bool) (value : Option ℕ) (v : Value) → part_by indexed value (shape_of (defined_as m type)) ≡ Some next → ((k : ℕ) → value ≡ Some k → index ≡ k) → is_shaped m type v ≡ true
      → nat_lt index (length (parts_in v)) ≡ true → part_of_at m index (shape_of (defined_as m type)) ≡ Some next
  part_named type index next indexed value v is agree shaped below = by_shape (shape_of (defined_as m type)) refl is
    where
      as_shape : (s : Shape) → shape_of (defined_as m type) ≡ s → part_by indexed value s ≡ Some next → shaped_as m (is_shaped m) s v ≡ true
      as_shape s e is = by_definition (defined_as m type) refl
        where
          by_definition : (o : Option Instruction) → defined_as m type ≡ o → shaped_as m (is_shaped m) s v ≡ true
          by_definition None d = let none : None ≡ Some next = ap (λ o. part_by indexed value (shape_of o)) (sym d) ∙ ap (part_by indexed value) e ∙ is in absurd (cc)
          by_definition (Some i) d = ap (λ s. shaped_as m (is_shaped m) s v) (sym e) ∙ sym (shape_unfolds m kept type i v d) ∙ shaped

      named : (b : Bool) (t : ℕ) → (if b then Some t else None) ≡ Some next → t ≡ next
      named true t is = cc
      named false t is = absurd (cc)

      by_length : (o : Option ℕ) (element : ℕ) → element ≡ next → nat_lt index (unwrap_or o 0) ≡ true → if_below index o element ≡ Some next
      by_length None element same low = let none = ltb-true index 0 low in absurd (omega (arith, none))
      by_length (Some n) element same low = cond-true (nat_lt index n) (Some element) None low ∙ ap Some same

      by_member : (members : List ℕ) (o : Option ℕ) → value ≡ o → member_at members o ≡ Some next → (if nat_lt index (length members) then Some (slice_index members index) else None) ≡ Some next
      by_member members None e is = absurd (cc)
      by_member members (Some k) e is = ap (λ n. if nat_lt n (length members) then Some (slice_index members n) else None) (agree k e) ∙ is

      by_shape : (s : Shape) → shape_of (defined_as m type) ≡ s → part_by indexed value s ≡ Some next → part_of_at m index s ≡ Some next
      by_shape (OfVector component count) e is =
          let n = counted_layer (replicate count (is_shaped m component)) (out-Value v) (as_shape (OfVector component count) e is) ∙ replicated count (is_shaped m component) in
          cond-true (nat_lt index count) (Some component) None (ap (nat_lt index) (sym n) ∙ below) ∙ ap Some (named indexed component is)
      by_shape (OfArray element size) e is =
          let n = counted_layer (replicate (length_by m size) (is_shaped m element)) (out-Value v) (as_shape (OfArray element size) e is) ∙ replicated (length_by m size) (is_shaped m element) in
          by_length (value_of (defined_as m size)) element (named indexed element is) (ap (nat_lt index) (sym n) ∙ below)
      by_shape (OfStruct id members) e is = by_member members value refl is
      by_shape (OfRuntimeArray element) e is = absurd (false≢true (as_shape (OfRuntimeArray element) e is))
      by_shape _ e is = absurd (cc)
