-- How many words values and zeros have.
use Rattle.std.proofs.Common.{◌≡◌, refl, sym, ap, ◌∙◌, ℕ, zero, suc, ◌+◌, ◌*◌, ◌≤◌, Bool, true, false, if◌then◌else◌, List, [], ◌∷◌, ◌++◌, map, replicate, take, length, length-append, arith}
use Rattle.std.specs.List.{sum_by}
use Rattle.std.proofs.lemmas.Bool.{and_parts, false≢true}
use Rattle.std.proofs.lemmas.List.{replicate-append-replicate}
use Rattle.std.proofs.lemmas.List.Sums.{sum_by-cons}
use Rattle.gsl_words.specs.declared.module.Module.{Module}
use Rattle.gsl_values.specs.declared.value.Value.{Value}
use Rattle.gsl_values.specs.declared.value.Value.TheOpen.{Value-F}
use Rattle.gsl_values.specs.declared.value.Value.TheVariants.{Word, Many, rolls-Many, rolls-Word}
use Rattle.gsl_values.specs.declared.value.Value.TheViews.{out-Value, roll-Value, roll-out-Value}
use Rattle.gsl_tree.specs.Values.{all_pass, has_parts, has_parts_layer, parts_in, parts_layer}
use Rattle.gsl_valid.specs.Ids.{defines}
use Rattle.gsl_valid.specs.Instruction.{read}
use Rattle.gsl_valid.specs.Kinds.{Shape, OfVoid, OfBool, OfInt, OfVector, OfArray, OfRuntimeArray, OfStruct, OfPointer, OfFunction, NoType, shape_of}
use Rattle.gsl_valid.specs.Placed.{Code}
use Rattle.gsl_machine.specs.Constants.{length_by, nothing, zeros_as, zeros_in}
use Rattle.gsl_sound_values.specs.Shaped.{is_word, is_word_layer, shaped_as, shaped_in}
use Rattle.gsl_leaves.specs.Leaves.{leaves_as, leaves_in}
use Rattle.gsl_region.specs.Flat.{flat, flat_all}
use Rattle.gsl_region.proofs.Focus.{flat_many, flat_word}

-- ---- words, and what has parts

-- It has these parts.
pub record IsMany (v : Value) (vs : List Value) : Type 0 where
  pub is : v ≡ Many vs
  pub parts : parts_in v ≡ vs

many_layer : (tests : List (Value → Bool)) (v : Value) (layer : Value-F Value) → out-Value v ≡ layer → has_parts_layer tests layer ≡ true → (vs : List Value) × IsMany v vs × (all_pass tests vs ≡ true)
many_layer tests v (Value-F.Word word) is passes = absurd (false≢true passes)
many_layer tests v (Value-F.Many vs) is passes = (vs, record { is = sym (roll-out-Value v) ∙ ap roll-Value is ∙ rolls-Many vs; parts = ap parts_layer is }, passes)

pub many_there : (tests : List (Value → Bool)) (v : Value) → has_parts tests v ≡ true → (vs : List Value) × IsMany v vs × (all_pass tests vs ≡ true)
many_there tests v is = many_layer tests v (out-Value v) refl is

pub no_parts : (v : Value) (layer : Value-F Value) → out-Value v ≡ layer → is_word_layer layer ≡ true → length (parts_in v) ≡ 0
no_parts v (Value-F.Word word) is passes = ap (λ l. length (parts_layer l)) is
no_parts v (Value-F.Many vs) is passes = absurd (false≢true passes)

word_layer_there : (v : Value) (layer : Value-F Value) → out-Value v ≡ layer → is_word_layer layer ≡ true → (word : ℕ) × (v ≡ Word word)
word_layer_there v (Value-F.Word word) is passes = (word, sym (roll-out-Value v) ∙ ap roll-Value is ∙ rolls-Word word)
word_layer_there v (Value-F.Many vs) is passes = absurd (false≢true passes)

one_word : (v : Value) → is_word v ≡ true → length (flat v) ≡ 1
one_word v is = let w = word_layer_there v (out-Value v) refl is in ap (λ u. length (flat u)) w.1 ∙ ap length (flat_word w.0)

-- ---- the words of values of a shape

module _ (f : ℕ → Value → Bool) (g : ℕ → ℕ) (each : (type : ℕ) (v : Value) → f type v ≡ true → length (flat v) ≡ g type) where
  same_counted : (type n : ℕ) (vs : List Value) → all_pass (replicate n (f type)) vs ≡ true → length (flat_all vs) ≡ n * g type
  same_counted type zero [] is = omega arith
  same_counted type zero (v ∷ vs) is = absurd (false≢true is)
  same_counted type (suc n) [] is = absurd (false≢true is)
  same_counted type (suc n) (v ∷ vs) is =
      let parts = and_parts (f type v) (all_pass (replicate n (f type)) vs) is in
      omega (arith, length-append (flat v) (flat_all vs), each type v parts.0, same_counted type n vs parts.1)

  pub members_counted : (types : List ℕ) (vs : List Value) → all_pass (map f types) vs ≡ true → length (flat_all vs) ≡ sum_by g types
  members_counted [] [] is = refl
  members_counted [] (v ∷ vs) is = absurd (false≢true is)
  members_counted (type ∷ types) [] is = absurd (false≢true is)
  members_counted (type ∷ types) (v ∷ vs) is =
      let parts = and_parts (f type v) (all_pass (map f types) vs) is in
      omega (arith, length-append (flat v) (flat_all vs), each type v parts.0, members_counted types vs parts.1, sum_by-cons g type types)

  -- the words of the first parts
  pub same_ahead : (type n k : ℕ) (vs : List Value) → all_pass (replicate n (f type)) vs ≡ true → k ≤ n → length (flat_all (take k vs)) ≡ k * g type
  same_ahead type n zero vs is low = omega arith
  same_ahead type zero (suc k) vs is low = absurd (omega (arith, low))
  same_ahead type (suc n) (suc k) [] is low = absurd (false≢true is)
  same_ahead type (suc n) (suc k) (v ∷ vs) is low =
      let parts = and_parts (f type v) (all_pass (replicate n (f type)) vs) is in
      omega (arith, length-append (flat v) (flat_all (take k vs)), each type v parts.0, same_ahead type n k vs parts.1 (omega (arith, low)))

  pub members_ahead : (types : List ℕ) (k : ℕ) (vs : List Value) → all_pass (map f types) vs ≡ true → length (flat_all (take k vs)) ≡ sum_by g (take k types)
  members_ahead types zero vs is = refl
  members_ahead [] (suc k) [] is = refl
  members_ahead [] (suc k) (v ∷ vs) is = absurd (false≢true is)
  members_ahead (type ∷ types) (suc k) [] is = absurd (false≢true is)
  members_ahead (type ∷ types) (suc k) (v ∷ vs) is =
      let parts = and_parts (f type v) (all_pass (map f types) vs) is in
      omega (arith, length-append (flat v) (flat_all (take k vs)), each type v parts.0, members_ahead types k vs parts.1, sum_by-cons g type (take k types))

  of_parts : (tests : List (Value → Bool)) (v : Value) (count : ℕ) → has_parts tests v ≡ true → ((vs : List Value) → all_pass tests vs ≡ true → length (flat_all vs) ≡ count) → length (flat v) ≡ count
  of_parts tests v count is counts = let p = many_there tests v is in ap (λ u. length (flat u)) p.1.is ∙ ap length (flat_many p.0) ∙ counts p.0 p.2

  pub counted_as : (m : Module) (s : Shape) (v : Value) → shaped_as m f s v ≡ true → length (flat v) ≡ leaves_as m g s
  counted_as m OfBool v is = one_word v is
  counted_as m (OfInt signedness) v is = one_word v is
  counted_as m (OfVector component count) v is = of_parts (replicate count (f component)) v _ is (same_counted component count)
  counted_as m (OfArray element size) v is = of_parts (replicate (length_by m size) (f element)) v _ is (same_counted element (length_by m size))
  counted_as m (OfStruct id members) v is = of_parts (map f members) v _ is (members_counted members)
  counted_as m _ v is = absurd (false≢true is)

pub counted_in : (m : Module) (before : Code) (type : ℕ) (v : Value) → shaped_in m before type v ≡ true → length (flat v) ≡ leaves_in m before type
counted_in m [] type v is = absurd (false≢true is)
counted_in m (i ∷ before) type v is = by_test (counted_in m before) (defines i type) is
  where
    by_test : ((type : ℕ) (v : Value) → shaped_in m before type v ≡ true → length (flat v) ≡ leaves_in m before type) → (b : Bool) → (if b then shaped_as m (shaped_in m before) (shape_of (read i)) v else shaped_in m before type v) ≡ true
        → length (flat v) ≡ (if b then leaves_as m (leaves_in m before) (shape_of (read i)) else leaves_in m before type)
    by_test later true is = counted_as (shaped_in m before) (leaves_in m before) later m (shape_of (read i)) v is
    by_test later false is = later type v is

-- ---- zeros

no_words : flat nothing ≡ []
no_words = flat_many []

same_zeros : (z : Value) (k : ℕ) → flat z ≡ replicate k 0 → (n : ℕ) → flat_all (replicate n z) ≡ replicate (n * k) 0
same_zeros z k is zero = ap (λ j. replicate j 0) (let e : 0 ≡ 0 * k = omega arith in e)
same_zeros z k is (suc n) =
    ap (λ l. l ++ flat_all (replicate n z)) is ∙ ap (λ l. replicate k 0 ++ l) (same_zeros z k is n) ∙ replicate-append-replicate k (n * k) 0
    ∙ ap (λ j. replicate j 0) (let e : k + n * k ≡ suc n * k = omega arith in e)

module _ (f : ℕ → Value) (g : ℕ → ℕ) (each : (type : ℕ) → flat (f type) ≡ replicate (g type) 0) where
  member_zeros : (types : List ℕ) → flat_all (map f types) ≡ replicate (sum_by g types) 0
  member_zeros [] = refl
  member_zeros (type ∷ types) =
      ap (λ l. l ++ flat_all (map f types)) (each type) ∙ ap (λ l. replicate (g type) 0 ++ l) (member_zeros types) ∙ replicate-append-replicate (g type) (sum_by g types) 0
      ∙ ap (λ j. replicate j 0) (sym (sum_by-cons g type types))

  zeros_counted : (m : Module) (s : Shape) → flat (zeros_as m f s) ≡ replicate (leaves_as m g s) 0
  zeros_counted m OfVoid = no_words
  zeros_counted m OfBool = flat_word 0
  zeros_counted m (OfInt signedness) = flat_word 0
  zeros_counted m (OfVector component count) = flat_many (replicate count (f component)) ∙ same_zeros (f component) (g component) (each component) count
  zeros_counted m (OfArray element size) = flat_many (replicate (length_by m size) (f element)) ∙ same_zeros (f element) (g element) (each element) (length_by m size)
  zeros_counted m (OfRuntimeArray element) = no_words
  zeros_counted m (OfStruct id members) = flat_many (map f members) ∙ member_zeros members
  zeros_counted m (OfPointer class pointee) = no_words
  zeros_counted m (OfFunction returned parameters) = no_words
  zeros_counted m NoType = no_words

pub zeros_are : (m : Module) (before : Code) (type : ℕ) → flat (zeros_in m before type) ≡ replicate (leaves_in m before type) 0
zeros_are m [] type = no_words
zeros_are m (i ∷ before) type = by_test (zeros_are m before) (defines i type)
  where
    by_test : ((type : ℕ) → flat (zeros_in m before type) ≡ replicate (leaves_in m before type) 0) → (b : Bool) → flat (if b then zeros_as m (zeros_in m before) (shape_of (read i)) else zeros_in m before type)
        ≡ replicate (if b then leaves_as m (leaves_in m before) (shape_of (read i)) else leaves_in m before type) 0
    by_test later true = zeros_counted (zeros_in m before) (leaves_in m before) later m (shape_of (read i))
    by_test later false = later type
