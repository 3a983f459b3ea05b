-- The words that built-in functions give are words of their types.
use Rattle.std.proofs.Common.{◌≡◌, refl, sym, ap, ◌∙◌, subst, ℕ, zero, suc, ◌+◌, ◌-◌, ◌^◌, ◌<◌, ◌≤◌, Bool, true, false, ◌&&◌, if◌then◌else◌, List, [], ◌∷◌, Some, arith}
use Rattle.std.specs.Prelude.{pos, ◌==◌, nat_eq, nat_lt, nat_le, slice_index, unsigned_abs}
use Rattle.std.specs.Int.{bit_at}
use Rattle.std.proofs.lemmas.Bool.{false≢true, true≢false}
use Rattle.std.proofs.lemmas.Nat.Bits.{bit_at-lt}
use Rattle.gsl_types.specs.declared.ty.Scalar.{Scalar}
use Rattle.gsl_types.specs.declared.ty.Scalar.TheVariants.{Bool as Boolean, Int, Uint}
use Rattle.gsl_values.specs.declared.function.Builtin.{Builtin}
use Rattle.gsl_values.specs.declared.function.Builtin.TheVariants as f
use Rattle.gsl_values.specs.Functions.{builtin_answer, builtin_word, extracted_bit, inserted_bit, is_free_call, ones_below}
use Rattle.gsl_values.specs.Word.{value}
use Rattle.gsl_tree.specs.Shapes.{Shape, built_four, built_one, built_shape, built_three, built_two, is_boolean, is_count, is_int, is_integer, is_vector, same_scalar, same_shape, serves_beside, when}
use Rattle.gsl_tree.specs.Values.{is_word_of}
use Rattle.gsl_typed_law.specs.Given.{AreChoices}
use Rattle.gsl_typed_law.proofs.Bounds.{Fits, answer_fits, bits_below, first_of, truth_fits, when_is, word_of_below}

-- whether a function joins the components of a vector
abbrev pub joins : Builtin → Bool
joins f.Any = true
joins f.All = true
joins _ = false

abbrev gives_integer : Builtin → Bool
gives_integer f.Abs = true
gives_integer f.Sign = true
gives_integer f.Min = true
gives_integer f.Max = true
gives_integer f.Clamp = true
gives_integer f.BitCount = true
gives_integer f.FindLsb = true
gives_integer f.FindMsb = true
gives_integer f.BitfieldReverse = true
gives_integer f.BitfieldExtract = true
gives_integer f.BitfieldInsert = true
gives_integer _ = false

abbrev gives_truth : Builtin → Bool
gives_truth f.LessThan = true
gives_truth f.LessThanEqual = true
gives_truth f.GreaterThan = true
gives_truth f.GreaterThanEqual = true
gives_truth f.Equal = true
gives_truth f.NotEqual = true
gives_truth f.Not = true
gives_truth _ = false

-- What a function needs of the words of its arguments, to give a word of a scalar type: only what picks one of two needs that both are.
abbrev pub Needs : Builtin → Scalar → List ℕ → Type 0
Needs f.Mix s words = (is_word_of s (slice_index words 0) ≡ true) × (is_word_of s (slice_index words 1) ≡ true)
Needs _ s words = Unit {0}

abbrev pub Answers : Builtin → Scalar → Type 0
Answers which s = (signed : Bool) (words choices : List ℕ) → Needs which s words → AreChoices choices → Fits s (builtin_answer which signed words choices)

-- ---- integers

ones_at_most : (a k : ℕ) → ones_below a k ≤ k
unfolding ones_below
ones_at_most a zero = omega arith
ones_at_most a (suc k) = omega (arith, ones_at_most a k, bit_at-lt a k)

if_bit : (b : Bool) (x y : ℕ) → x < 2 → y < 2 → (if b then x else y) < 2
if_bit true x y first second = first
if_bit false x y first second = second

extracted_below : (signed : Bool) (a offset bits i : ℕ) → extracted_bit signed a offset bits i < 2
extracted_below signed a offset bits i =
    if_bit (nat_lt i bits) (bit_at a (offset + i)) _ (bit_at-lt a (offset + i)) (if_bit (signed && nat_lt 0 bits) (bit_at a (offset + bits - 1)) 0 (bit_at-lt a (offset + bits - 1)) (omega arith))

inserted_below : (base insert offset bits i : ℕ) → inserted_bit base insert offset bits i < 2
inserted_below base insert offset bits i = if_bit (nat_le offset i && nat_lt i (offset + bits)) (bit_at insert (i - offset)) (bit_at base i) (bit_at-lt insert (i - offset)) (bit_at-lt base i)

integer_below : (which : Builtin) (signed : Bool) (a b c d : ℕ) → gives_integer which ≡ true → builtin_word which signed a b c d < 2 ^ 32
integer_below f.Abs signed a b c d is = word_of_below (pos (unsigned_abs (value signed a)))
integer_below f.Sign signed a b c d is = word_of_below _
integer_below f.Min signed a b c d is = word_of_below _
integer_below f.Max signed a b c d is = word_of_below _
integer_below f.Clamp signed a b c d is = word_of_below _
integer_below f.BitCount signed a b c d is = omega (arith, ones_at_most a 32)
integer_below f.FindLsb signed a b c d is = word_of_below _
integer_below f.FindMsb signed a b c d is = word_of_below _
integer_below f.BitfieldReverse signed a b c d is = bits_below (λ i. bit_at a (31 - i)) (λ i. bit_at-lt a (31 - i))
integer_below f.BitfieldExtract signed a b c d is = bits_below (extracted_bit signed a b c) (extracted_below signed a b c)
integer_below f.BitfieldInsert signed a b c d is = bits_below (inserted_bit a b c d) (inserted_below a b c d)
integer_below _ signed a b c d is = absurd (false≢true is)

integers : (which : Builtin) (s : Scalar) → gives_integer which ≡ true → is_integer s ≡ true → Answers which s
unfolding builtin_answer
integers which s gives is signed words choices needs are =
    let a = slice_index words 0 in let b = slice_index words 1 in let c = slice_index words 2 in let d = slice_index words 3 in
    answer_fits s (is_free_call which b c d) (builtin_word which signed a b c d) choices is (integer_below which signed a b c d gives) are

-- ---- truth values, and one of two

truths : (which : Builtin) → gives_truth which ≡ true → Answers which Boolean
unfolding builtin_answer
truths f.LessThan gives signed words choices needs are = (truth_fits _, are)
truths f.LessThanEqual gives signed words choices needs are = (truth_fits _, are)
truths f.GreaterThan gives signed words choices needs are = (truth_fits _, are)
truths f.GreaterThanEqual gives signed words choices needs are = (truth_fits _, are)
truths f.Equal gives signed words choices needs are = (truth_fits _, are)
truths f.NotEqual gives signed words choices needs are = (truth_fits _, are)
truths f.Not gives signed words choices needs are = (truth_fits _, are)
truths _ gives signed words choices needs are = absurd (false≢true gives)

one_of : (s : Scalar) (b : Bool) (x y : ℕ) → is_word_of s x ≡ true → is_word_of s y ≡ true → is_word_of s (if b then x else y) ≡ true
one_of s true x y first second = first
one_of s false x y first second = second

mixes : (s : Scalar) → Answers f.Mix s
unfolding builtin_answer
mixes s signed words choices needs are = (one_of s (slice_index words 2 == 0) (slice_index words 0) (slice_index words 1) needs.0 needs.1, are)

-- ---- by shapes

-- Where the first argument has so many components, a function gives as many, of the scalar type of a shape.
abbrev Built : Builtin → ℕ → Shape → Type 0
Built which n z = Answers which z.0 × (n ≡ z.1)

integer_built : (which : Builtin) (test : Bool) (n : ℕ) (x z : Shape) → gives_integer which ≡ true → (test ≡ true → is_integer x.0 ≡ true) → n ≡ x.1 → when test x ≡ Some z → Built which n z
integer_built which test n x z gives is same e =
    let w = when_is test x z e in (integers which z.0 gives (subst (λ (q : Shape). is_integer q.0 ≡ true) w.1 (is w.0)), same ∙ ap (λ (q : Shape). q.1) w.1)

truth_built : (which : Builtin) (test : Bool) (n : ℕ) (z : Shape) → gives_truth which ≡ true → when test (Boolean, n) ≡ Some z → Built which n z
truth_built which test n z gives e = let w = when_is test (Boolean, n) z e in (subst (λ (q : Shape). Answers which q.0) w.1 (truths which gives), ap (λ (q : Shape). q.1) w.1)

int_integer : (s : Scalar) → is_int s ≡ true → is_integer s ≡ true
int_integer Boolean is = absurd (false≢true is)
int_integer Int is = refl
int_integer Uint is = absurd (false≢true is)

boolean_is : (s : Scalar) → is_boolean s ≡ true → s ≡ Boolean
boolean_is Boolean is = refl
boolean_is Int is = absurd (false≢true is)
boolean_is Uint is = absurd (false≢true is)

one_built : (which : Builtin) (a z : Shape) → joins which ≡ false → built_one which a ≡ Some z → Built which a.1 z
one_built f.Abs a z each e = integer_built f.Abs (is_int a.0) a.1 a z refl (int_integer a.0) refl e
one_built f.Sign a z each e = integer_built f.Sign (is_int a.0) a.1 a z refl (int_integer a.0) refl e
one_built f.Any a z each e = absurd (true≢false each)
one_built f.All a z each e = absurd (true≢false each)
one_built f.Not a z each e =
    let w = when_is (is_boolean a.0 && is_vector a) a z e in
    (subst (Answers f.Not) (sym (boolean_is a.0 (first_of (is_boolean a.0) (is_vector a) w.0)) ∙ ap (λ (q : Shape). q.0) w.1) (truths f.Not refl), ap (λ (q : Shape). q.1) w.1)
one_built f.BitCount a z each e = integer_built f.BitCount (is_integer a.0) a.1 (Int, a.1) z refl (λ is. refl) refl e
one_built f.FindLsb a z each e = integer_built f.FindLsb (is_integer a.0) a.1 (Int, a.1) z refl (λ is. refl) refl e
one_built f.FindMsb a z each e = integer_built f.FindMsb (is_integer a.0) a.1 (Int, a.1) z refl (λ is. refl) refl e
one_built f.BitfieldReverse a z each e = integer_built f.BitfieldReverse (is_integer a.0) a.1 a z refl (λ is. is) refl e
one_built _ a z each e = absurd cc

bounded_built : (which : Builtin) (a b z : Shape) → gives_integer which ≡ true → when (is_integer a.0 && same_scalar a.0 b.0 && serves_beside a.1 b.1) a ≡ Some z → Built which a.1 z
bounded_built which a b z gives e =
    integer_built which (is_integer a.0 && same_scalar a.0 b.0 && serves_beside a.1 b.1) a.1 a z gives
    (λ is. first_of (is_integer a.0) (same_scalar a.0 b.0) (first_of (is_integer a.0 && same_scalar a.0 b.0) (serves_beside a.1 b.1) is)) refl e

two_built : (which : Builtin) (a b z : Shape) → built_two which a b ≡ Some z → Built which a.1 z
two_built f.Min a b z e = bounded_built f.Min a b z refl e
two_built f.Max a b z e = bounded_built f.Max a b z refl e
two_built f.LessThan a b z e = truth_built f.LessThan (is_integer a.0 && same_shape a b && is_vector a) a.1 z refl e
two_built f.LessThanEqual a b z e = truth_built f.LessThanEqual (is_integer a.0 && same_shape a b && is_vector a) a.1 z refl e
two_built f.GreaterThan a b z e = truth_built f.GreaterThan (is_integer a.0 && same_shape a b && is_vector a) a.1 z refl e
two_built f.GreaterThanEqual a b z e = truth_built f.GreaterThanEqual (is_integer a.0 && same_shape a b && is_vector a) a.1 z refl e
two_built f.Equal a b z e = truth_built f.Equal (same_shape a b && is_vector a) a.1 z refl e
two_built f.NotEqual a b z e = truth_built f.NotEqual (same_shape a b && is_vector a) a.1 z refl e
two_built _ a b z e = absurd cc

three_built : (which : Builtin) (a b c z : Shape) → built_three which a b c ≡ Some z → Built which a.1 z
three_built f.Clamp a b c z e =
    integer_built f.Clamp (is_integer a.0 && same_scalar a.0 b.0 && same_shape b c && serves_beside a.1 b.1) a.1 a z refl
    (λ is. first_of (is_integer a.0) (same_scalar a.0 b.0) (first_of (is_integer a.0 && same_scalar a.0 b.0) (same_shape b c) (first_of (is_integer a.0 && same_scalar a.0 b.0 && same_shape b c) (serves_beside a.1 b.1) is))) refl e
three_built f.Mix a b c z e = let w = when_is (same_shape a b && is_boolean c.0 && nat_eq c.1 a.1) a z e in (mixes z.0, ap (λ (q : Shape). q.1) w.1)
three_built f.BitfieldExtract a b c z e =
    integer_built f.BitfieldExtract (is_integer a.0 && is_count b && is_count c) a.1 a z refl (λ is. first_of (is_integer a.0) (is_count b) (first_of (is_integer a.0 && is_count b) (is_count c) is)) refl e
three_built _ a b c z e = absurd cc

four_built : (which : Builtin) (a b c d z : Shape) → built_four which a b c d ≡ Some z → Built which a.1 z
four_built f.BitfieldInsert a b c d z e =
    integer_built f.BitfieldInsert (is_integer a.0 && same_shape a b && is_count c && is_count d) a.1 a z refl
    (λ is. first_of (is_integer a.0) (same_shape a b) (first_of (is_integer a.0 && same_shape a b) (is_count c) (first_of (is_integer a.0 && same_shape a b && is_count c) (is_count d) is))) refl e
four_built _ a b c d z e = absurd cc

-- how many components the first argument has
abbrev pub first_size : List Shape → ℕ
first_size [] = 0
first_size (shape ∷ shapes) = shape.1

pub shapes_built : (which : Builtin) (shapes : List Shape) (z : Shape) → joins which ≡ false → built_shape which shapes ≡ Some z → Answers which z.0 × (first_size shapes ≡ z.1)
shapes_built which [] z each e = absurd cc
shapes_built which (a ∷ []) z each e = one_built which a z each e
shapes_built which (a ∷ b ∷ []) z each e = two_built which a b z e
shapes_built which (a ∷ b ∷ c ∷ []) z each e = three_built which a b c z e
shapes_built which (a ∷ b ∷ c ∷ d ∷ []) z each e = four_built which a b c d z e
shapes_built which (a ∷ b ∷ c ∷ d ∷ x ∷ rest) z each e = absurd cc
