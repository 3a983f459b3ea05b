-- The words that operators give are words of their types.
use Rattle.std.proofs.Common.{◌≡◌, refl, sym, ap, ◌∙◌, subst, ℕ, zero, suc, ◌+◌, ◌-◌, ◌^◌, ◌<◌, ◌%◌, min, max, Bool, true, false, ◌&&◌, ◌||◌, List, [], ◌∷◌, Some, arith}
use Rattle.std.specs.Prelude.{ℤ, pos, negsuc, ◌==◌, nat_eq}
use Rattle.std.proofs.Math.Nat.{pow-suc}
use Rattle.std.proofs.lemmas.Nat.{mul-add-lt}
use Rattle.std.specs.Int.{bit_at}
use Rattle.std.proofs.lemmas.Bool.{and_parts, lt-ltb, false≢true}
use Rattle.std.proofs.lemmas.Nat.Bits.{bit_at-lt}
use Rattle.gsl_types.specs.declared.ty.Scalar.{Scalar}
use Rattle.gsl_types.specs.declared.ty.Scalar.TheVariants.{Bool as Boolean, Int, Uint}
use Rattle.gsl_values.specs.declared.op.BinaryOp.{BinaryOp}
use Rattle.gsl_values.specs.declared.op.BinaryOp.TheVariants.{Add, Sub, Mul, Div, Mod, Shl, Shr, And, Or, Xor, Less, LessEq, Greater, GreaterEq, Equal, Unequal}
use Rattle.gsl_values.specs.declared.op.UnaryOp.{UnaryOp}
use Rattle.gsl_values.specs.declared.op.UnaryOp.TheVariants.{Negate, Flip, Not}
use Rattle.gsl_values.specs.Choices.{answer}
use Rattle.gsl_values.specs.Operators.{binary_answer, binary_word, is_free, unary_word}
use Rattle.gsl_values.specs.Word.{of_bits, word_of, word_of_bits, word_of_bool}
use Rattle.gsl_tree.specs.Shapes.{Shape, arithmetic_shape, binary_shape, flag, is_boolean, is_integer, relation_shape, same_scalar, serves_beside, shift_shape, unary_shape, when}
use Rattle.gsl_tree.specs.Values.{is_word_of}
use Rattle.gsl_typed_law.specs.Given.{AreChoices}
use Rattle.gsl_typed_law.proofs.Components.{some_same}

-- A word of a scalar type is given, and the choices that are left are words.
abbrev pub Fits : Scalar → ℕ × List ℕ → Type 0
Fits s given = (is_word_of s given.0 ≡ true) × AreChoices given.1

-- ---- words

pub integer_fits : (s : Scalar) (word : ℕ) → is_integer s ≡ true → word < 2 ^ 32 → is_word_of s word ≡ true
integer_fits Boolean word is below = absurd (false≢true is)
integer_fits Int word is below = lt-ltb word (2 ^ 32) below
integer_fits Uint word is below = lt-ltb word (2 ^ 32) below

pub truth_fits : (b : Bool) → is_word_of Boolean (word_of_bool b) ≡ true
truth_fits true = refl
truth_fits false = refl

pub boolean_fits : (s : Scalar) (b : Bool) → is_boolean s ≡ true → is_word_of s (word_of_bool b) ≡ true
boolean_fits Boolean b is = truth_fits b
boolean_fits Int b is = absurd (false≢true is)
boolean_fits Uint b is = absurd (false≢true is)

pub word_of_below : (z : ℤ) → word_of z < 2 ^ 32
word_of_below (pos n) = omega arith
word_of_below (negsuc n) = omega arith

of_bits_below : (bit : ℕ → ℕ) (k : ℕ) → ((i : ℕ) → bit i < 2) → of_bits bit k < 2 ^ k
unfolding of_bits
of_bits_below bit zero each = omega arith
of_bits_below bit (suc k) each = rw pow-suc (mul-add-lt (bit k) (2 ^ k) (of_bits bit k) 2 (each k) (of_bits_below bit k each))

pub bits_below : (bit : ℕ → ℕ) → ((i : ℕ) → bit i < 2) → word_of_bits bit < 2 ^ 32
bits_below bit each = of_bits_below bit 32 each

pub answer_fits : (s : Scalar) (free : Bool) (word : ℕ) (choices : List ℕ) → is_integer s ≡ true → word < 2 ^ 32 → AreChoices choices → Fits s (answer free word choices)
answer_fits s false word choices is below are = (integer_fits s word is below, are)
answer_fits s true word [] is below are = (integer_fits s 0 is (omega arith), tt)
answer_fits s true word (choice ∷ choices) is below are = (integer_fits s choice is are.0, are.1)

-- ---- shapes

pub when_is : (b : Bool) (shape other : Shape) → when b shape ≡ Some other → (b ≡ true) × (shape ≡ other)
when_is true shape other e = (refl, some_same e)
when_is false shape other e = absurd cc

pub first_of : (a b : Bool) → (a && b) ≡ true → a ≡ true
first_of a b e = (and_parts a b e).0

arithmetic_integer : (x y z : Shape) → arithmetic_shape x y ≡ Some z → is_integer z.0 ≡ true
arithmetic_integer x y z is =
    let w = when_is (is_integer x.0 && same_scalar x.0 y.0 && (serves_beside x.1 y.1 || nat_eq x.1 1)) (x.0, max x.1 y.1) z is in
    ap (λ (q : Shape). is_integer q.0) (sym w.1) ∙ first_of (is_integer x.0) _ (first_of (is_integer x.0 && same_scalar x.0 y.0) _ w.0)

shift_integer : (x y z : Shape) → shift_shape x y ≡ Some z → is_integer z.0 ≡ true
shift_integer x y z is =
    let w = when_is (is_integer x.0 && is_integer y.0 && serves_beside x.1 y.1) x z is in
    ap (λ (q : Shape). is_integer q.0) (sym w.1) ∙ first_of (is_integer x.0) _ (first_of (is_integer x.0 && is_integer y.0) _ w.0)

relation_fits : (x y z : Shape) (b : Bool) (choices : List ℕ) → relation_shape x y ≡ Some z → AreChoices choices → Fits z.0 (word_of_bool b, choices)
relation_fits x y z b choices is are =
    let w = when_is (is_integer x.0 && same_scalar x.0 y.0 && nat_eq x.1 1 && nat_eq y.1 1) flag z is in
    subst (λ (q : Shape). Fits q.0 (word_of_bool b, choices)) w.1 (truth_fits b, are)

-- ---- operators

pub unary_fits : (op : UnaryOp) (word : ℕ) (x y : Shape) → unary_shape op x ≡ Some y → is_word_of y.0 (unary_word op word) ≡ true
unfolding unary_word
unary_fits Negate word x y is = let w = when_is (is_integer x.0) x y is in integer_fits y.0 _ (ap (λ (q : Shape). is_integer q.0) (sym w.1) ∙ w.0) (word_of_below _)
unary_fits Flip word x y is = let w = when_is (is_integer x.0) x y is in integer_fits y.0 _ (ap (λ (q : Shape). is_integer q.0) (sym w.1) ∙ w.0) (bits_below (λ i. 1 - bit_at word i) (λ i. omega arith))
unary_fits Not word x y is =
    let w = when_is (is_boolean x.0 && nat_eq x.1 1) x y is in boolean_fits y.0 (word == 0) (ap (λ (q : Shape). is_boolean q.0) (sym w.1) ∙ first_of (is_boolean x.0) (nat_eq x.1 1) w.0)

module _ (signed : Bool) (a b : ℕ) (choices : List ℕ) (are : AreChoices choices) (x y z : Shape) where
  arithmetic : (free : Bool) (word : ℕ) → word < 2 ^ 32 → arithmetic_shape x y ≡ Some z → Fits z.0 (answer free word choices)
  arithmetic free word below is = answer_fits z.0 free word choices (arithmetic_integer x y z is) below are

  pub binary_fits : (op : BinaryOp) → binary_shape op x y ≡ Some z → Fits z.0 (binary_answer op signed a b choices)
  unfolding binary_answer
  binary_fits Add is = arithmetic false (binary_word Add signed a b) (word_of_below _) is
  binary_fits Sub is = arithmetic false (binary_word Sub signed a b) (word_of_below _) is
  binary_fits Mul is = arithmetic false (binary_word Mul signed a b) (word_of_below _) is
  binary_fits Div is = arithmetic (is_free Div signed a b) (binary_word Div signed a b) (word_of_below _) is
  binary_fits Mod is = arithmetic (is_free Mod signed a b) (binary_word Mod signed a b) (word_of_below _) is
  binary_fits Shl is = answer_fits z.0 (is_free Shl signed a b) (binary_word Shl signed a b) choices (shift_integer x y z is) (word_of_below _) are
  binary_fits Shr is = answer_fits z.0 (is_free Shr signed a b) (binary_word Shr signed a b) choices (shift_integer x y z is) (word_of_below _) are
  binary_fits And is = arithmetic false (binary_word And signed a b) (bits_below (λ i. min (bit_at a i) (bit_at b i)) (λ i. omega (arith, bit_at-lt a i))) is
  binary_fits Or is = arithmetic false (binary_word Or signed a b) (bits_below (λ i. max (bit_at a i) (bit_at b i)) (λ i. omega (arith, bit_at-lt a i, bit_at-lt b i))) is
  binary_fits Xor is = arithmetic false (binary_word Xor signed a b) (bits_below (λ i. (bit_at a i + bit_at b i) % 2) (λ i. omega arith)) is
  binary_fits Less is = relation_fits x y z _ choices is are
  binary_fits LessEq is = relation_fits x y z _ choices is are
  binary_fits Greater is = relation_fits x y z _ choices is are
  binary_fits GreaterEq is = relation_fits x y z _ choices is are
  binary_fits Equal is = absurd cc
  binary_fits Unequal is = absurd cc
