-- Which tokens are a condition, and of which value (GLSL 4.50, 3.3). `Reading` computes it: the law `conditions_are_read`.
use Rattle.std.specs.Prelude.{◌≡◌, ℕ, ◌+◌, ◌≤◌, false, List, [], ◌∷◌, ◌++◌, Some, None, Ok, Err}
use Rattle.gsl_base.specs.declared.fault.Code.TheVariants.{E0204}
use Rattle.gsl_base.specs.declared.token.Punct.{Punct}
use Rattle.gsl_macros.specs.declared.stream.Hid.{Hid}
use Rattle.gsl_macros.specs.Expanding.{Seen, at}
use Rattle.gsl_macros.specs.Spelling.{word_of, punct_of}
use Rattle.gsl_conditions.specs.declared.operator.Binary.{Binary}
use Rattle.gsl_conditions.specs.declared.operator.Unary.{Unary}
use Rattle.gsl_conditions.specs.declared.operator.Prefix.TheVariants as due
use Rattle.gsl_conditions.specs.declared.operator.Infix.TheVariants as after
use Rattle.gsl_conditions.specs.Operators.{prefix_of, infix_of, level}
use Rattle.gsl_conditions.specs.Values.{Value, literal, unary_value, binary_value}
use Rattle.gsl_conditions.specs.Reading.{is_defined}

-- a token that is a number
pub record IsNumber (t : Hid) (n : ℕ) : Type 0 where
  pub no_word : word_of t.spelled ≡ None
  pub no_mark : punct_of t.spelled ≡ None
  pub is : literal t.place t.spelled ≡ Some n

-- a token that is a name, and not the word `defined`
pub record IsName (t : Hid) : Type 0 where
  pub word : List ℕ
  pub spelled : word_of t.spelled ≡ Some word
  pub plain : is_defined word ≡ false

-- a token that is a punctuator
pub record IsMark (t : Hid) (mark : Punct) : Type 0 where
  pub no_word : word_of t.spelled ≡ None
  pub is : punct_of t.spelled ≡ Some mark

-- The tokens are a part of a condition of this value, in which the operators outside of parentheses bind at least so tightly: one
-- operand binds as tightly as a part can, 11, and a sign too.
pub data IsPart : ℕ → Seen → Value → Type 0 where
  number : {least n : ℕ} (t : Hid) → least ≤ 11 → IsNumber t n → IsPart least (t ∷ []) (Ok n)
  name : {least : ℕ} (t : Hid) → least ≤ 11 → IsName t → IsPart least (t ∷ []) (Err (at t.place E0204))
  parenthesis : {least : ℕ} {ts : Seen} {v : Value} {mark end : Punct} (o c : Hid) → least ≤ 11 → IsMark o mark → prefix_of mark ≡ due.Opens → IsPart 0 ts v
      → IsMark c end → infix_of end ≡ after.Closes → IsPart least (o ∷ (ts ++ c ∷ [])) v
  sign : {least : ℕ} {ts : Seen} {v : Value} {mark : Punct} (t : Hid) (op : Unary) → least ≤ 11 → IsMark t mark → prefix_of mark ≡ due.Sign op → IsPart 11 ts v
      → IsPart least (t ∷ ts) (unary_value op v)
  operation : {least : ℕ} {xs ys : Seen} {v w : Value} {mark : Punct} (t : Hid) (op : Binary) → least ≤ level op → IsMark t mark → infix_of mark ≡ after.Joins op
      → IsPart (level op) xs v → IsPart (level op + 1) ys w → IsPart least (xs ++ t ∷ ys) (binary_value op t.place v w)

-- The tokens are a condition of this value.
abbrev pub IsCondition : Seen → Value → Type 0
IsCondition ts v = IsPart 0 ts v
