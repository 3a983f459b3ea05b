-- Values: words, and what has parts.
use Rattle.std.specs.Prelude.{ℕ, ◌^◌, Bool, true, false, ◌&&◌, nat_eq, nat_lt, List, [], ◌∷◌, map, replicate}
use Rattle.gsl_types.specs.declared.ty.Scalar.{Scalar}
use Rattle.gsl_types.specs.declared.ty.Scalar.TheVariants.{Bool as Boolean, Int, Uint}
use Rattle.gsl_types.specs.declared.ty.Ty.{Ty}
use Rattle.gsl_types.specs.declared.ty.Ty.TheOpen.{Ty-F}
use Rattle.gsl_types.specs.declared.ty.StructType.{StructType}
use Rattle.gsl_types.specs.Structs.{Meaning, meaning}
use Rattle.gsl_values.specs.declared.value.Value.{Value}
use Rattle.gsl_values.specs.declared.value.Value.TheOpen.{Value-F}
use Rattle.gsl_values.specs.declared.value.Value.TheViews.{out-Value}
use Rattle.gsl_values.specs.declared.value.Value.TheFolds.{fold-Value}
use Rattle.gsl_values.specs.declared.value.Value.TheVariants.{Word, Many}

-- ---- the parts of a value

abbrev pub word_layer : Value-F Value → ℕ
word_layer (Value-F.Word word) = word
word_layer (Value-F.Many parts) = 0

-- the word of a scalar
abbrev pub word_in : Value → ℕ
word_in v = word_layer (out-Value v)

abbrev pub parts_layer : Value-F Value → List Value
parts_layer (Value-F.Word word) = []
parts_layer (Value-F.Many parts) = parts

-- the components, elements or members
abbrev pub parts_in : Value → List Value
parts_in v = parts_layer (out-Value v)

abbrev pub components_layer : Value-F Value → List ℕ
components_layer (Value-F.Word word) = word ∷ []
components_layer (Value-F.Many parts) = map word_in parts

-- the words of a scalar or vector, the lowest component first
abbrev pub components_in : Value → List ℕ
components_in v = components_layer (out-Value v)

-- the scalar of one word, or the vector of several
abbrev pub of_components : List ℕ → Value
of_components [] = Many []
of_components (word ∷ []) = Word word
of_components (word ∷ next ∷ words) = Many (map Word (word ∷ next ∷ words))

-- ---- equality

abbrev pub all_pass : List (Value → Bool) → List Value → Bool
all_pass [] [] = true
all_pass [] (v ∷ vs) = false
all_pass (test ∷ tests) [] = false
all_pass (test ∷ tests) (v ∷ vs) = test v && all_pass tests vs

-- one layer of each of two values; of the first, what is equal to its parts
abbrev pub same_value_layer : Value-F (Value → Bool) → Value-F Value → Bool
same_value_layer (Value-F.Word a) (Value-F.Word b) = nat_eq a b
same_value_layer (Value-F.Word a) (Value-F.Many vs) = false
same_value_layer (Value-F.Many tests) (Value-F.Word b) = false
same_value_layer (Value-F.Many tests) (Value-F.Many vs) = all_pass tests vs

-- whether two values are equal, part by part
abbrev pub same_value : Value → Value → Bool
same_value = fold-Value (Value → Bool) (λ layer other. same_value_layer layer (out-Value other))

-- ---- the values of a type

-- a word of a scalar type
abbrev pub is_word_of : Scalar → ℕ → Bool
is_word_of Boolean word = nat_lt word 2
is_word_of Int word = nat_lt word (2 ^ 32)
is_word_of Uint word = nat_lt word (2 ^ 32)

abbrev pub is_scalar_layer : Scalar → Value-F Value → Bool
is_scalar_layer s (Value-F.Word word) = is_word_of s word
is_scalar_layer s (Value-F.Many parts) = false

abbrev pub is_scalar : Scalar → Value → Bool
is_scalar s v = is_scalar_layer s (out-Value v)

abbrev pub has_parts_layer : List (Value → Bool) → Value-F Value → Bool
has_parts_layer tests (Value-F.Word word) = false
has_parts_layer tests (Value-F.Many parts) = all_pass tests parts

-- whether a value has one part for each test, and each passes it
abbrev pub has_parts : List (Value → Bool) → Value → Bool
has_parts tests v = has_parts_layer tests (out-Value v)

abbrev pub value_kind : Ty-F (Value → Bool) → Value → Bool
value_kind Ty-F.Void v = false
value_kind (Ty-F.One s) v = is_scalar s v
value_kind (Ty-F.Vector s n) v = has_parts (replicate n (is_scalar s)) v
value_kind (Ty-F.Array element n) v = has_parts (replicate n element) v
value_kind (Ty-F.Runtime element) v = false
value_kind (Ty-F.Struct number) v = false

abbrev pub tests_of : List (List ℕ × (Value → Bool)) → List (Value → Bool)
tests_of [] = []
tests_of (member ∷ members) = member.1 ∷ tests_of members

abbrev pub value_meaning : Meaning (Value → Bool)
value_meaning = record { kind = value_kind; struct = λ name members. has_parts (tests_of members); none = λ v. false }

-- Whether a value is one of a type: a word for a scalar, 0 or 1 for a bool, and for all else one value of its type for each
-- component, element or member. There is none of `void` or a runtime array.
abbrev pub is_value_of : List StructType → Ty → Value → Bool
is_value_of structs ty = meaning value_meaning structs ty

-- ---- zeros

abbrev pub zero_kind : Ty-F Value → Value
zero_kind Ty-F.Void = Many []
zero_kind (Ty-F.One s) = Word 0
zero_kind (Ty-F.Vector s n) = Many (replicate n (Word 0))
zero_kind (Ty-F.Array element n) = Many (replicate n element)
zero_kind (Ty-F.Runtime element) = Many []
zero_kind (Ty-F.Struct number) = Many []

abbrev pub zeros_of : List (List ℕ × Value) → List Value
zeros_of [] = []
zeros_of (member ∷ members) = member.1 ∷ zeros_of members

abbrev pub zero_meaning : Meaning Value
zero_meaning = record { kind = zero_kind; struct = λ name members. Many (zeros_of members); none = Many [] }

-- the value of a type whose leaves are all zero
abbrev pub zero_value : List StructType → Ty → Value
zero_value structs ty = meaning zero_meaning structs ty
