-- What operators, conversions, constructors, indexes, members, swizzles and built-in functions give on values. Component by
-- component it is what `gsl_values` says; where the language leaves a component open, a choice is drawn.
use Rattle.std.specs.Prelude.{ℕ, zero, suc, ◌+◌, Bool, true, false, not, ◌==◌, List, [], ◌∷◌, ◌++◌, map, take, length, replicate, set, slice_get, slice_index, slice_index_or, Option}
use Rattle.std.specs.List.{list_any, list_all}
use Rattle.gsl_types.specs.declared.ty.Scalar.{Scalar}
use Rattle.gsl_types.specs.declared.ty.Scalar.TheVariants.{Bool as Boolean, Int, Uint}
use Rattle.gsl_types.specs.declared.ty.Ty.{Ty}
use Rattle.gsl_types.specs.declared.ty.Ty.TheOpen.{Ty-F}
use Rattle.gsl_types.specs.declared.ty.Ty.TheViews.{out-Ty}
use Rattle.gsl_values.specs.declared.value.Value.{Value}
use Rattle.gsl_values.specs.declared.value.Value.TheVariants.{Word, Many}
use Rattle.gsl_values.specs.declared.lane.Lanes.{Lanes}
use Rattle.gsl_values.specs.declared.op.UnaryOp.{UnaryOp}
use Rattle.gsl_values.specs.declared.op.BinaryOp.{BinaryOp}
use Rattle.gsl_values.specs.declared.op.BinaryOp.TheVariants.{Add, Sub, Equal, Unequal}
use Rattle.gsl_values.specs.declared.function.Builtin.{Builtin}
use Rattle.gsl_values.specs.declared.function.Builtin.TheVariants.{Any, All}
use Rattle.gsl_values.specs.Word.{word_of_bool}
use Rattle.gsl_values.specs.Operators.{unary_word, binary_word}
use Rattle.gsl_values.specs.Vectors.{components as picked, binary_each}
use Rattle.gsl_values.specs.Functions.{builtin_answer}
use Rattle.gsl_tree.specs.declared.expr.LogicOp.{LogicOp}
use Rattle.gsl_tree.specs.declared.expr.LogicOp.TheVariants.{And, Or, Xor}
use Rattle.gsl_tree.specs.declared.expr.StepOp.{StepOp}
use Rattle.gsl_tree.specs.declared.expr.StepOp.TheVariants.{PreUp, PreDown, PostUp, PostDown}
use Rattle.gsl_tree.specs.Values.{parts_in, components_in, of_components, same_value}

-- what is given, and the choices that are left
abbrev pub Given : Type 0
Given = Value × List ℕ

-- ---- operators

-- an operator on one value, component by component
abbrev pub unary_value : UnaryOp → Value → Value
unary_value op v = of_components (map (unary_word op) (components_in v))

-- a scalar serves each of so many components
abbrev pub spread : ℕ → List ℕ → List ℕ
spread count (word ∷ []) = replicate count word
spread count words = words

-- an operator on the words of two values, the lowest component first
abbrev pub binary_words : BinaryOp → Bool → List ℕ → List ℕ → List ℕ → List ℕ × List ℕ
binary_words op signed xs ys choices = binary_each op signed (spread (length ys) xs) (spread (length xs) ys) choices

abbrev pub of_words : List ℕ × List ℕ → Given
of_words each = (of_components each.0, each.1)

-- An operator on two values, the left of which is an `int` or a vector of them where the flag is true. Values of any type are
-- equal or not; all else goes component by component, a scalar serving each component of a vector.
abbrev pub binary_value : BinaryOp → Bool → Value → Value → List ℕ → Given
binary_value Equal signed a b choices = (Word (word_of_bool (same_value a b)), choices)
binary_value Unequal signed a b choices = (Word (word_of_bool (not (same_value a b))), choices)
binary_value op signed a b choices = of_words (binary_words op signed (components_in a) (components_in b) choices)

-- whether the first operand of a logical operator decides; the other is then not evaluated, and the first is the value
abbrev pub decides : LogicOp → ℕ → Bool
decides And word = word == 0
decides Or word = not (word == 0)
decides Xor word = false

-- what a logical operator gives where it evaluates both
abbrev pub logic_word : LogicOp → ℕ → ℕ → ℕ
logic_word And a b = b
logic_word Or a b = b
logic_word Xor a b = word_of_bool (not (a == b))

-- what `++` and `--` make of a word
abbrev pub step_word : StepOp → ℕ → ℕ
step_word PreUp word = binary_word Add false word 1
step_word PreDown word = binary_word Sub false word 1
step_word PostUp word = binary_word Add false word 1
step_word PostDown word = binary_word Sub false word 1

-- what `++` and `--` make of a value, component by component
abbrev pub step_value : StepOp → Value → Value
step_value op v = of_components (map (step_word op) (components_in v))

-- whether the value of the expression is the one before the step
abbrev pub is_postfix : StepOp → Bool
is_postfix PreUp = false
is_postfix PreDown = false
is_postfix PostUp = true
is_postfix PostDown = true

-- ---- conversions and constructors

-- a word as one of a scalar type: anything but 0 is a true `bool`, and an `int` and a `uint` have the same bits
abbrev pub converted : Scalar → ℕ → ℕ
converted Boolean word = word_of_bool (not (word == 0))
converted Int word = word
converted Uint word = word

-- the words of values in a row
abbrev pub all_components : List Value → List ℕ
all_components [] = []
all_components (v ∷ vs) = components_in v ++ all_components vs

-- so many components of a scalar type, from the words of the arguments; one word alone fills them all
abbrev pub filled : Scalar → ℕ → List ℕ → List ℕ
filled s count words = map (converted s) (take count (spread count words))

abbrev pub scalar_from : Scalar → List Value → Value
scalar_from s args = Word (converted s (slice_index (all_components args) 0))

abbrev pub vector_from : Scalar → ℕ → List Value → Value
vector_from s n args = Many (map Word (filled s n (all_components args)))

abbrev pub build_kind : Ty-F Ty → List Value → Value
build_kind (Ty-F.One s) args = scalar_from s args
build_kind (Ty-F.Vector s n) args = vector_from s n args
build_kind _ args = Many args

-- What a constructor of a type gives: of a scalar the first component, of a vector the components in a row, converted, of an
-- array or a struct the arguments.
abbrev pub build_value : Ty → List Value → Value
build_value ty args = build_kind (out-Ty ty) args

-- ---- indexes, members, swizzles and lengths

-- the part at an index; none where it is out of bounds
abbrev pub index_value : Value → ℕ → Option Value
index_value v at_index = slice_get (parts_in v) at_index

-- the member of a number
abbrev pub member_value : Value → ℕ → Value
member_value v number = slice_index_or (parts_in v) number (Word 0)

-- the part to which the numbers of members, elements and components lead
abbrev pub value_at : Value → List ℕ → Value
value_at v [] = v
value_at v (number ∷ path) = value_at (member_value v number) path

-- a value with another part where such a path leads
abbrev pub with_value_at : Value → List ℕ → Value → Value
with_value_at v [] part = part
with_value_at v (number ∷ path) part = Many (set (parts_in v) number (with_value_at (member_value v number) path part))

-- the components at the positions that a swizzle picks
abbrev pub swizzle_value : Value → Lanes → Value
swizzle_value v lanes = of_components (map (slice_index (components_in v)) (picked lanes))

abbrev pub length_kind : Ty-F Ty → ℕ
length_kind (Ty-F.Vector s n) = n
length_kind (Ty-F.Array element n) = n
length_kind _ = 0

-- how many components a vector or elements an array has
abbrev pub length_of : Ty → ℕ
length_of ty = length_kind (out-Ty ty)

abbrev pub is_fixed_kind : Ty-F Ty → Bool
is_fixed_kind (Ty-F.Vector s n) = true
is_fixed_kind (Ty-F.Array element n) = true
is_fixed_kind _ = false

-- whether the type alone tells its length
abbrev pub has_fixed_length : Ty → Bool
has_fixed_length ty = is_fixed_kind (out-Ty ty)

-- ---- built-in functions

abbrev pub is_signed_scalar : Scalar → Bool
is_signed_scalar Boolean = false
is_signed_scalar Int = true
is_signed_scalar Uint = false

abbrev pub is_signed_kind : Ty-F Ty → Bool
is_signed_kind (Ty-F.One s) = is_signed_scalar s
is_signed_kind (Ty-F.Vector s n) = is_signed_scalar s
is_signed_kind _ = false

-- whether a type is `int` or a vector of them
abbrev pub is_signed : Ty → Bool
is_signed ty = is_signed_kind (out-Ty ty)

-- one component of an argument; a scalar serves each
abbrev pub component_at : ℕ → List ℕ → ℕ
component_at at_index (word ∷ []) = word
component_at at_index words = slice_index words at_index

-- a built-in function on so many components from one on, the lowest first
abbrev pub builtin_each : Builtin → Bool → List (List ℕ) → ℕ → ℕ → List ℕ → List ℕ × List ℕ
builtin_each which signed args zero from choices = ([], choices)
builtin_each which signed args (suc count) from choices =
    let first = builtin_answer which signed (map (component_at from) args) choices in
    let others = builtin_each which signed args count (from + 1) first.1 in
    (first.0 ∷ others.0, others.1)

-- how many components the first argument has
abbrev pub first_count : List (List ℕ) → ℕ
first_count [] = 0
first_count (words ∷ args) = length words

abbrev pub is_true : ℕ → Bool
is_true word = not (word == 0)

abbrev pub first_words : List (List ℕ) → List ℕ
first_words [] = []
first_words (words ∷ args) = words

abbrev pub builtin_words : Builtin → Bool → List (List ℕ) → List ℕ → Given
builtin_words Any signed args choices = (Word (word_of_bool (list_any is_true (first_words args))), choices)
builtin_words All signed args choices = (Word (word_of_bool (list_all is_true (first_words args))), choices)
builtin_words which signed args choices = of_words (builtin_each which signed args (first_count args) 0 choices)

-- A built-in function on values, the first of which is an `int` or a vector of them where the flag is true. `any` and `all` join
-- the components of a vector; all others go component by component, a scalar argument serving each.
abbrev pub builtin_value : Builtin → Bool → List Value → List ℕ → Given
builtin_value which signed args choices = builtin_words which signed (map components_in args) choices
