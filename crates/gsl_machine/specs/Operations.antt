-- What operations give on values (SPIR-V 1.0, 3.32.8 to 3.32.14; Extended Instructions for GLSL, 2). Word by word they are those of the
-- language; where it leaves a word open a choice is drawn, for the lowest component first.
use Rattle.std.specs.Prelude.{ℕ, Bool, true, false, ◌==◌, if◌then◌else◌, List, [], ◌∷◌, ◌++◌, map, slice_index}
use Rattle.gsl_instr.specs.declared.op.TheConstants as op
use Rattle.gsl_instr.specs.declared.enumerant.glsl_std_450.TheConstants as extended
use Rattle.gsl_values.specs.declared.function.Builtin.{Builtin}
use Rattle.gsl_values.specs.declared.function.Builtin.TheVariants as f
use Rattle.gsl_values.specs.declared.op.BinaryOp.{BinaryOp}
use Rattle.gsl_values.specs.declared.op.BinaryOp.TheVariants as o
use Rattle.gsl_values.specs.declared.op.UnaryOp.TheVariants as u
use Rattle.gsl_values.specs.declared.value.Value.{Value}
use Rattle.gsl_values.specs.declared.value.Value.TheVariants.{Many}
use Rattle.gsl_tree.specs.Operations.{Given, all_components, binary_words, builtin_value, of_words, unary_value}
use Rattle.gsl_tree.specs.Values.{components_in, of_components}

-- an operator, and whether it takes words with their sign
abbrev pub Operator : Type 0
Operator = BinaryOp × Bool

-- an operator on the words of two values, the lowest component first
abbrev pub binary : Operator → Value → Value → List ℕ → Given
binary operator a b choices = of_words (binary_words operator.0 operator.1 (components_in a) (components_in b) choices)

abbrev pub arithmetic : ℕ → Operator
arithmetic code =
    if code == op.I_ADD then (o.Add, false) else if code == op.I_SUB then (o.Sub, false) else if code == op.I_MUL then (o.Mul, false)
    else if code == op.U_DIV then (o.Div, false) else if code == op.S_DIV then (o.Div, true) else if code == op.U_MOD then (o.Mod, false)
    else if code == op.S_MOD then (o.Mod, true) else if code == op.BITWISE_OR then (o.Or, false) else if code == op.BITWISE_XOR then (o.Xor, false)
    else (o.And, false)

abbrev pub shift : ℕ → Operator
shift code =
    if code == op.SHIFT_RIGHT_LOGICAL then (o.Shr, false) else if code == op.SHIFT_RIGHT_ARITHMETIC then (o.Shr, true) else (o.Shl, false)

abbrev pub logical : ℕ → Operator
logical code =
    if code == op.LOGICAL_EQUAL then (o.Equal, false) else if code == op.LOGICAL_NOT_EQUAL then (o.Unequal, false)
    else if code == op.LOGICAL_OR then (o.Or, false) else (o.And, false)

abbrev pub comparison : ℕ → Operator
comparison code =
    if code == op.I_EQUAL then (o.Equal, false) else if code == op.I_NOT_EQUAL then (o.Unequal, false)
    else if code == op.U_GREATER_THAN then (o.Greater, false) else if code == op.S_GREATER_THAN then (o.Greater, true)
    else if code == op.U_GREATER_THAN_EQUAL then (o.GreaterEq, false) else if code == op.S_GREATER_THAN_EQUAL then (o.GreaterEq, true)
    else if code == op.U_LESS_THAN then (o.Less, false) else if code == op.S_LESS_THAN then (o.Less, true)
    else if code == op.U_LESS_THAN_EQUAL then (o.LessEq, false) else (o.LessEq, true)

-- an operation on one value draws nothing
abbrev pub unary : ℕ → Value → Value
unary code v =
    if code == op.S_NEGATE then unary_value u.Negate v else if code == op.NOT then unary_value u.Flip v else if code == op.LOGICAL_NOT then unary_value u.Not v
    else if code == op.BIT_REVERSE then (builtin_value f.BitfieldReverse false (v ∷ []) []).0 else if code == op.BIT_COUNT then (builtin_value f.BitCount false (v ∷ []) []).0
    else if code == op.ANY then (builtin_value f.Any false (v ∷ []) []).0 else if code == op.ALL then (builtin_value f.All false (v ∷ []) []).0
    else v

-- the first of two values where the condition holds, component by component where that is a vector
abbrev pub select : Value → Value → Value → Value
select condition a b = (builtin_value f.Mix false (b ∷ a ∷ condition ∷ []) []).0

-- bit fields may draw choices
abbrev pub inserted : Value → Value → Value → Value → List ℕ → Given
inserted base insert offset count = builtin_value f.BitfieldInsert false (base ∷ insert ∷ offset ∷ count ∷ [])

abbrev pub extracted : ℕ → Value → Value → Value → List ℕ → Given
extracted code base offset count = builtin_value f.BitfieldExtract (code == op.BIT_FIELD_S_EXTRACT) (base ∷ offset ∷ count ∷ [])

-- an extended instruction as a function, and whether it takes words with their sign
abbrev pub function_of : ℕ → Builtin × Bool
function_of number =
    if number == extended.S_ABS then (f.Abs, true) else if number == extended.S_SIGN then (f.Sign, true) else if number == extended.U_MIN then (f.Min, false)
    else if number == extended.S_MIN then (f.Min, true) else if number == extended.U_MAX then (f.Max, false) else if number == extended.S_MAX then (f.Max, true)
    else if number == extended.U_CLAMP then (f.Clamp, false) else if number == extended.S_CLAMP then (f.Clamp, true) else if number == extended.FIND_I_LSB then (f.FindLsb, false)
    else if number == extended.FIND_S_MSB then (f.FindMsb, true) else (f.FindMsb, false)

abbrev pub extend : ℕ → List Value → Value
extend number args = (builtin_value (function_of number).0 (function_of number).1 args []).0

-- ---- composites

-- a vector of the components of its parts, or what has these parts
abbrev pub constructed : Bool → List Value → Value
constructed true parts = of_components (all_components parts)
constructed false parts = Many parts

-- components of two vectors, counted through the first and then the second
abbrev pub shuffled : Value → Value → List ℕ → Value
shuffled a b positions = of_components (map (slice_index (components_in a ++ components_in b)) positions)
