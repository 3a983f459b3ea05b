-- What computes an operator or a conversion of values that ids stand for: the instructions that are put for it, and the id of what it gives
-- (SPIR-V 1.0, 3.32.8, 3.32.11 to 3.32.14).
use Rattle.std.specs.Prelude.{ℕ, max, Bool, true, false, ◌==◌, if◌then◌else◌, [], ◌∷◌, replicate}
use Rattle.gsl_instr.specs.declared.op.TheConstants as op
use Rattle.gsl_types.specs.declared.ty.Scalar.{Scalar}
use Rattle.gsl_types.specs.declared.ty.Scalar.TheVariants.{Bool as Boolean, Int, Uint}
use Rattle.gsl_values.specs.declared.op.UnaryOp.{UnaryOp}
use Rattle.gsl_values.specs.declared.op.UnaryOp.TheVariants.{Negate, Flip, Not}
use Rattle.gsl_values.specs.declared.op.BinaryOp.{BinaryOp}
use Rattle.gsl_values.specs.declared.op.BinaryOp.TheVariants.{Add, Sub, Mul, Div, Mod, Shl, Shr, And, Or, Xor, Less, LessEq, Greater, GreaterEq, Equal, Unequal}
use Rattle.gsl_tree.specs.Shapes.{Shape, flag}
use Rattle.gsl_tree.specs.declared.expr.LogicOp.{LogicOp}
use Rattle.gsl_tree.specs.declared.expr.LogicOp.TheVariants as logic
use Rattle.gsl_tree.specs.declared.expr.StepOp.{StepOp}
use Rattle.gsl_tree.specs.declared.expr.StepOp.TheVariants.{PreUp, PreDown, PostUp, PostDown}
use Rattle.gsl_lower_values.specs.Building.{Step, ◌>>=◌, given, giving}
use Rattle.gsl_lower_values.specs.Types.{filled_constant, type_of}
use Rattle.gsl_lower_values.specs.declared.operand.Operand.{Operand}

-- ---- one operand

abbrev pub unary_code : UnaryOp → ℕ
unary_code Negate = op.S_NEGATE
unary_code Flip = op.NOT
unary_code Not = op.LOGICAL_NOT

unfoldable pub unary : UnaryOp → Operand → Step ℕ
unary which a = type_of a.shape >>= giving (unary_code which) (a.id ∷ [])

-- `++` and `--` add and subtract one, component by component
abbrev pub step_code : StepOp → ℕ
step_code PreUp = op.I_ADD
step_code PreDown = op.I_SUB
step_code PostUp = op.I_ADD
step_code PostDown = op.I_SUB

unfoldable pub stepped : StepOp → Operand → Step ℕ
stepped which a = filled_constant a.shape 1 >>= (λ ones. type_of a.shape >>= giving (step_code which) (a.id ∷ ones ∷ []))

-- ---- conversions

-- of a truth value to a number: one or zero
abbrev pub numbered : Scalar → Operand → Step ℕ
numbered to a =
    filled_constant (to, a.shape.1) 1 >>= (λ ones. filled_constant (to, a.shape.1) 0 >>= (λ zeros.
    type_of (to, a.shape.1) >>= giving op.SELECT (a.id ∷ ones ∷ zeros ∷ [])))

-- of a number to a truth value: whether it differs from zero
abbrev pub tested : Operand → Step ℕ
tested a = filled_constant a.shape 0 >>= (λ zeros. type_of (Boolean, a.shape.1) >>= giving op.I_NOT_EQUAL (a.id ∷ zeros ∷ []))

abbrev pub recast : Scalar → Operand → Step ℕ
recast to a = type_of (to, a.shape.1) >>= giving op.BITCAST (a.id ∷ [])

abbrev pub converted_from : Scalar → Scalar → Operand → Step ℕ
converted_from Boolean Boolean a = given a.id
converted_from Boolean to a = numbered to a
converted_from Int Boolean a = tested a
converted_from Int Int a = given a.id
converted_from Int Uint a = recast Uint a
converted_from Uint Boolean a = tested a
converted_from Uint Int a = recast Int a
converted_from Uint Uint a = given a.id

-- each component as one of another scalar type
unfoldable pub converted : Scalar → Operand → Step ℕ
converted to a = converted_from a.shape.0 to a

-- ---- two operands

-- a scalar as a vector of so many components, each of which is that scalar
unfoldable pub spread : ℕ → Operand → Step ℕ
spread count a =
    if a.shape.1 == count then given a.id else type_of (a.shape.0, count) >>= giving op.COMPOSITE_CONSTRUCT (replicate count a.id)

abbrev pub by_sign : Scalar → ℕ → ℕ → ℕ
by_sign Boolean signed unsigned = unsigned
by_sign Int signed unsigned = signed
by_sign Uint signed unsigned = unsigned

abbrev pub by_truth : Scalar → ℕ → ℕ → ℕ
by_truth Boolean logical number = logical
by_truth Int logical number = number
by_truth Uint logical number = number

-- the opcode of an operator whose left operand is of a scalar type
abbrev pub binary_code : BinaryOp → Scalar → ℕ
binary_code Add s = op.I_ADD
binary_code Sub s = op.I_SUB
binary_code Mul s = op.I_MUL
binary_code Div s = by_sign s op.S_DIV op.U_DIV
binary_code Mod s = by_sign s op.S_MOD op.U_MOD
binary_code Shl s = op.SHIFT_LEFT_LOGICAL
binary_code Shr s = by_sign s op.SHIFT_RIGHT_ARITHMETIC op.SHIFT_RIGHT_LOGICAL
binary_code And s = op.BITWISE_AND
binary_code Or s = op.BITWISE_OR
binary_code Xor s = op.BITWISE_XOR
binary_code Less s = by_sign s op.S_LESS_THAN op.U_LESS_THAN
binary_code LessEq s = by_sign s op.S_LESS_THAN_EQUAL op.U_LESS_THAN_EQUAL
binary_code Greater s = by_sign s op.S_GREATER_THAN op.U_GREATER_THAN
binary_code GreaterEq s = by_sign s op.S_GREATER_THAN_EQUAL op.U_GREATER_THAN_EQUAL
binary_code Equal s = by_truth s op.LOGICAL_EQUAL op.I_EQUAL
binary_code Unequal s = by_truth s op.LOGICAL_NOT_EQUAL op.I_NOT_EQUAL

-- whether it gives truth values
abbrev pub is_relation : BinaryOp → Bool
is_relation Less = true
is_relation LessEq = true
is_relation Greater = true
is_relation GreaterEq = true
is_relation Equal = true
is_relation Unequal = true
is_relation _ = false

abbrev pub given_scalar : BinaryOp → Scalar → Scalar
given_scalar which s = if is_relation which then Boolean else s

-- component by component, a scalar serving each of the components of the other operand
unfoldable pub each : BinaryOp → Operand → Operand → Step ℕ
each which a b =
    let count = max a.shape.1 b.shape.1 in
    spread count a >>= (λ x. spread count b >>= (λ y. type_of (given_scalar which a.shape.0, count) >>= giving (binary_code which a.shape.0) (x ∷ y ∷ [])))

abbrev pub joining : ℕ → ℕ → Step ℕ
joining code truths = type_of flag >>= giving code (truths ∷ [])

-- vectors are equal where all components are, and unequal where any is
abbrev pub joined : BinaryOp → ℕ → ℕ → Step ℕ
joined Equal count truths = if count == 1 then given truths else joining op.ALL truths
joined Unequal count truths = if count == 1 then given truths else joining op.ANY truths
joined which count truths = given truths

-- an operator on scalars and vectors
unfoldable pub binary : BinaryOp → Operand → Operand → Step ℕ
binary which a b = each which a b >>= joined which (max a.shape.1 b.shape.1)

-- ---- truth values, where both are there

abbrev pub logic_code : LogicOp → ℕ
logic_code logic.And = op.LOGICAL_AND
logic_code logic.Or = op.LOGICAL_OR
logic_code logic.Xor = op.LOGICAL_NOT_EQUAL

unfoldable pub logical : LogicOp → ℕ → ℕ → Step ℕ
logical which a b = type_of flag >>= giving (logic_code which) (a ∷ b ∷ [])

-- the first where the condition holds, and else the second
unfoldable pub selected : Shape → ℕ → ℕ → ℕ → Step ℕ
selected shape condition a b = type_of shape >>= giving op.SELECT (condition ∷ a ∷ b ∷ [])
