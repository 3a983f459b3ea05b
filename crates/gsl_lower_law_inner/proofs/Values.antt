-- Types, constants, operators and conversions.
use Rattle.std.proofs.Common.{replicate, ◌≡◌, refl, ℕ, true, List, [], ◌∷◌}
use Rattle.gsl_types.specs.declared.ty.Scalar.{Scalar}
use Rattle.gsl_types.specs.declared.ty.Scalar.TheVariants.{Bool as Boolean, Int, Uint}
use Rattle.gsl_values.specs.declared.op.UnaryOp.{UnaryOp}
use Rattle.gsl_values.specs.declared.op.UnaryOp.TheVariants.{Negate, Flip, Not}
use Rattle.gsl_values.specs.declared.op.BinaryOp.{BinaryOp}
use Rattle.gsl_values.specs.declared.op.BinaryOp.TheVariants.{Add, Sub, Mul, Shl, And, Or, Xor, Equal, Unequal}
use Rattle.gsl_tree.specs.Shapes.{Shape}
use Rattle.gsl_tree.specs.declared.expr.LogicOp.{LogicOp}
use Rattle.gsl_tree.specs.declared.expr.LogicOp.TheVariants as logic
use Rattle.gsl_tree.specs.declared.expr.StepOp.{StepOp}
use Rattle.gsl_tree.specs.declared.expr.StepOp.TheVariants.{PreUp, PreDown, PostUp, PostDown}
use Rattle.gsl_spv.specs.declared.plain.PlainConst.TheVariants as of
use Rattle.gsl_spv.specs.declared.plain.PlainType.TheVariants as plain
use Rattle.gsl_lower_values.specs.Building.{giving, ◌>>=◌}
use Rattle.gsl_lower_values.specs.Types.{plain_scalar, filled_constant, scalar_constant, scalar_type, type_of, vector_constant}
use Rattle.gsl_lower_values.specs.Operators.{binary, binary_code, converted, converted_from, each, joined, logic_code, logical, selected, spread, step_code, stepped, unary, unary_code}
use Rattle.gsl_lower_values.specs.declared.operand.Operand.{Operand}
use Rattle.gsl_lower_law_inner.specs.Inner.{AllBuild, is_inner}
use Rattle.gsl_lower_law_inner.proofs.Steps.{builds_composite, builds_constant, builds_given, builds_giving, builds_if, builds_order, builds_plain, builds_then}

-- ---- types

pub builds_scalar_type : (s : Scalar) → AllBuild (scalar_type s)
unfolding scalar_type
builds_scalar_type s = builds_plain (plain_scalar s)

pub builds_type : (shape : Shape) → AllBuild (type_of shape)
unfolding type_of
builds_type shape = builds_then (builds_scalar_type shape.0) (λ component. builds_if _ builds_given (builds_plain (plain.Vector component shape.1)))

-- an instruction behind its type
pub builds_typed : (shape : Shape) (code : ℕ) (operands : List ℕ) → is_inner code ≡ true → AllBuild (type_of shape >>= giving code operands)
builds_typed shape code operands is = builds_then (builds_type shape) (λ type. builds_giving code operands type is)

-- ---- constants

pub builds_scalar : (s : Scalar) (word : ℕ) → AllBuild (scalar_constant s word)
unfolding scalar_constant
builds_scalar Boolean word = builds_constant _
builds_scalar Int word = builds_then (builds_scalar_type Int) (λ type. builds_constant (of.Word type word))
builds_scalar Uint word = builds_then (builds_scalar_type Uint) (λ type. builds_constant (of.Word type word))

pub builds_filled : (shape : Shape) (word : ℕ) → AllBuild (filled_constant shape word)
unfolding filled_constant
builds_filled shape word = builds_then (builds_scalar shape.0 word) (λ part. builds_if _ builds_given (builds_then (builds_type shape) (λ type. builds_composite type (replicate shape.1 part))))

pub builds_vector : (shape : Shape) (words : List ℕ) → AllBuild (vector_constant shape words)
unfolding vector_constant
builds_vector shape words = builds_then (builds_order (scalar_constant shape.0) words (builds_scalar shape.0)) (λ parts. builds_then (builds_type shape) (λ type. builds_composite type parts))

-- ---- opcodes

inner_unary : (which : UnaryOp) → is_inner (unary_code which) ≡ true
inner_unary Negate = refl
inner_unary Flip = refl
inner_unary Not = refl

inner_step : (which : StepOp) → is_inner (step_code which) ≡ true
inner_step PreUp = refl
inner_step PreDown = refl
inner_step PostUp = refl
inner_step PostDown = refl

inner_logic : (which : LogicOp) → is_inner (logic_code which) ≡ true
inner_logic logic.And = refl
inner_logic logic.Or = refl
inner_logic logic.Xor = refl

pub inner_binary : (which : BinaryOp) (s : Scalar) → is_inner (binary_code which s) ≡ true
inner_binary Add s = refl
inner_binary Sub s = refl
inner_binary Mul s = refl
inner_binary Shl s = refl
inner_binary And s = refl
inner_binary Or s = refl
inner_binary Xor s = refl
inner_binary _ Boolean = refl
inner_binary _ Int = refl
inner_binary _ Uint = refl

-- ---- one operand

pub builds_unary : (which : UnaryOp) (a : Operand) → AllBuild (unary which a)
unfolding unary
builds_unary which a = builds_typed a.shape (unary_code which) (a.id ∷ []) (inner_unary which)

pub builds_stepped : (which : StepOp) (a : Operand) → AllBuild (stepped which a)
unfolding stepped
builds_stepped which a = builds_then (builds_filled a.shape 1) (λ ones. builds_typed a.shape _ _ (inner_step which))

builds_from : (s to : Scalar) (a : Operand) → AllBuild (converted_from s to a)
builds_from Boolean Boolean a = builds_given
builds_from Boolean Int a = builds_then (builds_filled _ 1) (λ ones. builds_then (builds_filled _ 0) (λ zeros. builds_typed _ _ _ refl))
builds_from Boolean Uint a = builds_then (builds_filled _ 1) (λ ones. builds_then (builds_filled _ 0) (λ zeros. builds_typed _ _ _ refl))
builds_from Int Boolean a = builds_then (builds_filled a.shape 0) (λ zeros. builds_typed _ _ _ refl)
builds_from Int Int a = builds_given
builds_from Int Uint a = builds_typed _ _ _ refl
builds_from Uint Boolean a = builds_then (builds_filled a.shape 0) (λ zeros. builds_typed _ _ _ refl)
builds_from Uint Int a = builds_typed _ _ _ refl
builds_from Uint Uint a = builds_given

pub builds_converted : (to : Scalar) (a : Operand) → AllBuild (converted to a)
unfolding converted
builds_converted to a = builds_from a.shape.0 to a

-- ---- two operands

pub builds_spread : (count : ℕ) (a : Operand) → AllBuild (spread count a)
unfolding spread
builds_spread count a = builds_if _ builds_given (builds_typed _ _ _ refl)

builds_each : (which : BinaryOp) (a b : Operand) → AllBuild (each which a b)
unfolding each
builds_each which a b = builds_then (builds_spread _ a) (λ x. builds_then (builds_spread _ b) (λ y. builds_typed _ _ _ (inner_binary which a.shape.0)))

builds_joined : (which : BinaryOp) (count truths : ℕ) → AllBuild (joined which count truths)
builds_joined Equal count truths = builds_if _ builds_given (builds_typed _ _ _ refl)
builds_joined Unequal count truths = builds_if _ builds_given (builds_typed _ _ _ refl)
builds_joined _ count truths = builds_given

pub builds_binary : (which : BinaryOp) (a b : Operand) → AllBuild (binary which a b)
unfolding binary
builds_binary which a b = builds_then (builds_each which a b) (λ truths. builds_joined which _ truths)

pub builds_logical : (which : LogicOp) (a b : ℕ) → AllBuild (logical which a b)
unfolding logical
builds_logical which a b = builds_typed _ _ _ (inner_logic which)

pub builds_selected : (shape : Shape) (condition a b : ℕ) → AllBuild (selected shape condition a b)
unfolding selected
builds_selected shape condition a b = builds_typed shape _ _ refl
