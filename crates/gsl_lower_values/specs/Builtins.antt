-- What computes a built-in function (SPIR-V 1.0, 3.32.11 to 3.32.14; Extended Instructions for GLSL, 2).
use Rattle.std.specs.Prelude.{ℕ, List, [], ◌∷◌}
use Rattle.gsl_instr.specs.declared.op.TheConstants as op
use Rattle.gsl_instr.specs.declared.enumerant.glsl_std_450.TheConstants as extended
use Rattle.gsl_types.specs.declared.ty.Scalar.TheVariants.{Bool as Boolean, Int}
use Rattle.gsl_values.specs.declared.function.Builtin.{Builtin}
use Rattle.gsl_values.specs.declared.function.Builtin.TheVariants as f
use Rattle.gsl_values.specs.declared.op.BinaryOp.{BinaryOp}
use Rattle.gsl_values.specs.declared.op.BinaryOp.TheVariants.{Less, LessEq, Greater, GreaterEq, Equal, Unequal}
use Rattle.gsl_tree.specs.Shapes.{Shape, flag}
use Rattle.gsl_spv.specs.Calls as call
use Rattle.gsl_lower_values.specs.Building.{Step, ◌>>=◌, given, giving, id_by}
use Rattle.gsl_lower_values.specs.Types.{type_of}
use Rattle.gsl_lower_values.specs.Operators.{binary_code, by_sign, selected, spread}
use Rattle.gsl_lower_values.specs.declared.operand.Operand.{Operand}

-- an instruction of the set of GLSL
unfoldable pub extend : ℕ → List ℕ → Shape → Step ℕ
extend number operands shape = id_by call.glsl_set >>= (λ set. type_of shape >>= giving op.EXT_INST (set ∷ number ∷ operands))

abbrev pub as_type : Shape → ℕ → List ℕ → Step ℕ
as_type shape code operands = type_of shape >>= giving code operands

-- ---- by how many arguments there are

unfoldable pub built_one : Builtin → Operand → Step ℕ
built_one f.Abs a = extend extended.S_ABS (a.id ∷ []) a.shape
built_one f.Sign a = extend extended.S_SIGN (a.id ∷ []) a.shape
built_one f.Any a = as_type flag op.ANY (a.id ∷ [])
built_one f.All a = as_type flag op.ALL (a.id ∷ [])
built_one f.Not a = as_type a.shape op.LOGICAL_NOT (a.id ∷ [])
built_one f.BitCount a = as_type (Int, a.shape.1) op.BIT_COUNT (a.id ∷ [])
built_one f.FindLsb a = extend extended.FIND_I_LSB (a.id ∷ []) (Int, a.shape.1)
built_one f.FindMsb a = extend (by_sign a.shape.0 extended.FIND_S_MSB extended.FIND_U_MSB) (a.id ∷ []) (Int, a.shape.1)
built_one f.BitfieldReverse a = as_type a.shape op.BIT_REVERSE (a.id ∷ [])
built_one _ a = given 0

-- the second as many as the first, or a scalar for each
abbrev pub bounded : ℕ → Operand → Operand → Step ℕ
bounded number a b = spread a.shape.1 b >>= (λ y. extend number (a.id ∷ y ∷ []) a.shape)

-- the components of two vectors, one by one
abbrev pub compared : BinaryOp → Operand → Operand → Step ℕ
compared which a b = as_type (Boolean, a.shape.1) (binary_code which a.shape.0) (a.id ∷ b.id ∷ [])

unfoldable pub built_two : Builtin → Operand → Operand → Step ℕ
built_two f.Min a b = bounded (by_sign a.shape.0 extended.S_MIN extended.U_MIN) a b
built_two f.Max a b = bounded (by_sign a.shape.0 extended.S_MAX extended.U_MAX) a b
built_two f.LessThan a b = compared Less a b
built_two f.LessThanEqual a b = compared LessEq a b
built_two f.GreaterThan a b = compared Greater a b
built_two f.GreaterThanEqual a b = compared GreaterEq a b
built_two f.Equal a b = compared Equal a b
built_two f.NotEqual a b = compared Unequal a b
built_two _ a b = given 0

abbrev pub clamped : Operand → Operand → Operand → Step ℕ
clamped a b c =
    spread a.shape.1 b >>= (λ low. spread a.shape.1 c >>= (λ high. extend (by_sign a.shape.0 extended.S_CLAMP extended.U_CLAMP) (a.id ∷ low ∷ high ∷ []) a.shape))

unfoldable pub built_three : Builtin → Operand → Operand → Operand → Step ℕ
built_three f.Clamp a b c = clamped a b c
built_three f.Mix a b c = selected a.shape c.id b.id a.id
built_three f.BitfieldExtract a b c = as_type a.shape (by_sign a.shape.0 op.BIT_FIELD_S_EXTRACT op.BIT_FIELD_U_EXTRACT) (a.id ∷ b.id ∷ c.id ∷ [])
built_three _ a b c = given 0

unfoldable pub built_four : Builtin → Shape → List ℕ → Step ℕ
built_four f.BitfieldInsert shape ids = as_type shape op.BIT_FIELD_INSERT ids
built_four _ shape ids = given 0

-- a built-in function on arguments, of which there are one to four
unfoldable pub called : Builtin → List Operand → Step ℕ
called which (a ∷ []) = built_one which a
called which (a ∷ b ∷ []) = built_two which a b
called which (a ∷ b ∷ c ∷ []) = built_three which a b c
called which (a ∷ b ∷ c ∷ d ∷ []) = built_four which a.shape (a.id ∷ b.id ∷ c.id ∷ d.id ∷ [])
called which _ = given 0
