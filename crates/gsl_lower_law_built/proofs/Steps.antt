-- Steps of built-in functions only add, whatever their arguments are.
use Rattle.std.proofs.Common.{ℕ, List, [], ◌∷◌}
use Rattle.gsl_base.specs.declared.input.Input.{Input}
use Rattle.gsl_instr.specs.declared.op.TheConstants as op
use Rattle.gsl_instr.specs.declared.enumerant.glsl_std_450.TheConstants as extended
use Rattle.gsl_types.specs.declared.ty.Scalar.TheVariants.{Bool as Boolean, Int}
use Rattle.gsl_words.specs.declared.module.Module.{Module}
use Rattle.gsl_values.specs.declared.function.Builtin.{Builtin}
use Rattle.gsl_values.specs.declared.function.Builtin.TheVariants as f
use Rattle.gsl_values.specs.declared.op.BinaryOp.{BinaryOp}
use Rattle.gsl_values.specs.declared.op.BinaryOp.TheVariants.{Less, LessEq, Greater, GreaterEq, Equal, Unequal}
use Rattle.gsl_tree.specs.Shapes.{Shape, flag}
use Rattle.gsl_spv.specs.Sections.{Sections}
use Rattle.gsl_lower_values.specs.Builtins.{bounded, built_four, built_one, built_three, built_two, called, clamped, compared, extend}
use Rattle.gsl_lower_values.specs.Building.{given, ◌>>=◌}
use Rattle.gsl_lower_values.specs.Operators.{binary_code, by_sign, spread}
use Rattle.gsl_lower_values.specs.declared.operand.Operand.{Operand}
use Rattle.gsl_lower_follows.proofs.Fetching.{no_state}
use Rattle.gsl_lower_law_calls.proofs.Extended.{extend_grows}
use Rattle.gsl_lower_law_expr.proofs.Steps.{Always, always_given, always_selected, always_spread, always_then, always_typed}

module _ (m : Module) (input : Input) (whole : Sections) where
  gives_none : Always {A = ℕ} (given 0)
  gives_none = always_given m input whole {A = ℕ} 0

  always_extend : (number : ℕ) (operands : List ℕ) (shape : Shape) → Always (extend number operands shape)
  always_extend number operands shape before = extend_grows m input whole number operands shape no_state before

  always_bounded : (number : ℕ) (a b : Operand) → Always (bounded number a b)
  always_bounded number a b = always_then m input whole (spread a.shape.1 b) (λ y. extend number (a.id ∷ y ∷ []) a.shape) (always_spread m input whole a.shape.1 b) (λ y. always_extend number (a.id ∷ y ∷ []) a.shape)

  always_clamped : (a b c : Operand) → Always (clamped a b c)
  always_clamped a b c =
      let number = by_sign a.shape.0 extended.S_CLAMP extended.U_CLAMP in
      always_then m input whole (spread a.shape.1 b) (λ low. spread a.shape.1 c >>= (λ high. extend number (a.id ∷ low ∷ high ∷ []) a.shape)) (always_spread m input whole a.shape.1 b)
      (λ low. always_then m input whole (spread a.shape.1 c) (λ high. extend number (a.id ∷ low ∷ high ∷ []) a.shape) (always_spread m input whole a.shape.1 c) (λ high. always_extend number (a.id ∷ low ∷ high ∷ []) a.shape))

  always_compared : (which : BinaryOp) (a b : Operand) → Always (compared which a b)
  always_compared which a b = always_typed m input whole (Boolean, a.shape.1) (binary_code which a.shape.0) (a.id ∷ b.id ∷ [])

  always_one : (which : Builtin) (a : Operand) → Always (built_one which a)
  unfolding built_one
  always_one f.Abs a = always_extend extended.S_ABS (a.id ∷ []) a.shape
  always_one f.Sign a = always_extend extended.S_SIGN (a.id ∷ []) a.shape
  always_one f.Any a = always_typed m input whole flag op.ANY (a.id ∷ [])
  always_one f.All a = always_typed m input whole flag op.ALL (a.id ∷ [])
  always_one f.Not a = always_typed m input whole a.shape op.LOGICAL_NOT (a.id ∷ [])
  always_one f.BitCount a = always_typed m input whole (Int, a.shape.1) op.BIT_COUNT (a.id ∷ [])
  always_one f.FindLsb a = always_extend extended.FIND_I_LSB (a.id ∷ []) (Int, a.shape.1)
  always_one f.FindMsb a = always_extend (by_sign a.shape.0 extended.FIND_S_MSB extended.FIND_U_MSB) (a.id ∷ []) (Int, a.shape.1)
  always_one f.BitfieldReverse a = always_typed m input whole a.shape op.BIT_REVERSE (a.id ∷ [])
  always_one _ a = gives_none

  always_two : (which : Builtin) (a b : Operand) → Always (built_two which a b)
  unfolding built_two
  always_two f.Min a b = always_bounded (by_sign a.shape.0 extended.S_MIN extended.U_MIN) a b
  always_two f.Max a b = always_bounded (by_sign a.shape.0 extended.S_MAX extended.U_MAX) a b
  always_two f.LessThan a b = always_compared Less a b
  always_two f.LessThanEqual a b = always_compared LessEq a b
  always_two f.GreaterThan a b = always_compared Greater a b
  always_two f.GreaterThanEqual a b = always_compared GreaterEq a b
  always_two f.Equal a b = always_compared Equal a b
  always_two f.NotEqual a b = always_compared Unequal a b
  always_two _ a b = gives_none

  always_three : (which : Builtin) (a b c : Operand) → Always (built_three which a b c)
  unfolding built_three
  always_three f.Clamp a b c = always_clamped a b c
  always_three f.Mix a b c = always_selected m input whole a.shape c.id b.id a.id
  always_three f.BitfieldExtract a b c = always_typed m input whole a.shape (by_sign a.shape.0 op.BIT_FIELD_S_EXTRACT op.BIT_FIELD_U_EXTRACT) (a.id ∷ b.id ∷ c.id ∷ [])
  always_three _ a b c = gives_none

  always_four : (which : Builtin) (shape : Shape) (ids : List ℕ) → Always (built_four which shape ids)
  unfolding built_four
  always_four f.BitfieldInsert shape ids = always_typed m input whole shape op.BIT_FIELD_INSERT ids
  always_four _ shape ids = gives_none

  pub always_called : (which : Builtin) (args : List Operand) → Always (called which args)
  unfolding called
  always_called which [] = gives_none
  always_called which (a ∷ []) = always_one which a
  always_called which (a ∷ b ∷ []) = always_two which a b
  always_called which (a ∷ b ∷ c ∷ []) = always_three which a b c
  always_called which (a ∷ b ∷ c ∷ d ∷ []) = always_four which a.shape (a.id ∷ b.id ∷ c.id ∷ d.id ∷ [])
  always_called which (a ∷ b ∷ c ∷ d ∷ x ∷ args) = gives_none
