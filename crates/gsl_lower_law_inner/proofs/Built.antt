-- Components, constructors and built-in functions.
use Rattle.std.proofs.Common.{◌≡◌, refl, ℕ, ◌==◌, Bool, true, false, if◌then◌else◌, List, [], ◌∷◌, length}
use Rattle.std.specs.Prelude.{replicate}
use Rattle.gsl_types.specs.declared.ty.Scalar.{Scalar}
use Rattle.gsl_types.specs.declared.ty.Scalar.TheVariants.{Bool as Boolean, Int, Uint}
use Rattle.gsl_instr.specs.declared.op.TheConstants as op
use Rattle.gsl_values.specs.declared.function.Builtin.{Builtin}
use Rattle.gsl_values.specs.declared.function.Builtin.TheVariants as f
use Rattle.gsl_values.specs.declared.op.BinaryOp.{BinaryOp}
use Rattle.gsl_values.specs.declared.op.BinaryOp.TheVariants.{Less, LessEq, Greater, GreaterEq, Equal, Unequal}
use Rattle.gsl_tree.specs.Shapes.{Shape}
use Rattle.gsl_lower_values.specs.Building.{Step, giving}
use Rattle.gsl_lower_values.specs.Operators.{by_sign}
use Rattle.gsl_lower_values.specs.Constructors.{as_operand, built, component, components, construct, cut, filled_with, first_of, in_row, parts, picked, put_together, replaced, scalar, share, shares, vector, wide}
use Rattle.gsl_lower_values.specs.Builtins.{bounded, built_four, built_one, built_three, built_two, called, clamped, compared, extend}
use Rattle.gsl_lower_values.specs.declared.operand.Operand.{Operand}
use Rattle.gsl_lower_law_inner.specs.Inner.{AllBuild, is_inner}
use Rattle.gsl_lower_law_inner.proofs.Steps.{builds_given, builds_giving, builds_if, builds_import, builds_order, builds_then}
use Rattle.gsl_lower_law_inner.proofs.Values.{builds_converted, builds_selected, builds_spread, builds_type, builds_typed, inner_binary}

-- ---- swizzles

builds_component : (a : Operand) (position : ℕ) → AllBuild (component a position)
builds_component a position = builds_typed _ _ _ refl

builds_components : (a : Operand) (positions : List ℕ) → AllBuild (components a positions)
builds_components a positions = builds_then (builds_type _) (by (a.shape.1 == 1))
  where
    by : (one : Bool) (type : ℕ) → AllBuild ((if one then giving op.COMPOSITE_CONSTRUCT (replicate (length positions) a.id) else giving op.VECTOR_SHUFFLE (a.id ∷ a.id ∷ positions)) type)
    by true type = builds_giving _ _ type refl
    by false type = builds_giving _ _ type refl

pub builds_picked : (a : Operand) (positions : List ℕ) → AllBuild (picked a positions)
unfolding picked
builds_picked a [] = builds_components a []
builds_picked a (position ∷ []) = builds_if _ builds_given (builds_component a position)
builds_picked a (position ∷ other ∷ positions) = builds_components a (position ∷ other ∷ positions)

builds_wide : (count : ℕ) (a : Operand) → AllBuild (wide count a)
unfolding wide
builds_wide count a = builds_if _ builds_given (builds_typed _ _ _ refl)

pub builds_replaced : (a : Operand) (positions : List ℕ) (new : ℕ) → AllBuild (replaced a positions new)
unfolding replaced
builds_replaced a positions new = builds_then (builds_wide _ _) (λ id. builds_typed a.shape _ _ refl)

-- ---- constructors

builds_operand : (shape : Shape) (step : Step ℕ) → AllBuild step → AllBuild (as_operand shape step)
builds_operand shape step p = builds_then p (λ id. builds_given)

builds_first : (a : Operand) → AllBuild (first_of a)
unfolding first_of
builds_first a = builds_if _ builds_given (builds_operand _ _ (builds_component a 0))

builds_cut : (count : ℕ) (a : Operand) → AllBuild (cut count a)
unfolding cut
builds_cut count a = builds_if _ builds_given (builds_operand _ _ (builds_picked a _))

builds_parts : (s : Scalar) (count : ℕ) (args : List Operand) → AllBuild (parts s count args)
unfolding share
builds_parts s count args = builds_order (share s) (shares count args) (λ one. builds_then (builds_cut one.wanted one.of) (λ a. builds_converted s a))

builds_construct : (shape : Shape) (ids : List ℕ) → AllBuild (construct shape ids)
builds_construct shape ids = builds_typed shape _ _ refl

builds_together : (shape : Shape) (ids : List ℕ) → AllBuild (put_together shape ids)
builds_together shape [] = builds_construct shape []
builds_together shape (id ∷ []) = builds_given
builds_together shape (id ∷ other ∷ ids) = builds_construct shape (id ∷ other ∷ ids)

builds_row : (shape : Shape) (args : List Operand) → AllBuild (in_row shape args)
builds_row shape args = builds_then (builds_parts shape.0 shape.1 args) (λ ids. builds_together shape ids)

builds_fill : (shape : Shape) (a : Operand) → AllBuild (filled_with shape a)
builds_fill shape a = builds_then (builds_converted shape.0 a) (λ part. builds_construct shape _)

builds_vector : (shape : Shape) (args : List Operand) → AllBuild (vector shape args)
builds_vector shape [] = builds_row shape []
builds_vector shape (a ∷ []) = builds_if _ (builds_fill shape a) (builds_row shape (a ∷ []))
builds_vector shape (a ∷ b ∷ args) = builds_row shape (a ∷ b ∷ args)

builds_scalar : (s : Scalar) (args : List Operand) → AllBuild (scalar s args)
builds_scalar s [] = builds_given
builds_scalar s (a ∷ args) = builds_then (builds_first a) (λ first. builds_converted s first)

pub builds_built : (shape : Shape) (args : List Operand) → AllBuild (built shape args)
unfolding built
builds_built shape args = builds_if _ (builds_scalar shape.0 args) (builds_vector shape args)

-- ---- built-in functions

builds_extend : (number : ℕ) (operands : List ℕ) (shape : Shape) → AllBuild (extend number operands shape)
unfolding extend
builds_extend number operands shape = builds_then builds_import (λ set. builds_typed shape _ _ refl)

builds_one : (which : Builtin) (a : Operand) → AllBuild (built_one which a)
unfolding built_one
builds_one f.Abs a = builds_extend _ _ _
builds_one f.Sign a = builds_extend _ _ _
builds_one f.Any a = builds_typed _ _ _ refl
builds_one f.All a = builds_typed _ _ _ refl
builds_one f.Not a = builds_typed _ _ _ refl
builds_one f.BitCount a = builds_typed _ _ _ refl
builds_one f.FindLsb a = builds_extend _ _ _
builds_one f.FindMsb a = builds_extend _ _ _
builds_one f.BitfieldReverse a = builds_typed _ _ _ refl
builds_one _ a = builds_given

builds_bounded : (number : ℕ) (a b : Operand) → AllBuild (bounded number a b)
builds_bounded number a b = builds_then (builds_spread _ b) (λ y. builds_extend _ _ _)

builds_compared : (which : BinaryOp) (a b : Operand) → AllBuild (compared which a b)
builds_compared which a b = builds_typed _ _ _ (inner_binary which a.shape.0)

builds_two : (which : Builtin) (a b : Operand) → AllBuild (built_two which a b)
unfolding built_two
builds_two f.Min a b = builds_bounded _ a b
builds_two f.Max a b = builds_bounded _ a b
builds_two f.LessThan a b = builds_compared Less a b
builds_two f.LessThanEqual a b = builds_compared LessEq a b
builds_two f.GreaterThan a b = builds_compared Greater a b
builds_two f.GreaterThanEqual a b = builds_compared GreaterEq a b
builds_two f.Equal a b = builds_compared Equal a b
builds_two f.NotEqual a b = builds_compared Unequal a b
builds_two _ a b = builds_given

builds_clamped : (a b c : Operand) → AllBuild (clamped a b c)
builds_clamped a b c = builds_then (builds_spread _ b) (λ low. builds_then (builds_spread _ c) (λ high. builds_extend _ _ _))

inner_extract : (s : Scalar) → is_inner (by_sign s op.BIT_FIELD_S_EXTRACT op.BIT_FIELD_U_EXTRACT) ≡ true
inner_extract Boolean = refl
inner_extract Int = refl
inner_extract Uint = refl

builds_three : (which : Builtin) (a b c : Operand) → AllBuild (built_three which a b c)
unfolding built_three
builds_three f.Clamp a b c = builds_clamped a b c
builds_three f.Mix a b c = builds_selected _ _ _ _
builds_three f.BitfieldExtract a b c = builds_typed _ _ _ (inner_extract a.shape.0)
builds_three _ a b c = builds_given

builds_four : (which : Builtin) (shape : Shape) (ids : List ℕ) → AllBuild (built_four which shape ids)
unfolding built_four
builds_four f.BitfieldInsert shape ids = builds_typed shape _ ids refl
builds_four _ shape ids = builds_given

pub builds_called : (which : Builtin) (args : List Operand) → AllBuild (called which args)
unfolding called
builds_called which [] = builds_given
builds_called which (a ∷ []) = builds_one which a
builds_called which (a ∷ b ∷ []) = builds_two which a b
builds_called which (a ∷ b ∷ c ∷ []) = builds_three which a b c
builds_called which (a ∷ b ∷ c ∷ d ∷ []) = builds_four which a.shape _
builds_called which (a ∷ b ∷ c ∷ d ∷ e ∷ args) = builds_given
