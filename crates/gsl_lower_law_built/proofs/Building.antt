-- Steps of constructors only add, whatever their arguments are.
use Rattle.std.proofs.Common.{ℕ, ◌-◌, Bool, true, false, ◌==◌, List, [], ◌∷◌, length, if◌then◌else◌}
use Rattle.std.specs.Prelude.{nat_le, replicate}
use Rattle.std.specs.List.{range_with_len}
use Rattle.gsl_base.specs.declared.input.Input.{Input}
use Rattle.gsl_instr.specs.declared.op.TheConstants as op
use Rattle.gsl_types.specs.declared.ty.Scalar.{Scalar}
use Rattle.gsl_words.specs.declared.module.Module.{Module}
use Rattle.gsl_tree.specs.Shapes.{Shape}
use Rattle.gsl_spv.specs.Sections.{Sections}
use Rattle.gsl_lower_values.specs.Building.{Step, given, giving, in_order, ◌>>=◌}
use Rattle.gsl_lower_values.specs.Constructors.{as_operand, built, component, components, construct, cut, filled_with, first_of, in_row, operand, parts, picked, put_together, scalar, share, shares, vector}
use Rattle.gsl_lower_values.specs.Operators.{converted}
use Rattle.gsl_lower_values.specs.Types.{type_of}
use Rattle.gsl_lower_values.specs.declared.operand.Operand.{Operand}
use Rattle.gsl_lower_law_expr.proofs.Steps.{Always, always_converted, always_given, always_giving, always_then, always_type, always_typed}

module _ (m : Module) (input : Input) (whole : Sections) where
  always_component : (a : Operand) (position : ℕ) → Always (component a position)
  always_component a position = always_typed m input whole (a.shape.0, 1) op.COMPOSITE_EXTRACT (a.id ∷ position ∷ [])

  always_components : (a : Operand) (positions : List ℕ) → Always (components a positions)
  always_components a positions =
      always_then m input whole (type_of (a.shape.0, length positions)) (if a.shape.1 == 1 then giving op.COMPOSITE_CONSTRUCT (replicate (length positions) a.id) else giving op.VECTOR_SHUFFLE (a.id ∷ a.id ∷ positions)) (always_type m input whole (a.shape.0, length positions)) (by (a.shape.1 == 1))
    where
      by : (one : Bool) (type : ℕ) → Always ((if one then giving op.COMPOSITE_CONSTRUCT (replicate (length positions) a.id) else giving op.VECTOR_SHUFFLE (a.id ∷ a.id ∷ positions)) type)
      by true type = always_giving m input whole op.COMPOSITE_CONSTRUCT (replicate (length positions) a.id) type
      by false type = always_giving m input whole op.VECTOR_SHUFFLE (a.id ∷ a.id ∷ positions) type

  always_picked : (a : Operand) (positions : List ℕ) → Always (picked a positions)
  unfolding picked
  always_picked a [] = always_components a []
  always_picked a (position ∷ []) = by (a.shape.1 == 1)
    where
      by : (one : Bool) → Always (if one then given a.id else component a position)
      by true = always_given m input whole a.id
      by false = always_component a position
  always_picked a (position ∷ next ∷ positions) = always_components a (position ∷ next ∷ positions)

  always_as : (shape : Shape) (step : Step ℕ) → Always step → Always (as_operand shape step)
  always_as shape step always = always_then m input whole step (λ id. given (operand shape id)) always (λ id. always_given m input whole (operand shape id))

  always_first : (a : Operand) → Always (first_of a)
  unfolding first_of
  always_first a = by (a.shape.1 == 1)
    where
      by : (one : Bool) → Always (if one then given a else as_operand (a.shape.0, 1) (component a 0))
      by true = always_given m input whole a
      by false = always_as (a.shape.0, 1) (component a 0) (always_component a 0)

  always_cut : (count : ℕ) (a : Operand) → Always (cut count a)
  unfolding cut
  always_cut count a = by (nat_le a.shape.1 count)
    where
      by : (few : Bool) → Always (if few then given a else as_operand (a.shape.0, count) (picked a (range_with_len 0 count)))
      by true = always_given m input whole a
      by false = always_as (a.shape.0, count) (picked a (range_with_len 0 count)) (always_picked a (range_with_len 0 count))

  always_share : (s : Scalar) (wanted : ℕ) (a : Operand) → Always (share s (record { wanted = wanted; of = a }))
  unfolding share
  always_share s wanted a = always_then m input whole (cut wanted a) (converted s) (always_cut wanted a) (always_converted m input whole s)

  always_each : (s : Scalar) (count : ℕ) (args : List Operand) → Always (in_order (share s) (shares count args))
  unfolding in_order
  always_each s count [] = always_given m input whole {A = List ℕ} []
  always_each s count (a ∷ args) = by (always_each s (count - a.shape.1) args) (count == 0)
    where
      by : Always (in_order (share s) (shares (count - a.shape.1) args)) → (none : Bool) → Always (in_order (share s) (if none then [] else record { wanted = count; of = a } ∷ shares (count - a.shape.1) args))
      by others true = always_given m input whole {A = List ℕ} []
      by others false =
          always_then m input whole (share s (record { wanted = count; of = a })) (λ id. in_order (share s) (shares (count - a.shape.1) args) >>= (λ ids. given (id ∷ ids))) (always_share s count a)
          (λ id. always_then m input whole (in_order (share s) (shares (count - a.shape.1) args)) (λ ids. given (id ∷ ids)) others (λ ids. always_given m input whole (id ∷ ids)))

  always_together : (shape : Shape) (ids : List ℕ) → Always (put_together shape ids)
  always_together shape [] = always_typed m input whole shape op.COMPOSITE_CONSTRUCT []
  always_together shape (id ∷ []) = always_given m input whole id
  always_together shape (id ∷ next ∷ ids) = always_typed m input whole shape op.COMPOSITE_CONSTRUCT (id ∷ next ∷ ids)

  always_row : (shape : Shape) (args : List Operand) → Always (in_row shape args)
  always_row shape args = always_then m input whole (parts shape.0 shape.1 args) (put_together shape) (always_each shape.0 shape.1 args) (always_together shape)

  always_filled : (shape : Shape) (a : Operand) → Always (filled_with shape a)
  always_filled shape a =
      always_then m input whole (converted shape.0 a) (λ part. construct shape (replicate shape.1 part)) (always_converted m input whole shape.0 a) (λ part. always_typed m input whole shape op.COMPOSITE_CONSTRUCT (replicate shape.1 part))

  always_vector : (shape : Shape) (args : List Operand) → Always (vector shape args)
  always_vector shape [] = always_row shape []
  always_vector shape (a ∷ []) = by (a.shape.1 == 1)
    where
      by : (one : Bool) → Always (if one then filled_with shape a else in_row shape (a ∷ []))
      by true = always_filled shape a
      by false = always_row shape (a ∷ [])
  always_vector shape (a ∷ b ∷ args) = always_row shape (a ∷ b ∷ args)

  always_scalar : (s : Scalar) (args : List Operand) → Always (scalar s args)
  always_scalar s [] = always_given m input whole {A = ℕ} 0
  always_scalar s (a ∷ args) = always_then m input whole (first_of a) (converted s) (always_first a) (always_converted m input whole s)

  pub always_built : (shape : Shape) (args : List Operand) → Always (built shape args)
  unfolding built
  always_built shape args = by (shape.1 == 1)
    where
      by : (one : Bool) → Always (if one then scalar shape.0 args else vector shape args)
      by true = always_scalar shape.0 args
      by false = always_vector shape args
