-- Steps of operators only add, whatever their operands are.
use Rattle.std.proofs.Common.{ℕ, Bool, true, false, List, [], ◌∷◌, if◌then◌else◌}
use Rattle.std.specs.Prelude.{max, replicate, ◌==◌}
use Rattle.gsl_base.specs.declared.input.Input.{Input}
use Rattle.gsl_instr.specs.declared.op.TheConstants as op
use Rattle.gsl_types.specs.declared.ty.Scalar.{Scalar}
use Rattle.gsl_types.specs.declared.ty.Scalar.TheVariants.{Bool as Boolean, Int, Uint}
use Rattle.gsl_words.specs.declared.module.Module.{Module}
use Rattle.gsl_values.specs.declared.op.BinaryOp.{BinaryOp}
use Rattle.gsl_values.specs.declared.op.BinaryOp.TheVariants.{Add, Sub, Mul, Div, Mod, Shl, Shr, And, Or, Xor, Less, LessEq, Greater, GreaterEq, Equal, Unequal}
use Rattle.gsl_values.specs.declared.op.UnaryOp.{UnaryOp}
use Rattle.gsl_tree.specs.Shapes.{Shape, flag}
use Rattle.gsl_tree.specs.declared.expr.LogicOp.{LogicOp}
use Rattle.gsl_tree.specs.declared.expr.StepOp.{StepOp}
use Rattle.gsl_spv.specs.Sections.{Sections}
use Rattle.gsl_spv.proofs.Extending.{extends_same}
use Rattle.gsl_lower_values.specs.Building.{Step, given, giving, ◌>>=◌}
use Rattle.gsl_lower_values.specs.Operators.{binary, binary_code, converted, converted_from, each, given_scalar, joined, joining, logic_code, logical, numbered, selected, spread, step_code, stepped, tested, unary, unary_code}
use Rattle.gsl_lower_values.specs.Types.{filled_constant, type_of}
use Rattle.gsl_lower_values.specs.declared.operand.Operand.{Operand}
use Rattle.gsl_lower_law.specs.Computing.{Grows}
use Rattle.gsl_lower_law.proofs.Fixed.{filled_constant_lasts}
use Rattle.gsl_lower_law.proofs.Giving.{giving_grows}
use Rattle.gsl_lower_law.proofs.Joining.{grows_then}
use Rattle.gsl_lower_law.proofs.Plain.{type_does}
use Rattle.gsl_lower_follows.proofs.Fetching.{no_state}

-- A step only adds.
abbrev pub Always : {A : Type 0} → Step A → Type 0
Always step = (before : Sections) → Grows before (step before)

module _ (m : Module) (input : Input) (whole : Sections) where
  pub always_then : {A B : Type 0} (first : Step A) (next : A → Step B) → Always first → ((a : A) → Always (next a)) → Always (first >>= next)
  always_then first next p q before = grows_then m input whole before (first before) next (p before) (λ a between. q a between)

  pub always_given : {A : Type 0} (a : A) → Always (given a)
  always_given a before = extends_same before

  pub always_giving : (code : ℕ) (operands : List ℕ) (type : ℕ) → Always (giving code operands type)
  always_giving code operands type before = giving_grows m input whole code operands type before

  pub always_type : (shape : Shape) → Always (type_of shape)
  always_type shape before = (type_does m input whole shape no_state before).grows

  pub always_filled : (shape : Shape) (word : ℕ) → Always (filled_constant shape word)
  always_filled shape word before = (filled_constant_lasts m input whole shape word no_state before).grows

  pub always_typed : (shape : Shape) (code : ℕ) (operands : List ℕ) → Always (type_of shape >>= giving code operands)
  always_typed shape code operands = always_then (type_of shape) (giving code operands) (always_type shape) (always_giving code operands)

  pub always_unary : (which : UnaryOp) (a : Operand) → Always (unary which a)
  unfolding unary
  always_unary which a = always_typed a.shape (unary_code which) (a.id ∷ [])

  pub always_stepped : (which : StepOp) (a : Operand) → Always (stepped which a)
  unfolding stepped
  always_stepped which a = always_then (filled_constant a.shape 1) (λ ones. type_of a.shape >>= giving (step_code which) (a.id ∷ ones ∷ [])) (always_filled a.shape 1) (λ ones. always_typed a.shape (step_code which) (a.id ∷ ones ∷ []))

  pub always_converted : (to : Scalar) (a : Operand) → Always (converted to a)
  unfolding converted
  always_converted to a = by a.shape.0 to
    where
      numbers : (to : Scalar) → Always (numbered to a)
      numbers to =
          always_then (filled_constant (to, a.shape.1) 1) (λ ones. filled_constant (to, a.shape.1) 0 >>= (λ zeros. type_of (to, a.shape.1) >>= giving op.SELECT (a.id ∷ ones ∷ zeros ∷ []))) (always_filled (to, a.shape.1) 1)
          (λ ones. always_then (filled_constant (to, a.shape.1) 0) (λ zeros. type_of (to, a.shape.1) >>= giving op.SELECT (a.id ∷ ones ∷ zeros ∷ [])) (always_filled (to, a.shape.1) 0) (λ zeros. always_typed (to, a.shape.1) op.SELECT (a.id ∷ ones ∷ zeros ∷ [])))

      tests : Always (tested a)
      tests = always_then (filled_constant a.shape 0) (λ zeros. type_of (Boolean, a.shape.1) >>= giving op.I_NOT_EQUAL (a.id ∷ zeros ∷ [])) (always_filled a.shape 0) (λ zeros. always_typed (Boolean, a.shape.1) op.I_NOT_EQUAL (a.id ∷ zeros ∷ []))

      by : (from to : Scalar) → Always (converted_from from to a)
      by Boolean Boolean = always_given a.id
      by Boolean Int = numbers Int
      by Boolean Uint = numbers Uint
      by Int Boolean = tests
      by Int Int = always_given a.id
      by Int Uint = always_typed (Uint, a.shape.1) op.BITCAST (a.id ∷ [])
      by Uint Boolean = tests
      by Uint Int = always_typed (Int, a.shape.1) op.BITCAST (a.id ∷ [])
      by Uint Uint = always_given a.id

  pub always_spread : (count : ℕ) (a : Operand) → Always (spread count a)
  unfolding spread
  always_spread count a = by (a.shape.1 == count)
    where
      by : (same : Bool) → Always (if same then given a.id else type_of (a.shape.0, count) >>= giving op.COMPOSITE_CONSTRUCT (replicate count a.id))
      by true = always_given a.id
      by false = always_typed (a.shape.0, count) op.COMPOSITE_CONSTRUCT (replicate count a.id)

  pub always_each : (which : BinaryOp) (a b : Operand) → Always (each which a b)
  unfolding each
  always_each which a b =
      let count = max a.shape.1 b.shape.1 in
      always_then (spread count a) (λ x. spread count b >>= (λ y. type_of (given_scalar which a.shape.0, count) >>= giving (binary_code which a.shape.0) (x ∷ y ∷ []))) (always_spread count a)
      (λ x. always_then (spread count b) (λ y. type_of (given_scalar which a.shape.0, count) >>= giving (binary_code which a.shape.0) (x ∷ y ∷ [])) (always_spread count b) (λ y. always_typed (given_scalar which a.shape.0, count) (binary_code which a.shape.0) (x ∷ y ∷ [])))

  pub always_binary : (which : BinaryOp) (a b : Operand) → Always (binary which a b)
  unfolding binary
  always_binary which a b = always_then (each which a b) (joined which (max a.shape.1 b.shape.1)) (always_each which a b) (joins which (max a.shape.1 b.shape.1))
    where
      if_one : (one : Bool) (code truths : ℕ) → Always (if one then given truths else joining code truths)
      if_one true code truths = always_given truths
      if_one false code truths = always_typed flag code (truths ∷ [])

      joins : (which : BinaryOp) (count truths : ℕ) → Always (joined which count truths)
      joins Add count truths = always_given truths
      joins Sub count truths = always_given truths
      joins Mul count truths = always_given truths
      joins Div count truths = always_given truths
      joins Mod count truths = always_given truths
      joins Shl count truths = always_given truths
      joins Shr count truths = always_given truths
      joins And count truths = always_given truths
      joins Or count truths = always_given truths
      joins Xor count truths = always_given truths
      joins Less count truths = always_given truths
      joins LessEq count truths = always_given truths
      joins Greater count truths = always_given truths
      joins GreaterEq count truths = always_given truths
      joins Equal count truths = if_one (count == 1) op.ALL truths
      joins Unequal count truths = if_one (count == 1) op.ANY truths

  pub always_logical : (which : LogicOp) (a b : ℕ) → Always (logical which a b)
  unfolding logical
  always_logical which a b = always_typed flag (logic_code which) (a ∷ b ∷ [])

  pub always_selected : (shape : Shape) (condition a b : ℕ) → Always (selected shape condition a b)
  unfolding selected
  always_selected shape condition a b = always_typed shape op.SELECT (condition ∷ a ∷ b ∷ [])
