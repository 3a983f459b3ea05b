-- What is put for a sum of a vector and a scalar, and for a constructor.
use Rattle.std.proofs.Common.{◌≡◌, refl, ℕ, List, [], ◌∷◌}
use Rattle.gsl_base.specs.declared.stage.Stage.TheVariants.{Compute}
use Rattle.gsl_instr.specs.declared.op.TheConstants as op
use Rattle.gsl_types.specs.declared.ty.Scalar.TheVariants.{Bool as Boolean, Int, Uint}
use Rattle.gsl_values.specs.declared.op.BinaryOp.TheVariants.{Add}
use Rattle.gsl_words.specs.declared.module.Instr.{Instr}
use Rattle.gsl_words.specs.declared.target.Target.TheVariants.{V10}
use Rattle.gsl_spv.specs.Declarations.{instr}
use Rattle.gsl_spv.specs.Calls.{intern}
use Rattle.gsl_spv.specs.Sections.{Sections, empty}
use Rattle.gsl_lower_values.specs.Building.{Made, giving, in_order}
use Rattle.gsl_lower_values.specs.Constructors.{built, cut, operand, picked, share, first_of}
use Rattle.gsl_lower_values.specs.Operators.{binary, converted, each, spread}
use Rattle.gsl_lower_values.specs.Types.{filled_constant, scalar_constant, scalar_type, type_of}

-- a builder that gave eight ids
abbrev before : Sections
before = record (empty Compute V10) { last = 8 }

abbrev after : ℕ → List Instr → List Instr → Sections
after last globals functions = record (empty Compute V10) { last = last; globals = globals; functions = functions }

-- `ivec2 + int`, by the ids 7 and 8
sum : binary Add (operand (Int, 2) 7) (operand (Int, 1) 8) before
    ≡ Made 12 (after 12
    (instr op.TYPE_INT (9 ∷ 32 ∷ 1 ∷ []) ∷ instr op.TYPE_VECTOR (10 ∷ 9 ∷ 2 ∷ []) ∷ [])
    (instr op.COMPOSITE_CONSTRUCT (10 ∷ 11 ∷ 8 ∷ 8 ∷ []) ∷ instr op.I_ADD (10 ∷ 12 ∷ 7 ∷ 11 ∷ []) ∷ []))
unfolding binary each spread type_of scalar_type giving intern
sum = refl

-- `uvec2(b, v)` of a truth value and a vector of three, by the ids 7 and 8: the first as one or zero, of the second one component
joined : built (Uint, 2) (operand (Boolean, 1) 7 ∷ operand (Uint, 3) 8 ∷ []) before
    ≡ Made 15 (after 15
    (instr op.TYPE_INT (9 ∷ 32 ∷ 0 ∷ []) ∷ instr op.CONSTANT (9 ∷ 10 ∷ 1 ∷ []) ∷ instr op.CONSTANT (9 ∷ 11 ∷ 0 ∷ []) ∷ instr op.TYPE_VECTOR (14 ∷ 9 ∷ 2 ∷ []) ∷ [])
    (instr op.SELECT (9 ∷ 12 ∷ 7 ∷ 10 ∷ 11 ∷ []) ∷ instr op.COMPOSITE_EXTRACT (9 ∷ 13 ∷ 8 ∷ 0 ∷ []) ∷ instr op.COMPOSITE_CONSTRUCT (14 ∷ 15 ∷ 12 ∷ 13 ∷ []) ∷ []))
unfolding built in_order share cut picked converted filled_constant scalar_constant type_of scalar_type giving intern first_of
joined = refl
