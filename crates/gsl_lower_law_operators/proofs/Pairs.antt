-- Operators on two values, by their opcodes.
use Rattle.std.proofs.Common.{◌≡◌, refl, ap, ◌∙◌, ℕ, Bool, false, [], ◌∷◌, Some, if◌then◌else◌}
use Rattle.gsl_base.specs.declared.input.Input.{Input}
use Rattle.gsl_instr.specs.Forms.{form_of}
use Rattle.gsl_types.specs.declared.ty.Scalar.{Scalar}
use Rattle.gsl_types.specs.declared.ty.Scalar.TheVariants.{Bool as Boolean, Int, Uint}
use Rattle.gsl_words.specs.declared.module.Module.{Module}
use Rattle.gsl_values.specs.declared.op.BinaryOp.{BinaryOp}
use Rattle.gsl_values.specs.declared.op.BinaryOp.TheVariants.{Add, Sub, Mul, Div, Mod, Shl, Shr, And, Or, Xor, Less, LessEq, Greater, GreaterEq, Equal, Unequal}
use Rattle.gsl_values.specs.declared.value.Value.{Value}
use Rattle.gsl_tree.specs.Operations.{is_signed_scalar}
use Rattle.gsl_lower_law.specs.OfValid.{result}
use Rattle.gsl_lower_law.specs.OfValid.{read}
use Rattle.gsl_lower_law.specs.OfValid.{Gives, kind}
use Rattle.gsl_lower_law.specs.OfMachine.{binary as two_operands, Operator}
use Rattle.gsl_lower_law.specs.OfMachine.{State, on, on_whole}
use Rattle.gsl_lower_law.specs.OfMachine.{act, drawing, on_two}
use Rattle.gsl_lower_values.specs.Operators.{binary_code}
use Rattle.gsl_lower_law.specs.Values.{Stands}
use Rattle.gsl_lower_law.proofs.Giving.{Performs, with_id}
use Rattle.gsl_lower_law_operators.proofs.Signs.{signed_operator}

-- An opcode of an instruction of two operands, which does this.
pub record Two (m : Module) (input : Input) (code : ℕ) (operator : Operator) : Type 0 where
  pub gives : (a b type id : ℕ) → kind (read (with_id code (a ∷ b ∷ []) type id)) ≡ Gives type
  pub named : (a b type id : ℕ) → result (read (with_id code (a ∷ b ∷ []) type id)) ≡ Some id
  pub does : (a b type id at : ℕ) (state : State) → on (read (with_id code (a ∷ b ∷ []) type id)) (act m input at state) ≡ on_two state id a b operator

-- whether the operator is one on words with their sign
abbrev pub signed_as : BinaryOp → Scalar → Bool
signed_as which s = if signed_operator which then is_signed_scalar s else false

module _ (m : Module) (input : Input) where
  pub two_of : (which : BinaryOp) (s : Scalar) → Two m input (binary_code which s) (which, signed_as which s)
  unfolding form_of
  two_of Add s = record { gives = λ a b type id. refl; named = λ a b type id. refl; does = λ a b type id at state. refl }
  two_of Sub s = record { gives = λ a b type id. refl; named = λ a b type id. refl; does = λ a b type id at state. refl }
  two_of Mul s = record { gives = λ a b type id. refl; named = λ a b type id. refl; does = λ a b type id at state. refl }
  two_of Shl s = record { gives = λ a b type id. refl; named = λ a b type id. refl; does = λ a b type id at state. refl }
  two_of And s = record { gives = λ a b type id. refl; named = λ a b type id. refl; does = λ a b type id at state. refl }
  two_of Or s = record { gives = λ a b type id. refl; named = λ a b type id. refl; does = λ a b type id at state. refl }
  two_of Xor s = record { gives = λ a b type id. refl; named = λ a b type id. refl; does = λ a b type id at state. refl }
  two_of Div Boolean = record { gives = λ a b type id. refl; named = λ a b type id. refl; does = λ a b type id at state. refl }
  two_of Div Int = record { gives = λ a b type id. refl; named = λ a b type id. refl; does = λ a b type id at state. refl }
  two_of Div Uint = record { gives = λ a b type id. refl; named = λ a b type id. refl; does = λ a b type id at state. refl }
  two_of Mod Boolean = record { gives = λ a b type id. refl; named = λ a b type id. refl; does = λ a b type id at state. refl }
  two_of Mod Int = record { gives = λ a b type id. refl; named = λ a b type id. refl; does = λ a b type id at state. refl }
  two_of Mod Uint = record { gives = λ a b type id. refl; named = λ a b type id. refl; does = λ a b type id at state. refl }
  two_of Shr Boolean = record { gives = λ a b type id. refl; named = λ a b type id. refl; does = λ a b type id at state. refl }
  two_of Shr Int = record { gives = λ a b type id. refl; named = λ a b type id. refl; does = λ a b type id at state. refl }
  two_of Shr Uint = record { gives = λ a b type id. refl; named = λ a b type id. refl; does = λ a b type id at state. refl }
  two_of Less Boolean = record { gives = λ a b type id. refl; named = λ a b type id. refl; does = λ a b type id at state. refl }
  two_of Less Int = record { gives = λ a b type id. refl; named = λ a b type id. refl; does = λ a b type id at state. refl }
  two_of Less Uint = record { gives = λ a b type id. refl; named = λ a b type id. refl; does = λ a b type id at state. refl }
  two_of LessEq Boolean = record { gives = λ a b type id. refl; named = λ a b type id. refl; does = λ a b type id at state. refl }
  two_of LessEq Int = record { gives = λ a b type id. refl; named = λ a b type id. refl; does = λ a b type id at state. refl }
  two_of LessEq Uint = record { gives = λ a b type id. refl; named = λ a b type id. refl; does = λ a b type id at state. refl }
  two_of Greater Boolean = record { gives = λ a b type id. refl; named = λ a b type id. refl; does = λ a b type id at state. refl }
  two_of Greater Int = record { gives = λ a b type id. refl; named = λ a b type id. refl; does = λ a b type id at state. refl }
  two_of Greater Uint = record { gives = λ a b type id. refl; named = λ a b type id. refl; does = λ a b type id at state. refl }
  two_of GreaterEq Boolean = record { gives = λ a b type id. refl; named = λ a b type id. refl; does = λ a b type id at state. refl }
  two_of GreaterEq Int = record { gives = λ a b type id. refl; named = λ a b type id. refl; does = λ a b type id at state. refl }
  two_of GreaterEq Uint = record { gives = λ a b type id. refl; named = λ a b type id. refl; does = λ a b type id at state. refl }
  two_of Equal Boolean = record { gives = λ a b type id. refl; named = λ a b type id. refl; does = λ a b type id at state. refl }
  two_of Equal Int = record { gives = λ a b type id. refl; named = λ a b type id. refl; does = λ a b type id at state. refl }
  two_of Equal Uint = record { gives = λ a b type id. refl; named = λ a b type id. refl; does = λ a b type id at state. refl }
  two_of Unequal Boolean = record { gives = λ a b type id. refl; named = λ a b type id. refl; does = λ a b type id at state. refl }
  two_of Unequal Int = record { gives = λ a b type id. refl; named = λ a b type id. refl; does = λ a b type id at state. refl }
  two_of Unequal Uint = record { gives = λ a b type id. refl; named = λ a b type id. refl; does = λ a b type id at state. refl }

  pub two_performs : (code : ℕ) (operator : Operator) (type a b : ℕ) (v w : Value) (state : State) → Two m input code operator → Stands state.ids a v → Stands state.ids b w
      → Performs m input code (a ∷ b ∷ []) type state (two_operands operator v w state.choices).0 (two_operands operator v w state.choices).1
  two_performs code operator type a b v w state two first second = record {
    gives = λ id. two.gives a b type id;
    named = λ id. two.named a b type id;
    done = λ id at rest.
        two.does a b type id at (record state { rest = rest })
        ∙ ap (λ o. on_whole o (λ x. on_whole (state.ids b) (λ y. drawing (record state { rest = rest }) id (two_operands operator x y)))) first
        ∙ ap (λ o. on_whole o (λ y. drawing (record state { rest = rest }) id (two_operands operator v y))) second;
  }
