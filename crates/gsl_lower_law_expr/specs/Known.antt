-- What is known of the types of operands.
use Rattle.std.specs.Prelude.{◌≡◌, ◌≢◌, ◌==◌, ℕ, Bool, true, if◌then◌else◌, List, [], ◌∷◌, length}
use Rattle.gsl_types.specs.Known.{AreStructs, IsSound}
use Rattle.gsl_types.specs.declared.ty.Ty.{Ty}
use Rattle.gsl_types.specs.declared.ty.Ty.TheVariants.{Void}
use Rattle.gsl_values.specs.declared.op.BinaryOp.{BinaryOp}
use Rattle.gsl_values.specs.declared.op.UnaryOp.{UnaryOp}
use Rattle.gsl_values.specs.declared.value.Value.{Value}
use Rattle.gsl_values.specs.declared.value.Value.TheVariants.{Word}
use Rattle.gsl_tree.specs.Around.{Around}
use Rattle.gsl_tree.specs.Expressions.{IsBinary}
use Rattle.gsl_tree.specs.Operations.{binary_value, decides, is_signed, logic_word, unary_value}
use Rattle.gsl_tree.specs.Values.{is_value_of, word_in}
use Rattle.gsl_tree.specs.declared.expr.LogicOp.{LogicOp}
use Rattle.gsl_tree.specs.declared.expr.LogicOp.TheVariants as logic
use Rattle.gsl_tree.specs.declared.program.Program.{Program}
use Rattle.gsl_typed_law.specs.Given.{AreChoices, Gives}
use Rattle.gsl_meaning.specs.Expressions.{Meant}
use Rattle.gsl_meaning.specs.Running.{Got, Run, given, ◌>>=◌}
use Rattle.gsl_meaning.specs.State.{State}
use Rattle.gsl_lower_holders.specs.Flow.{Emit}
use Rattle.gsl_lower_expr.specs.Parts.{Lower}

-- An operator fits two types, and gives values of another.
pub record Operates (p : Program) (around : Around) (which : BinaryOp) (left right ty : Ty) : Type 0 where
  pub are : AreStructs p.structs
  pub sound_left : IsSound (length p.structs) left
  pub sound_right : IsSound (length p.structs) right
  pub real_left : left ≢ Void
  pub real_right : right ≢ Void
  pub operands : IsBinary around which left right ty
  pub gives : (v w : Value) (choices : List ℕ) → AreChoices choices → is_value_of p.structs left v ≡ true → is_value_of p.structs right w ≡ true → Gives p.structs ty (binary_value which (is_signed left) v w choices)

-- What an operand gives is there at once, in whatever typed state, and nothing else is done: it may be evaluated where it does not count.
pub record IsQuiet (AreTyped : State → Type 0) (is_typed : Value → Bool) (run : Run Value) : Type 0 where
  pub gives : (s : State) (units : ℕ) → AreTyped s → (v : Value) × (run s units ≡ Got v s units) × (is_typed v ≡ true)

-- what a logical operator goes on with behind its first operand
abbrev pub logic_value : LogicOp → Run Value → Value → Run Value
logic_value which second v = if decides which (word_in v) then given v else second >>= (λ w. given (Word (logic_word which (word_in v) (word_in w))))

-- what a logical operator does
abbrev pub logic_means : LogicOp → Run Value → Run Value → Run Value
logic_means which first second = first >>= logic_value which second

-- `&&` and `||` may have blocks.
abbrev pub IsShort : LogicOp → Type 0
IsShort logic.And = Unit {0}
IsShort logic.Or = Unit {0}
IsShort logic.Xor = ⊥

-- what `?:` goes on with behind its condition
abbrev pub choice_value : Run Value → Run Value → Value → Run Value
choice_value first second v = if word_in v == 0 then second else first

-- what `?:` does
abbrev pub choice_means : Run Value → Run Value → Run Value → Run Value
choice_means test first second = test >>= choice_value first second

-- what an operator on one value does
abbrev pub unary_means : UnaryOp → Run Value → Run Value
unary_means which run = run >>= (λ v. given (unary_value which v))

-- what it is for what a part is lowered to, to give the value of the part
abbrev pub Giving : Type 1
Giving = Bool → Ty → Emit ℕ → Run Value → Type 0

-- Each of some parts has a value, and gives it.
abbrev pub AllGive : Giving → List Lower → List Meant → Type 0
AllGive Give [] [] = Unit {0}
AllGive Give [] (x ∷ xs) = ⊥
AllGive Give (e ∷ es) [] = ⊥
AllGive Give (e ∷ es) (x ∷ xs) = ((e.ty ≢ Void) × Give e.traits.splits e.ty e.value x.value) × AllGive Give es xs

-- Values are of the types of parts.
abbrev pub AllTyped : Program → List Lower → List Value → Type 0
AllTyped p [] [] = Unit {0}
AllTyped p [] (v ∷ vs) = ⊥
AllTyped p (e ∷ es) [] = ⊥
AllTyped p (e ∷ es) (v ∷ vs) = (is_value_of p.structs e.ty v ≡ true) × AllTyped p es vs
