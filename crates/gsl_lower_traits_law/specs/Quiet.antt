-- What may be evaluated where it does not count (GLSL 4.50, 5.9): it is there at once.
use Rattle.std.specs.Prelude.{◌≡◌, ℕ, ◌<◌, ◌≤◌, ◌^◌, ◌⊎◌, Bool, true, false, List, length, slice_get, Option, Some}
use Rattle.std.specs.List.{AllByRecursion}
use Rattle.gsl_types.specs.declared.ty.StructType.{StructType}
use Rattle.gsl_types.specs.declared.ty.Ty.{Ty}
use Rattle.gsl_values.specs.declared.value.Value.{Value}
use Rattle.gsl_tree.specs.Around.{Around, stage_var_type}
use Rattle.gsl_tree.specs.Expressions.{HasGlobalType, HasInterfaceType, HasParamType}
use Rattle.gsl_tree.specs.Operations.{has_fixed_length, length_of}
use Rattle.gsl_tree.specs.Trees.{form_of, type_of}
use Rattle.gsl_tree.specs.Values.{is_value_of}
use Rattle.gsl_tree.specs.declared.expr.Expr.{Expr}
use Rattle.gsl_tree.specs.declared.expr.ExprKind.{ExprKind}
use Rattle.gsl_tree.specs.declared.expr.ExprKind.TheOpen.{ExprKind-F}
use Rattle.gsl_tree.specs.declared.unit.Block.{Block}
use Rattle.gsl_typed_law.specs.Given.{AreChoices}
use Rattle.gsl_meaning.specs.Blocks.{words_in}
use Rattle.gsl_meaning.specs.Expressions.{Setting, means}
use Rattle.gsl_meaning.specs.Running.{Run, Got}
use Rattle.gsl_meaning.specs.State.{State}

-- A variable has a value of a type.
abbrev pub IsHeld : List StructType → Ty → Option Value → Type 0
IsHeld structs t o = (v : Value) × (o ≡ Some v) × (is_value_of structs t v ≡ true)

-- A block has what is seen in some bytes; where blocks are seen in few, those are fewer than 2^32.
abbrev pub HasBytes : Bool → List StructType → Block → Option Value → Type 0
HasBytes few structs block o = (bytes : List ℕ) × (o ≡ Some (words_in structs block bytes)) × AllByRecursion (λ byte. byte < 256) bytes × (few ≡ true → length bytes < 2 ^ 32)

-- In a state the variables outside blocks have values of their types, blocks have what is seen in bytes, and choices are words. Whether those bytes are few is told, since only lengths of runtime arrays ask for it.
pub record AreHeld (few : Bool) (around : Around) (s : State) : Type 0 where
  pub globals : (number : ℕ) (t : Ty) → HasGlobalType around.globals number t → IsHeld around.structs t (slice_get s.globals number)
  pub interfaces : (number : ℕ) (t : Ty) → HasInterfaceType around.interfaces number t → IsHeld around.structs t (slice_get s.interfaces number)
  pub params : (number : ℕ) (t : Ty) → HasParamType around.params number t → IsHeld around.structs t (slice_get s.params number)
  pub locals : (number : ℕ) (t : Ty) → slice_get around.locals number ≡ Some t → IsHeld around.structs t (slice_get s.locals number)
  pub blocks : (number : ℕ) (block : Block) → slice_get around.blocks number ≡ Some block → HasBytes few around.structs block (slice_get s.blocks number)
  pub choices : AreChoices s.choices

-- Wherever variables have values of their types, and blocks bytes, a value of a type is given, and nothing else is done.
abbrev pub IsThere : Bool → Around → Ty → Run Value → Type 0
IsThere few around t run = (s : State) (units : ℕ) → AreHeld few around s → (v : Value) × (run s units ≡ Got v s units) × (is_value_of around.structs t v ≡ true)

module _ (few : Bool) (around : Around) (setting : Setting) where
  -- What is asked of lengths, that they are words, and of those of runtime arrays, that blocks are seen in few bytes, or else that they are there; of built-in variables, that they are of their types; and of swizzles, that they have their words.
  abbrev pub AsksThere : Expr → ExprKind-F ExprKind Expr → Type 0
  AsksThere e (ExprKind-F.Swizzle a lanes) = lanes.count ≤ length lanes.words
  AsksThere e (ExprKind-F.Stage var) = is_value_of around.structs (stage_var_type var) (setting.stage_value var) ≡ true
  AsksThere e (ExprKind-F.Length a) = (has_fixed_length (type_of a) ≡ true → length_of (type_of a) < 2 ^ 32) × (has_fixed_length (type_of a) ≡ false → (few ≡ true) ⊎ IsThere few around (type_of e) (means setting e).value)
  AsksThere e _ = Unit {0}

  abbrev pub MayBeThere : Expr → Type 0
  MayBeThere e = AsksThere e (form_of e)
