-- What is known of the types of expressions and of the values of variables before a run (GLSL 4.50, 4.3.3).
use Rattle.std.specs.Prelude.{◌≡◌, ℕ, true, length, slice_get, Some}
use Rattle.gsl_types.specs.Known.{IsSound}
use Rattle.gsl_types.specs.declared.ty.Ty.{Ty}
use Rattle.gsl_values.specs.declared.value.Value.{Value}
use Rattle.gsl_tree.specs.Around.{Around}
use Rattle.gsl_tree.specs.Constants.{known_at}
use Rattle.gsl_tree.specs.Expressions.{IsExpr}
use Rattle.gsl_tree.specs.Trees.{type_of}
use Rattle.gsl_tree.specs.Values.{is_value_of}
use Rattle.gsl_tree.specs.declared.expr.Expr.{Expr}
use Rattle.gsl_tree.specs.declared.folded.Consts.{Consts}
use Rattle.gsl_tree.specs.declared.folded.Folded.TheVariants.{Known}
use Rattle.gsl_tree.specs.declared.unit.GlobalVar.{GlobalVar}

-- The types of well typed expressions are types over the structs.
abbrev pub AreSound : Around → Type 0
AreSound around = (e : Expr) → IsExpr around e → IsSound (length around.structs) (type_of e)

-- A variable whose value is known has one of its type.
pub record AreKnown (around : Around) (consts : Consts) : Type 0 where
  pub locals : (number : ℕ) (t : Ty) (v : Value) → slice_get around.locals number ≡ Some t → known_at consts.locals number ≡ Known v → is_value_of around.structs t v ≡ true
  pub globals : (number : ℕ) (g : GlobalVar) (v : Value) → slice_get around.globals number ≡ Some g → known_at consts.globals number ≡ Known v → is_value_of around.structs g.ty v ≡ true
