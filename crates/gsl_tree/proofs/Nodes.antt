-- Expressions that are well typed, from what they are made of.
use Rattle.std.proofs.Common.{◌≡◌, sym, ap, subst, ℕ, List, replicate}
use Rattle.std.specs.List.{AllByRecursion}
use Rattle.gsl_base.specs.declared.fault.Place.{Place}
use Rattle.gsl_types.specs.declared.ty.Ty.{Ty}
use Rattle.gsl_types.specs.declared.ty.Scalar.{Scalar}
use Rattle.gsl_types.specs.declared.ty.Ty.TheVariants as ty
use Rattle.gsl_types.specs.declared.ty.StructType.{StructType}
use Rattle.gsl_types.specs.Structs.{numbered}
use Rattle.gsl_types.proofs.Layers.{over_one, over_vector, over_array}
use Rattle.gsl_values.specs.declared.value.Value.{Value}
use Rattle.gsl_tree.specs.declared.expr.Expr.{Expr}
use Rattle.gsl_tree.specs.declared.expr.ExprKind.{ExprKind, out-ExprKind}
use Rattle.gsl_tree.specs.declared.expr.ExprKind.TheOpen.{ExprKind-F}
use Rattle.gsl_tree.specs.Values.{value_meaning, is_value_of, is_scalar, has_parts}
use Rattle.gsl_tree.specs.Trees.{typed, form_of, parts_of, Throughout, ThroughoutAll}
use Rattle.gsl_tree.specs.Around.{Around}
use Rattle.gsl_tree.specs.Paths.{read_parts, written_parts}
use Rattle.gsl_tree.specs.Expressions.{HasType, MayBeRead, MayBeWritten, IsNode, IsExpr}

-- An expression of a form (`outs-V` of its variant gives the equation) is well typed where it has the type of its form, and its parts
-- are well typed and used as they may be.
pub expr_at : (around : Around) (p : Place) (t : Ty) (kind : ExprKind) (form : ExprKind-F ExprKind Expr) → out-ExprKind kind ≡ form
    → HasType around form t → AllByRecursion (MayBeRead around) (read_parts around form) → AllByRecursion (MayBeWritten around) (written_parts around form)
    → ThroughoutAll (IsNode around) (parts_of form) → IsExpr around (typed p t kind)
expr_at around p t kind form is type reads writes parts =
    Throughout.whole (typed p t kind)
    (record { type = subst (λ f. HasType around f t) (sym is) type; reads = subst (λ f. AllByRecursion (MayBeRead around) (read_parts around f)) (sym is) reads; writes = subst (λ f. AllByRecursion (MayBeWritten around) (written_parts around f)) (sym is) writes })
    (subst (λ f. ThroughoutAll (IsNode around) (parts_of f)) (sym is) parts)

-- what a well typed expression is by itself
pub node_of : (around : Around) (e : Expr) → IsExpr around e → IsNode around e
node_of around _ (Throughout.whole e node parts) = node

-- the parts of a well typed expression are
pub parts_typed : (around : Around) (e : Expr) → IsExpr around e → ThroughoutAll (IsNode around) (parts_of (form_of e))
parts_typed around _ (Throughout.whole e node parts) = parts

-- ---- the values of each kind of type

pub value_of_one : (structs : List StructType) (s : Scalar) (v : Value) → is_value_of structs (ty.One s) v ≡ is_scalar s v
value_of_one structs s v = ap (λ (test : Value → _). test v) (over_one value_meaning (numbered value_meaning structs) s)

pub value_of_vector : (structs : List StructType) (s : Scalar) (n : ℕ) (v : Value) → is_value_of structs (ty.Vector s n) v ≡ has_parts (replicate n (is_scalar s)) v
value_of_vector structs s n v = ap (λ (test : Value → _). test v) (over_vector value_meaning (numbered value_meaning structs) s n)

pub value_of_array : (structs : List StructType) (element : Ty) (n : ℕ) (v : Value) → is_value_of structs (ty.Array element n) v ≡ has_parts (replicate n (is_value_of structs element)) v
value_of_array structs element n v = ap (λ (test : Value → _). test v) (over_array value_meaning (numbered value_meaning structs) element n)
