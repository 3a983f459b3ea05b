-- What is known of an expression before it is lowered.
use Rattle.std.specs.Prelude.{ℕ, Bool, true, false, not, ◌==◌, ◌&&◌, ◌||◌, List, [], ◌∷◌, map, Option, Some, None}
use Rattle.gsl_types.specs.declared.ty.Ty.{Ty}
use Rattle.gsl_types.specs.declared.ty.Ty.TheOpen.{Ty-F}
use Rattle.gsl_types.specs.declared.ty.Ty.TheViews.{out-Ty}
use Rattle.gsl_values.specs.declared.op.BinaryOp.{BinaryOp}
use Rattle.gsl_values.specs.declared.op.BinaryOp.TheVariants.{Div, Mod, Shl, Shr}
use Rattle.gsl_values.specs.declared.value.Value.{Value}
use Rattle.gsl_tree.specs.Operations.{has_fixed_length}
use Rattle.gsl_tree.specs.Shapes.{Shape, shape_of}
use Rattle.gsl_tree.specs.Values.{word_in}
use Rattle.gsl_tree.specs.declared.expr.Expr.{Expr}
use Rattle.gsl_tree.specs.declared.expr.ExprKind.{ExprKind}
use Rattle.gsl_tree.specs.declared.expr.ExprKind.TheOpen.{ExprKind-F, Expr-F}
use Rattle.gsl_tree.specs.declared.expr.ExprKind.TheFolds.{fold-Expr, fold-ExprKind}
use Rattle.gsl_tree.specs.declared.expr.LogicOp.{LogicOp}
use Rattle.gsl_tree.specs.declared.expr.LogicOp.TheVariants as logic
use Rattle.gsl_lower_traits.specs.declared.traits.Traits.{Traits}

-- an expression's type, and what is known of it
pub record Known : Type 0 where
  pub ty : Ty
  pub traits : Traits

abbrev pub has_shape : Option Shape → Bool
has_shape None = false
has_shape (Some shape) = true

-- whether a type is a scalar or a vector
abbrev pub is_plain : Ty → Bool
is_plain t = has_shape (shape_of t)

abbrev pub is_one : Option Shape → Bool
is_one None = false
is_one (Some shape) = shape.1 == 1

abbrev pub is_dynamic : Option ℕ → Bool
is_dynamic None = true
is_dynamic (Some number) = false

-- an array that is a value and in no variable is put into a holder, where an index into it is computed
abbrev pub spills : Known → Traits → Bool
spills a i = a.traits.is_loose && is_dynamic i.literal && not (is_plain a.ty)

-- the right operand is entered where the left one does not decide, unless it may be evaluated where it does not count
abbrev pub is_short : LogicOp → Traits → Bool
is_short logic.Xor b = false
is_short which b = not b.quiet

-- a scalar is selected from two values that are both there, if they may be
abbrev pub is_selected : Ty → Traits → Traits → Bool
is_selected t a b = is_one (shape_of t) && a.quiet && b.quiet

-- whether an operator draws no choices, whatever its operands are
abbrev pub is_sure : BinaryOp → Bool
is_sure Div = false
is_sure Mod = false
is_sure Shl = false
is_sure Shr = false
is_sure _ = true

abbrev pub literal_by : Ty-F Ty → Value → Option ℕ
literal_by (Ty-F.One s) v = Some (word_in v)
literal_by _ v = None

-- ---- by how an expression stands to its parts

-- what stands in a variable: a scalar or vector in it may be read at any time
abbrev pub in_variable : Ty → Traits
in_variable t = record { literal = None; is_loose = false; splits = false; calls = false; quiet = is_plain t; still = true }

-- a part of what another expression leads to
abbrev pub part_of : Ty → Traits → Traits
part_of t a = record { literal = None; is_loose = a.is_loose; splits = a.splits; calls = a.calls; quiet = a.still && is_plain t; still = a.still }

-- what gives a value
abbrev pub valued : Bool → Bool → Bool → Traits
valued splits calls quiet = record { literal = None; is_loose = true; splits = splits; calls = calls; quiet = quiet; still = quiet }

abbrev pub of_one : Traits → Traits
of_one a = valued a.splits a.calls a.quiet

abbrev pub of_two : Bool → Bool → Traits → Traits → Traits
of_two more quiet a b = valued (a.splits || b.splits || more) (a.calls || b.calls) (a.quiet && b.quiet && quiet)

-- an index that is known, into what has a length that its type tells, does nothing
abbrev pub is_still_index : Known → Traits → Bool
is_still_index a i = a.traits.still && not (is_dynamic i.literal) && has_fixed_length a.ty

abbrev pub indexed : Ty → Known → Traits → Traits
indexed t a i = record {
  literal = None;
  is_loose = a.traits.is_loose && not (spills a i);
  splits = a.traits.splits || i.splits;
  calls = a.traits.calls || i.calls;
  quiet = is_still_index a i && is_plain t;
  still = is_still_index a i;
}

abbrev pub chosen : Ty → Traits → Traits → Traits → Traits
chosen t test a b = valued (test.splits || a.splits || b.splits || not (is_selected t a b)) (test.calls || a.calls || b.calls) (test.quiet && is_selected t a b)

-- what is known of several together
abbrev pub with : Traits → Traits → Traits
with a b = valued (a.splits || b.splits) (a.calls || b.calls) (a.quiet && b.quiet)

abbrev pub together_on : Traits → List Known → Traits
together_on so_far [] = so_far
together_on so_far (e ∷ es) = together_on (with so_far e.traits) es

abbrev pub together : List Known → Traits
together es = together_on (valued false false true) es

abbrev pub constant : Ty → Value → Traits
constant t v = record (valued false false true) { literal = literal_by (out-Ty t) v }

-- what does more than give a value
abbrev pub loud : Traits → Traits
loud a = valued a.splits a.calls false

abbrev pub called : Traits → Traits
called a = valued a.splits true false

abbrev pub built : Ty → Traits → Traits
built t a = valued a.splits a.calls (a.quiet && is_plain t)

-- ---- every kind of expression

abbrev pub traits_by : ExprKind-F (Ty → Traits) Known → Ty → Traits
traits_by (ExprKind-F.Const v) t = constant t v
traits_by (ExprKind-F.Local number) t = in_variable t
traits_by (ExprKind-F.Global number) t = in_variable t
traits_by (ExprKind-F.Param number) t = in_variable t
traits_by (ExprKind-F.BlockMember block number) t = in_variable t
traits_by (ExprKind-F.Stage var) t = valued false false true
traits_by (ExprKind-F.Interface number) t = in_variable t
traits_by (ExprKind-F.Member a number) t = part_of t a.traits
traits_by (ExprKind-F.Index a i) t = indexed t a i.traits
traits_by (ExprKind-F.Swizzle a lanes) t = part_of t a.traits
traits_by (ExprKind-F.Length a) t = valued false false true
traits_by (ExprKind-F.Unary op a) t = of_one a.traits
traits_by (ExprKind-F.Binary op a b) t = of_two false (is_sure op) a.traits b.traits
traits_by (ExprKind-F.Logic op a b) t = of_two (is_short op b.traits) true a.traits b.traits
traits_by (ExprKind-F.Choose test a b) t = chosen t test.traits a.traits b.traits
traits_by (ExprKind-F.Assign a b) t = of_two false false a.traits b.traits
traits_by (ExprKind-F.Update op a b) t = of_two false false a.traits b.traits
traits_by (ExprKind-F.Step op a) t = loud a.traits
traits_by (ExprKind-F.Call number args) t = called (together args)
traits_by (ExprKind-F.Built which args) t = loud (together args)
traits_by (ExprKind-F.Build args) t = built t (together args)
traits_by (ExprKind-F.Convert a) t = of_one a.traits
traits_by (ExprKind-F.Comma items) t = loud (together items)

abbrev pub known_by : Expr-F (Ty → Traits) Known → Known
known_by e = record { ty = e.ty; traits = e.kind e.ty }

abbrev pub known : Expr → Known
known = fold-Expr (Ty → Traits) Known traits_by known_by

-- what is known of an expression
unfoldable pub traits_of : Expr → Traits
traits_of e = (known e).traits

-- what is known of what is of a kind, where it has a type
unfoldable pub kind_traits : ExprKind → Ty → Traits
kind_traits = fold-ExprKind (Ty → Traits) Known traits_by known_by

-- what is known of several expressions together, behind others
unfoldable pub together_from : Traits → List Expr → Traits
together_from so_far es = together_on so_far (map known es)

abbrev pub together_of : List Expr → Traits
together_of es = together_from (valued false false true) es
