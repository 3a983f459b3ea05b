-- Expressions with what is known of them, their types and their weights, so that a wrong definition is seen.
use Rattle.std.proofs.Common.{◌≡◌, refl, ℕ, true, false, List, [], ◌∷◌, Option, Some, None, inl, inr, arith}
use Rattle.gsl_base.specs.declared.fault.Place.{Place}
use Rattle.gsl_base.specs.declared.stage.Stage.TheVariants.{Compute}
use Rattle.gsl_types.specs.declared.ty.Scalar.TheVariants.{Bool as Boolean, Int, Uint}
use Rattle.gsl_types.specs.declared.ty.Ty.{Ty}
use Rattle.gsl_types.specs.declared.ty.Ty.TheVariants as ty
use Rattle.gsl_values.specs.declared.value.Value.TheVariants.{Word, Many, outs-Word, outs-Many}
use Rattle.gsl_types.specs.declared.ty.Ty.TheVariants.{outs-Void, outs-One, outs-Vector, outs-Array, outs-Runtime, outs-Struct}
use Rattle.gsl_values.specs.declared.op.BinaryOp.TheVariants as op
use Rattle.gsl_values.specs.declared.function.Builtin.TheVariants as f
use Rattle.gsl_layout.specs.Layout.{Group, Leaf, Part, Runtime, End}
use Rattle.gsl_tree.specs.Laying.{IsLaid, layout_of, misplaced_of}
use Rattle.gsl_tree.specs.declared.unit.Block.{Block}
use Rattle.gsl_tree.specs.declared.unit.BlockKind.TheVariants.{Buffer}
use Rattle.gsl_tree.specs.declared.unit.BlockMember.{BlockMember}
use Rattle.gsl_tree.specs.declared.expr.Expr.{Expr}
use Rattle.gsl_tree.specs.declared.expr.LogicOp.TheVariants as logic
use Rattle.gsl_tree.specs.declared.expr.StepOp.TheVariants as step
use Rattle.gsl_tree.specs.declared.expr.ExprKind.TheVariants as kind
use Rattle.gsl_tree.specs.declared.expr.ExprKind.TheFolds.{fold-roll-Expr}
use Rattle.gsl_tree.specs.declared.stmt.Stmt.TheVariants as s
use Rattle.gsl_tree.specs.declared.folded.Folded.TheVariants.{Known, NotConstant, Free}
use Rattle.gsl_tree.specs.declared.folded.Consts.{Consts}
use Rattle.gsl_values.specs.Operators.{binary_answer, unary_word}
use Rattle.gsl_values.specs.Functions.{builtin_answer}
use Rattle.gsl_tree.specs.Values.{is_value_of, zero_value}
use Rattle.gsl_tree.specs.Operations.{binary_value, builtin_value, step_value}
use Rattle.gsl_tree.specs.Constants.{constant_of, gives}
use Rattle.gsl_tree.proofs.Folds.{folds}
use Rattle.gsl_tree.proofs.StmtFolds.{stmt_folds}
use Rattle.gsl_tree.proofs.Nodes.{expr_at, value_of_one, value_of_vector, value_of_array}
use Rattle.gsl_tree.specs.declared.expr.ExprKind.TheOpen.{ExprKind-F}
use Rattle.gsl_tree.specs.declared.expr.ExprKind.TheVariants.{outs-Local, outs-Const, outs-Binary}
use Rattle.gsl_types.proofs.Layers.{over_void, over_one, over_vector, over_array, over_runtime}
use Rattle.gsl_tree.proofs.Steps.{standings_step, gives_step}
use Rattle.gsl_tree.specs.Trees.{typed, ThroughoutAll}
use Rattle.gsl_tree.specs.Shapes.{built_shape}
use Rattle.gsl_tree.specs.Around.{Around}
use Rattle.gsl_tree.specs.Paths.{is_writable}
use Rattle.gsl_tree.specs.Expressions.{IsExpr, MayBeRead}
use Rattle.gsl_tree.specs.Statements.{expr_depth, stmt_depth}
use Rattle.gsl_tree.specs.Weights.{read_weight, stmt_weight, calls_in}

abbrev here : Place
here = record { unit = 0; line = 1 }

abbrev int : Ty
int = ty.One Int

abbrev uint : Ty
uint = ty.One Uint

abbrev boolean : Ty
boolean = ty.One Boolean

abbrev ivec2 : Ty
ivec2 = ty.Vector Int 2

abbrev literal : ℕ → Expr
literal n = typed here int (kind.Const (Word n))

abbrev truth : ℕ → Expr
truth n = typed here boolean (kind.Const (Word n))

abbrev local : ℕ → Expr
local n = typed here int (kind.Local n)

abbrev two : Expr → Expr → Expr
two a b = typed here ivec2 (kind.Build (a ∷ b ∷ []))

-- local 0 is known, 1 is not constant, 2 is left open
abbrev consts : Consts
consts = record { locals = Known (Word 7) ∷ NotConstant ∷ Free ∷ []; globals = [] }

ruleset computes = (folds, value_of_one, value_of_vector, value_of_array, stmt_folds, over_void, over_one, over_vector, over_array, over_runtime, fold-roll-Expr, standings_step, gives_step, outs-Word, outs-Many, outs-Void, outs-One, outs-Vector, outs-Array, outs-Runtime, outs-Struct)

-- ---- constants

abbrev quotient : Expr → Expr → Expr
quotient a b = typed here int (kind.Binary op.Div a b)

abbrev is_zero : Expr → Expr
is_zero a = typed here boolean (kind.Binary op.Equal a (literal 0))

abbrev both : Expr → Expr → Expr
both a b = typed here boolean (kind.Logic logic.And a b)

-- `7 / 2`, with the variable for 7
quotients : constant_of consts (quotient (local 0) (literal 2)) ≡ Known (Word 3)
unfolding constant_of binary_answer builtin_answer unary_word
quotients = simp computes refl

-- `1 / 0` is left open, and so is what has such a variable
left_open : constant_of consts (quotient (literal 1) (literal 0)) ≡ Free
unfolding constant_of binary_answer builtin_answer unary_word
left_open = simp computes refl

open_variable : constant_of consts (both (truth 0) (is_zero (local 2))) ≡ Free
unfolding constant_of binary_answer builtin_answer unary_word
open_variable = simp computes refl

-- what `&&` skips is not evaluated
skipped : constant_of consts (both (truth 0) (is_zero (quotient (literal 1) (literal 0)))) ≡ Known (Word 0)
unfolding constant_of binary_answer builtin_answer unary_word
skipped = simp computes refl

not_skipped : constant_of consts (both (truth 1) (is_zero (quotient (literal 1) (literal 0)))) ≡ Free
unfolding constant_of binary_answer builtin_answer unary_word
not_skipped = simp computes refl

-- one variable that is not constant, skipped or not, and the whole is not
not_constant : constant_of consts (both (truth 0) (is_zero (quotient (local 1) (literal 0)))) ≡ NotConstant
unfolding constant_of binary_answer builtin_answer unary_word
not_constant = simp computes refl

-- the operand of `.length()` is not looked at
unlooked : constant_of consts (typed here int (kind.Length (two (local 1) (typed here int (kind.Call 0 []))))) ≡ Known (Word 2)
unfolding constant_of binary_answer builtin_answer unary_word
unlooked = simp computes refl

-- `ivec2(5, 6)[1]`, and an index that strays
indexed : constant_of consts (typed here int (kind.Index (two (literal 5) (literal 6)) (literal 1))) ≡ Known (Word 6)
unfolding constant_of binary_answer builtin_answer unary_word
indexed = simp computes refl

astray : constant_of consts (typed here int (kind.Index (two (literal 5) (literal 6)) (literal 2))) ≡ NotConstant
unfolding constant_of binary_answer builtin_answer unary_word
astray = simp computes refl

-- `ivec2(8, 9) / ivec2(0, 3)` draws one choice, for the lowest component
drawn_once : gives consts (typed here ivec2 (kind.Binary op.Div (two (literal 8) (literal 9)) (two (literal 0) (literal 3)))) (77 ∷ 78 ∷ []) ≡ (Some (Many (Word 77 ∷ Word 3 ∷ [])), 78 ∷ [])
unfolding binary_answer builtin_answer unary_word
drawn_once = simp computes refl

-- a scalar serves each component, and a shift is said of its left operand
shifted : binary_value op.Shr true (Many (Word 0x8000_0000 ∷ Word 8 ∷ [])) (Word 2) [] ≡ (Many (Word 0xe000_0000 ∷ Word 2 ∷ []), [])
unfolding binary_answer builtin_answer unary_word
shifted = simp computes refl

-- `clamp(ivec2(-5, 9), 0, 7)`, and `any(bvec2(false, true))`
clamped : builtin_value f.Clamp true (Many (Word 0xffff_fffb ∷ Word 9 ∷ []) ∷ Word 0 ∷ Word 7 ∷ []) [] ≡ (Many (Word 0 ∷ Word 7 ∷ []), [])
unfolding binary_answer builtin_answer unary_word
clamped = simp computes refl

any_true : builtin_value f.Any false (Many (Word 0 ∷ Word 1 ∷ []) ∷ []) [] ≡ (Word 1, [])
unfolding binary_answer builtin_answer unary_word
any_true = simp computes refl

-- `bool(256)` is true, `ivec2(true)` fills, `uint(ivec2(3, 4))` takes the first
from_int : constant_of consts (typed here boolean (kind.Build (literal 256 ∷ []))) ≡ Known (Word 1)
unfolding constant_of binary_answer builtin_answer unary_word
from_int = simp computes refl

fills : constant_of consts (typed here ivec2 (kind.Build (truth 1 ∷ []))) ≡ Known (Many (Word 1 ∷ Word 1 ∷ []))
unfolding constant_of binary_answer builtin_answer unary_word
fills = simp computes refl

first_of_two : constant_of consts (typed here uint (kind.Build (two (literal 3) (literal 4) ∷ []))) ≡ Known (Word 3)
unfolding constant_of binary_answer builtin_answer unary_word
first_of_two = simp computes refl

-- `ivec2(3, 4).yx`
turned : constant_of consts (typed here ivec2 (kind.Swizzle (two (literal 3) (literal 4)) (record { words = 1 ∷ 0 ∷ 0 ∷ 0 ∷ []; count = 2 }))) ≡ Known (Many (Word 4 ∷ Word 3 ∷ []))
unfolding constant_of binary_answer builtin_answer unary_word
turned = simp computes refl

counted_down : step_value step.PostDown (Many (Word 0 ∷ Word 5 ∷ [])) ≡ Many (Word 0xffff_ffff ∷ Word 4 ∷ [])
unfolding binary_answer builtin_answer unary_word
counted_down = simp computes refl

values_of_types : is_value_of [] (ty.Array ivec2 1) (Many (Many (Word 1 ∷ Word 2 ∷ []) ∷ [])) ≡ true
values_of_types = simp computes refl

zeros : zero_value [] (ty.Array ivec2 2) ≡ Many (Many (Word 0 ∷ Word 0 ∷ []) ∷ Many (Word 0 ∷ Word 0 ∷ []) ∷ [])
zeros = simp computes refl

-- ---- types

abbrev around : Around
around = record { stage = Compute; structs = []; globals = []; blocks = []; interfaces = []; prototypes = []; sizes = []; params = []; locals = int ∷ ivec2 ∷ [] }

-- `min(ivec3, int)` is an ivec3, `min(int, ivec3)` is nothing
least : built_shape f.Min ((Int, 3) ∷ (Int, 1) ∷ []) ≡ Some (Int, 3)
least = refl

not_least : built_shape f.Min ((Int, 1) ∷ (Int, 3) ∷ []) ≡ None
not_least = refl

abbrev vector : Expr
vector = typed here ivec2 (kind.Local 1)

-- `v.xy` is an l-value, `v.xx` is none
may_be_written : is_writable around (typed here ivec2 (kind.Swizzle vector (record { words = 0 ∷ 1 ∷ 0 ∷ 0 ∷ []; count = 2 }))) ≡ true
may_be_written = simp computes refl

may_not_be_written : is_writable around (typed here ivec2 (kind.Swizzle vector (record { words = 0 ∷ 0 ∷ 0 ∷ 0 ∷ []; count = 2 }))) ≡ false
may_not_be_written = simp computes refl

readable : MayBeRead around (local 0)
readable = (simp computes refl, simp computes refl, simp computes refl)

literal_readable : MayBeRead around (literal 1)
literal_readable = (simp computes refl, simp computes refl, simp computes refl)

named : IsExpr around (local 0)
named = expr_at around here int (kind.Local 0) (ExprKind-F.Local 0) (outs-Local 0) refl tt tt ThroughoutAll.none

constant : IsExpr around (literal 1)
constant = expr_at around here int (kind.Const (Word 1)) (ExprKind-F.Const (Word 1)) (outs-Const (Word 1)) (simp computes refl, inl (Int, refl)) tt tt ThroughoutAll.none

-- `x / 1`
well_typed : IsExpr around (quotient (local 0) (literal 1))
well_typed =
    expr_at around here int (kind.Binary op.Div (local 0) (literal 1)) (ExprKind-F.Binary op.Div (local 0) (literal 1)) (outs-Binary op.Div (local 0) (literal 1))
    (inr ((Int, 1), (Int, 1), (Int, 1), simp computes refl, simp computes refl, refl, refl)) (readable, (literal_readable, tt)) tt
    (ThroughoutAll.more _ _ named (ThroughoutAll.more _ _ constant ThroughoutAll.none))

-- ---- layouts of blocks

abbrev member : Ty → Option ℕ → BlockMember
member t offset =
    record { name = 97 ∷ []; ty = t; readonly = false; writeonly = false; coherent = false; volatile = false; restrict = false; offset = offset; align = None; place = here }

abbrev storage : List BlockMember → ℕ → Block
storage members bytes =
    record { name = 98 ∷ []; instance = None; kind = Buffer; set = 0; binding = 0; std140 = false; members = members; need = bytes; place = here }

-- `int a; int b[];`: the array stands behind the word, and a buffer has at least that word
needed : layout_of [] (storage (member int None ∷ member (ty.Runtime int) None ∷ []) 4) ≡ Group (Part 0 (Leaf 1) (Part 4 (Runtime 4 (Leaf 1)) End)) 4
needed = simp computes refl

well_laid : IsLaid [] (storage (member int None ∷ member (ty.Runtime int) None ∷ []) 4)
well_laid = record { placed = refl; small = simp computes (omega arith); need = simp computes refl }

-- `ivec2 a; layout(offset = 4) int b;`: the offset is below the end of the member before
ill_placed : misplaced_of [] (storage (member ivec2 None ∷ member int (Some 4) ∷ []) 8) ≡ Some 1
ill_placed = simp computes refl

-- ---- depth and weight

nested : expr_depth (both (truth 1) (both (truth 1) (truth 0))) ≡ 2
nested = simp computes refl

three_parts : read_weight [] (quotient (local 0) (literal 1)) ≡ 3
three_parts = simp computes refl

conditional : stmt_weight [] (s.If (truth 1) (s.Group (s.Break ∷ s.Empty ∷ [])) None) ≡ 5
conditional = simp computes refl

deep : stmt_depth (s.If (truth 1) (s.Group (s.Break ∷ s.Empty ∷ [])) None) ≡ 1
deep = simp computes refl

called : calls_in (two (typed here int (kind.Call 3 (literal 1 ∷ []))) (typed here int (kind.Call 2 []))) ≡ 3 ∷ 2 ∷ []
called = simp computes refl
