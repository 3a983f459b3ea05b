-- Constant expressions (GLSL 4.50, 4.3.3): which there are, and their values.
use Rattle.std.specs.Prelude.{ℕ, Bool, false, ◌==◌, List, [], ◌∷◌, slice_index_or, Option, Some, None, if◌then◌else◌}
use Rattle.gsl_types.specs.declared.ty.Ty.{Ty}
use Rattle.gsl_values.specs.declared.value.Value.{Value}
use Rattle.gsl_values.specs.declared.value.Value.TheVariants.{Word}
use Rattle.gsl_tree.specs.declared.expr.Expr.{Expr, out-Expr}
use Rattle.gsl_tree.specs.declared.expr.ExprKind.{ExprKind}
use Rattle.gsl_tree.specs.declared.expr.ExprKind.TheOpen.{ExprKind-F, Expr-F}
use Rattle.gsl_tree.specs.declared.expr.ExprKind.TheFolds.{fold-Expr, fold-ExprKind}
use Rattle.gsl_tree.specs.declared.folded.Folded.{Folded}
use Rattle.gsl_tree.specs.declared.folded.Folded.TheVariants.{Known, NotConstant, Free}
use Rattle.gsl_tree.specs.declared.folded.Consts.{Consts}
use Rattle.gsl_tree.specs.declared.folded.Standing.{Standing}
use Rattle.gsl_tree.specs.declared.folded.Standing.TheVariants.{Settled, Open, Never}
use Rattle.gsl_tree.specs.Values.{word_in}
use Rattle.gsl_tree.specs.Operations.{unary_value, binary_value, decides, logic_word, build_value, index_value, member_value, swizzle_value, length_of, has_fixed_length, is_signed, builtin_value}
use Rattle.gsl_tree.specs.Drawing.{Drawing, given, strays, ◌>>=◌, drawn, checked}

-- what is known of a variable, by its number
abbrev pub known_at : List Folded → ℕ → Folded
known_at foldeds number = slice_index_or foldeds number NotConstant

-- ---- the forms of constant expressions, and what their variables are

-- the standing of what has two parts: the worse one
abbrev pub worse : Standing → Standing → Standing
worse Settled b = b
worse Open Settled = Open
worse Open Open = Open
worse Open Never = Never
worse Never b = Never

abbrev pub standing_of : Folded → Standing
standing_of (Known v) = Settled
standing_of NotConstant = Never
standing_of Free = Open

-- a part: its type and its standing
abbrev pub Stood : Type 0
Stood = Ty × Standing

abbrev pub worst : List Stood → Standing
worst [] = Settled
worst (part ∷ parts) = worse part.1 (worst parts)

-- Of the operand of `.length()` only the type is looked at.
abbrev pub standing_by : Consts → ExprKind-F Standing Stood → Standing
standing_by consts (ExprKind-F.Const v) = Settled
standing_by consts (ExprKind-F.Local number) = standing_of (known_at consts.locals number)
standing_by consts (ExprKind-F.Global number) = standing_of (known_at consts.globals number)
standing_by consts (ExprKind-F.Member a number) = a.1
standing_by consts (ExprKind-F.Index a i) = worse a.1 i.1
standing_by consts (ExprKind-F.Swizzle a lanes) = a.1
standing_by consts (ExprKind-F.Length a) = if has_fixed_length a.0 then Settled else Never
standing_by consts (ExprKind-F.Unary op a) = a.1
standing_by consts (ExprKind-F.Binary op a b) = worse a.1 b.1
standing_by consts (ExprKind-F.Logic op a b) = worse a.1 b.1
standing_by consts (ExprKind-F.Choose test a b) = worse test.1 (worse a.1 b.1)
standing_by consts (ExprKind-F.Built which args) = worst args
standing_by consts (ExprKind-F.Build args) = worst args
standing_by consts (ExprKind-F.Convert a) = a.1
standing_by consts _ = Never

abbrev pub stood : Expr-F Standing Stood → Stood
stood e = (e.ty, e.kind)

-- the standing of an expression
unfoldable pub standing : Consts → Expr → Standing
standing consts e = (fold-Expr Standing Stood (standing_by consts) stood e).1

-- the standing of what is of a kind
unfoldable pub kind_standing : Consts → ExprKind → Standing
kind_standing consts kind = fold-ExprKind Standing Stood (standing_by consts) stood kind

-- ---- what a constant expression gives

-- a part: its type, and what it gives
abbrev pub Part : Type 0
Part = Ty × Drawing Value

abbrev pub folded_value : Folded → Drawing Value
folded_value (Known v) = given v
folded_value NotConstant = strays
folded_value Free = strays

-- the parts in their order
abbrev pub in_order : List Part → Drawing (List Value)
in_order [] = given []
in_order (part ∷ parts) = part.1 >>= (λ v. in_order parts >>= (λ vs. given (v ∷ vs)))

-- whether the first of the parts is an `int` or a vector of them
abbrev pub is_signed_first : List Part → Bool
is_signed_first [] = false
is_signed_first (part ∷ parts) = is_signed part.0

-- What an expression of a type gives that needs no state, by its kind. Operands go from left to right, and an operand that does
-- not count is not evaluated.
abbrev pub gives_by : Consts → ExprKind-F (Ty → Drawing Value) Part → Ty → Drawing Value
gives_by consts (ExprKind-F.Const v) ty = given v
gives_by consts (ExprKind-F.Local number) ty = folded_value (known_at consts.locals number)
gives_by consts (ExprKind-F.Global number) ty = folded_value (known_at consts.globals number)
gives_by consts (ExprKind-F.Member a number) ty = a.1 >>= (λ v. given (member_value v number))
gives_by consts (ExprKind-F.Index a i) ty = a.1 >>= (λ v. i.1 >>= (λ at_index. checked (index_value v (word_in at_index))))
gives_by consts (ExprKind-F.Swizzle a lanes) ty = a.1 >>= (λ v. given (swizzle_value v lanes))
gives_by consts (ExprKind-F.Length a) ty = given (Word (length_of a.0))
gives_by consts (ExprKind-F.Unary op a) ty = a.1 >>= (λ v. given (unary_value op v))
gives_by consts (ExprKind-F.Binary op a b) ty = a.1 >>= (λ x. b.1 >>= (λ y. drawn (binary_value op (is_signed a.0) x y)))
gives_by consts (ExprKind-F.Logic op a b) ty = a.1 >>= (λ x. if decides op (word_in x) then given x else b.1 >>= (λ y. given (Word (logic_word op (word_in x) (word_in y)))))
gives_by consts (ExprKind-F.Choose test a b) ty = test.1 >>= (λ t. if word_in t == 0 then b.1 else a.1)
gives_by consts (ExprKind-F.Built which args) ty = in_order args >>= (λ vs. drawn (builtin_value which (is_signed_first args) vs))
gives_by consts (ExprKind-F.Build args) ty = in_order args >>= (λ vs. given (build_value ty vs))
gives_by consts (ExprKind-F.Convert a) ty = a.1
gives_by consts _ ty = strays

abbrev pub part_of : Expr-F (Ty → Drawing Value) Part → Part
part_of e = (e.ty, e.kind e.ty)

-- what an expression gives that needs no state
unfoldable pub gives : Consts → Expr → Drawing Value
gives consts e = (fold-Expr (Ty → Drawing Value) Part (gives_by consts) part_of e).1

-- what is of a kind gives, where it has a type
unfoldable pub kind_gives : Consts → ExprKind → Ty → Drawing Value
kind_gives consts kind = fold-ExprKind (Ty → Drawing Value) Part (gives_by consts) part_of kind

-- ---- what is known of an expression

-- One choice was given. Where it was drawn, the language leaves the value open.
abbrev pub known_by : Option Value × List ℕ → Folded
known_by (found, []) = Free
known_by (Some v, choice ∷ choices) = Known v
known_by (None, choice ∷ choices) = NotConstant

abbrev pub known_as : Standing → Option Value × List ℕ → Folded
known_as Never given = NotConstant
known_as Open given = Free
known_as Settled given = known_by given

-- Whether an expression is constant: of the forms of constant expressions with known variables alone, and its value drew nothing
-- and did not stray. Only what the language leaves open stands against it where it is of these forms, no variable in it is not
-- constant, and a variable is left open or a choice was drawn.
unfoldable pub constant_of : Consts → Expr → Folded
constant_of consts e = known_as (standing consts e) (gives consts e (0 ∷ []))

-- ---- several expressions

-- the standing of several expressions
abbrev pub standings : Consts → List Expr → Standing
standings consts [] = Settled
standings consts (e ∷ es) = worse (standing consts e) (standings consts es)

-- what several expressions give in their order
abbrev pub gives_all : Consts → List Expr → Drawing (List Value)
gives_all consts [] = given []
gives_all consts (e ∷ es) = gives consts e >>= (λ v. gives_all consts es >>= (λ vs. given (v ∷ vs)))

abbrev pub signed_first : List Expr → Bool
signed_first [] = false
signed_first (e ∷ es) = is_signed (out-Expr e).ty
