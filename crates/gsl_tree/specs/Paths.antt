-- Expressions that stand for a place in a variable, and how they are used.
use Rattle.std.specs.Prelude.{ℕ, Bool, true, false, not, ◌&&◌, ◌||◌, nat_eq, nat_le, List, [], ◌∷◌, slice_get, Option, Some, None}
use Rattle.std.specs.List.{list_any}
use Rattle.gsl_types.specs.declared.ty.Direction.{Direction}
use Rattle.gsl_types.specs.declared.ty.Direction.TheVariants.{In, Out, InOut}
use Rattle.gsl_types.specs.declared.ty.Ty.{Ty}
use Rattle.gsl_types.specs.declared.ty.Ty.TheOpen.{Ty-F}
use Rattle.gsl_types.specs.declared.ty.Ty.TheViews.{out-Ty}
use Rattle.gsl_types.specs.Leaves.{told_leaves}
use Rattle.gsl_values.specs.Vectors.{components as picked}
use Rattle.gsl_tree.specs.declared.expr.Expr.{Expr}
use Rattle.gsl_tree.specs.declared.expr.ExprKind.{ExprKind}
use Rattle.gsl_tree.specs.declared.expr.ExprKind.TheOpen.{ExprKind-F, Expr-F}
use Rattle.gsl_tree.specs.declared.expr.ExprKind.TheFolds.{fold-Expr}
use Rattle.gsl_tree.specs.declared.unit.GlobalVar.{GlobalVar}
use Rattle.gsl_tree.specs.declared.unit.Interface.{Interface}
use Rattle.gsl_tree.specs.declared.unit.Prototype.{Prototype}
use Rattle.gsl_tree.specs.Trees.{type_of, parts_of}
use Rattle.gsl_tree.specs.Around.{Around, block_member, may_write_member, is_writeonly}

abbrev pub kind_in : {A : Type 0} → Expr-F A A → A
kind_in e = e.kind

-- a test of expressions by their kind and what it says of their parts
abbrev pub test_of : (ExprKind-F Bool Bool → Bool) → Expr → Bool
test_of by_kind = fold-Expr Bool Bool by_kind kind_in

-- ---- what a path leads into

-- whether an expression is a member of a block or a part of one
abbrev pub in_block_by : ExprKind-F Bool Bool → Bool
in_block_by (ExprKind-F.BlockMember block number) = true
in_block_by (ExprKind-F.Member a number) = a
in_block_by (ExprKind-F.Index a i) = a
in_block_by (ExprKind-F.Swizzle a lanes) = a
in_block_by _ = false

abbrev pub in_block : Expr → Bool
in_block = test_of in_block_by

-- whether an expression is a `writeonly` member or a part of one
abbrev pub unreadable_by : Around → ExprKind-F Bool Bool → Bool
unreadable_by around (ExprKind-F.BlockMember block number) = is_writeonly (block_member around block number)
unreadable_by around (ExprKind-F.Member a number) = a
unreadable_by around (ExprKind-F.Index a i) = a
unreadable_by around (ExprKind-F.Swizzle a lanes) = a
unreadable_by around _ = false

abbrev pub is_unreadable : Around → Expr → Bool
is_unreadable around = test_of (unreadable_by around)

abbrev pub repeats : List ℕ → Bool
repeats [] = false
repeats (p ∷ ps) = list_any (λ q. nat_eq p q) ps || repeats ps

abbrev pub is_variable : Option GlobalVar → Bool
is_variable None = false
is_variable (Some g) = not g.constant

abbrev pub is_output : Option Interface → Bool
is_output None = false
is_output (Some i) = i.output

-- Whether an expression is an l-value (GLSL 4.50, 5.8): a variable that may be written, or a part of one; a swizzle of it only where no
-- component is picked twice. Of a local variable the tree does not show whether it is `const`.
abbrev pub writable_by : Around → ExprKind-F Bool Bool → Bool
writable_by around (ExprKind-F.Local number) = true
writable_by around (ExprKind-F.Param number) = true
writable_by around (ExprKind-F.Global number) = is_variable (slice_get around.globals number)
writable_by around (ExprKind-F.BlockMember block number) = may_write_member around block number
writable_by around (ExprKind-F.Interface number) = is_output (slice_get around.interfaces number)
writable_by around (ExprKind-F.Member a number) = a
writable_by around (ExprKind-F.Index a i) = a
writable_by around (ExprKind-F.Swizzle a lanes) = a && not (repeats (picked lanes))
writable_by around _ = false

abbrev pub is_writable : Around → Expr → Bool
is_writable around = test_of (writable_by around)

-- ---- which parts of an expression are read, and which written

abbrev pub params_at : Option Prototype → List (Direction × Ty)
params_at None = []
params_at (Some p) = p.params

abbrev pub if_in : Direction → Expr → List Expr → List Expr
if_in In e rest = e ∷ rest
if_in Out e rest = rest
if_in InOut e rest = e ∷ rest

-- the arguments whose values go in
abbrev pub going_in : List (Direction × Ty) → List Expr → List Expr
going_in (param ∷ params) (arg ∷ args) = if_in param.0 arg (going_in params args)
going_in _ args = args

abbrev pub if_out : Direction → Expr → List Expr → List Expr
if_out In e rest = rest
if_out Out e rest = e ∷ rest
if_out InOut e rest = e ∷ rest

-- the arguments to which values come back
abbrev pub coming_out : List (Direction × Ty) → List Expr → List Expr
coming_out (param ∷ params) (arg ∷ args) = if_out param.0 arg (coming_out params args)
coming_out _ args = []

-- the parts whose values are taken as they are; the base of a longer path is not, nor is the operand of `.length()`
abbrev pub read_parts : Around → ExprKind-F ExprKind Expr → List Expr
read_parts around (ExprKind-F.Member a number) = []
read_parts around (ExprKind-F.Index a i) = i ∷ []
read_parts around (ExprKind-F.Swizzle a lanes) = []
read_parts around (ExprKind-F.Length a) = []
read_parts around (ExprKind-F.Assign a b) = b ∷ []
read_parts around (ExprKind-F.Call number args) = going_in (params_at (slice_get around.prototypes number)) args
read_parts around form = parts_of form

-- the parts to which a value is stored
abbrev pub written_parts : Around → ExprKind-F ExprKind Expr → List Expr
written_parts around (ExprKind-F.Assign a b) = a ∷ []
written_parts around (ExprKind-F.Update op a b) = a ∷ []
written_parts around (ExprKind-F.Step op a) = a ∷ []
written_parts around (ExprKind-F.Call number args) = coming_out (params_at (slice_get around.prototypes number)) args
written_parts around _ = []

-- ---- whole copies

abbrev pub is_aggregate_kind : Ty-F Ty → Bool
is_aggregate_kind (Ty-F.Array element n) = true
is_aggregate_kind (Ty-F.Struct number) = true
is_aggregate_kind _ = false

-- whether a type is an array or a struct
abbrev pub is_aggregate : Ty → Bool
is_aggregate ty = is_aggregate_kind (out-Ty ty)

-- whether reading or writing an expression copies an array or a struct of a block
abbrev pub is_whole_copy : Expr → Bool
is_whole_copy e = in_block e && is_aggregate (type_of e)

-- a whole copy or comparison has at most so many leaves
abbrev pub most_copied : ℕ
most_copied = 1024

abbrev pub is_small : Around → Ty → Bool
is_small around ty = nat_le (told_leaves around.structs ty) most_copied

-- the parts that are read or written, each once
abbrev pub used_parts : {K E : Type 0} → ExprKind-F K E → List E
used_parts (ExprKind-F.Member a number) = []
used_parts (ExprKind-F.Index a i) = i ∷ []
used_parts (ExprKind-F.Swizzle a lanes) = []
used_parts (ExprKind-F.Length a) = []
used_parts form = parts_of form
