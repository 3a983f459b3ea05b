-- Reading the program of typed lists. What is of the form is said in `Trees`; this is how the code finds it.
use Rattle.std.specs.Prelude.{ℕ, Bool, true, false, not, ◌==◌, ◌&&◌, ◌||◌, nat_le, nat_lt, ◌^◌, List, [], ◌∷◌, ◌++◌, length, Option, Some, None, if◌then◌else◌, codes}
use Rattle.std.specs.Option.{option_map}
use Rattle.std.specs.Str.{bytes_eq}
use Rattle.gsl_types.specs.declared.ty.Scalar.TheVariants.{Int}
use Rattle.gsl_types.specs.declared.ty.Ty.{Ty}
use Rattle.gsl_types.specs.declared.ty.Ty.TheOpen.{Ty-F}
use Rattle.gsl_types.specs.declared.ty.Ty.TheViews.{out-Ty}
use Rattle.gsl_values.specs.declared.op.BinaryOp.{BinaryOp}
use Rattle.gsl_values.specs.declared.op.BinaryOp.TheVariants.{Add}
use Rattle.gsl_values.specs.declared.value.Value.{Value}
use Rattle.gsl_values.specs.declared.value.Value.TheOpen.{Value-F}
use Rattle.gsl_values.specs.declared.value.Value.TheViews.{out-Value}
use Rattle.gsl_tree.specs.declared.expr.Expr.{Expr, out-Expr}
use Rattle.gsl_tree.specs.declared.expr.ExprKind.{ExprKind, out-ExprKind}
use Rattle.gsl_tree.specs.declared.expr.ExprKind.TheOpen.{ExprKind-F, Expr-F}
use Rattle.gsl_tree.specs.declared.expr.ExprKind.TheFolds.{fold-Expr, fold-ExprKind}
use Rattle.gsl_tree.specs.declared.stmt.Stmt.{Stmt, out-Stmt}
use Rattle.gsl_tree.specs.declared.stmt.Stmt.TheOpen.{Stmt-F}
use Rattle.gsl_tree.specs.declared.stmt.Arm.{Arm}
use Rattle.gsl_tree.specs.declared.unit.Block.{Block}
use Rattle.gsl_tree.specs.declared.unit.BlockMember.{BlockMember}
use Rattle.gsl_tree.specs.declared.unit.Prototype.{Prototype}
use Rattle.gsl_tree.specs.declared.unit.Function.{Function}
use Rattle.gsl_tree.specs.Around.{is_buffer}
use Rattle.gsl_tree.specs.WellTyped.{Lists}
use Rattle.gsl_form.specs.declared.program.Term.{Term}
use Rattle.gsl_form.specs.declared.program.Term.TheVariants.{Member, Literal}
use Rattle.gsl_form.specs.declared.program.Statement.{Statement}
use Rattle.gsl_form.specs.declared.program.Program.{Program}
use Rattle.gsl_form.specs.Form.{Name, is_name, differ}

infixl 10 ◌>>=◌
abbrev pub ◌>>=◌ : {A B : Type 0} → Option A → (A → Option B) → Option B
(Some x) >>= f = f x
None >>= f = None

abbrev pub is_empty : {A : Type 0} → List A → Bool
is_empty xs = length xs == 0

abbrev pub is_none : {A : Type 0} → Option A → Bool
is_none None = true
is_none (Some a) = false

-- ---- types

abbrev pub int_layer : Ty-F Ty → Bool
int_layer (Ty-F.One Int) = true
int_layer _ = false

unfoldable pub is_int : Ty → Bool
is_int t = int_layer (out-Ty t)

abbrev pub void_layer : Ty-F Ty → Bool
void_layer Ty-F.Void = true
void_layer _ = false

unfoldable pub is_void : Ty → Bool
is_void t = void_layer (out-Ty t)

-- ---- sums

-- what an expression is: a term, a sum of terms, or neither
pub record Parts : Type 0 where
  pub term : Option Term
  pub sum : Option (List Term)

abbrev pub neither : Parts
neither = record { term = None; sum = None }

abbrev pub alone : Option Term → Parts
alone found = record { term = found; sum = option_map (λ t. t ∷ []) found }

-- a term behind others
abbrev pub behind : Option Term → List Term → Option (List Term)
behind found terms = option_map (λ t. terms ++ t ∷ []) found

abbrev pub with_term : Option (List Term) → Option Term → Option (List Term)
with_term terms found = terms >>= behind found

abbrev pub is_add : BinaryOp → Bool
is_add Add = true
is_add _ = false

abbrev pub added : BinaryOp → Parts → Parts → Parts
added op a b = record { term = None; sum = if is_add op then with_term a.sum b.term else None }

-- the member of a number of the first block, which has so many
abbrev pub member : ℕ → ℕ → ℕ → Option Term
member count block number = if (block == 0) && nat_lt number count then Some (Member number) else None

abbrev pub word_layer : Value-F Value → Option Term
word_layer (Value-F.Word n) = if nat_lt n (2 ^ 32) then Some (Literal n) else None
word_layer (Value-F.Many vs) = None

unfoldable pub literal : Value → Option Term
literal v = word_layer (out-Value v)

abbrev pub by_kind : ℕ → ExprKind-F Parts Parts → Parts
by_kind count (ExprKind-F.BlockMember block number) = alone (member count block number)
by_kind count (ExprKind-F.Const v) = alone (literal v)
by_kind count (ExprKind-F.Binary op a b) = added op a b
by_kind count _ = neither

-- what is not of type `int` is neither
abbrev pub where_int : Ty → Parts → Parts
where_int t parts = if is_int t then parts else neither

abbrev pub by_type : Expr-F Parts Parts → Parts
by_type e = where_int e.ty e.kind

unfoldable pub parts_of : ℕ → Expr → Parts
parts_of count = fold-Expr Parts Parts (by_kind count) by_type

unfoldable pub kind_parts : ℕ → ExprKind → Parts
kind_parts count = fold-ExprKind Parts Parts (by_kind count) by_type

-- ---- statements

-- at most 64 terms that are assigned
abbrev pub assigned : ℕ → List Term → Option Statement
assigned target terms = if nat_le (length terms) 64 then Some (record { target = target; terms = terms }) else None

abbrev pub number_of : Term → Option ℕ
number_of (Member number) = Some number
number_of (Literal n) = None

-- the member that an expression is
abbrev pub target_of : ℕ → Expr → Option ℕ
target_of count e = (parts_of count e).term >>= number_of

abbrev pub assign_by : ℕ → Expr → Expr → Option Statement
assign_by count a b = target_of count a >>= λ target. (parts_of count b).sum >>= assigned target

abbrev pub assign_layer : ℕ → ExprKind-F ExprKind Expr → Option Statement
assign_layer count (ExprKind-F.Assign a b) = assign_by count a b
assign_layer count _ = None

unfoldable pub assign_kind : ℕ → ExprKind → Option Statement
assign_kind count k = assign_layer count (out-ExprKind k)

unfoldable pub assign_of : ℕ → Expr → Option Statement
assign_of count e = if is_int (out-Expr e).ty then assign_kind count (out-Expr e).kind else None

abbrev pub statement_layer : ℕ → Stmt-F Stmt Arm → Option Statement
statement_layer count (Stmt-F.Eval e) = assign_of count e
statement_layer count _ = None

unfoldable pub statement_of : ℕ → Stmt → Option Statement
statement_of count s = statement_layer count (out-Stmt s)

-- what each of a list gives, if each gives something
abbrev pub each : {A B : Type 0} → (A → Option B) → List A → Option (List B)
each of [] = Some []
each of (a ∷ rest) = of a >>= λ b. option_map (λ bs. b ∷ bs) (each of rest)

-- ---- the block

-- whether a member has no qualifier
abbrev pub is_bare : BlockMember → Bool
is_bare m = not (m.readonly || m.writeonly || m.coherent || m.volatile || m.restrict) && is_none m.offset && is_none m.align

abbrev pub member_of : BlockMember → Option Name
member_of m = if is_bare m && is_int m.ty && is_name m.name then Some m.name else None

-- one to 64 names that differ
abbrev pub limited : List Name → Option (List Name)
limited names = if nat_le 1 (length names) && nat_le (length names) 64 && differ names then Some names else None

-- whether a block is a buffer block `B` without instance at set 0 and binding 0, laid out by std430
abbrev pub is_b : Block → Bool
is_b b = bytes_eq b.name (codes "B") && is_none b.instance && is_buffer b.kind && (b.set == 0) && (b.binding == 0) && not b.std140

-- the members of the block
abbrev pub block_of : Block → Option (List Name)
block_of b = if is_b b then (each member_of b.members >>= limited) else None

abbrev pub blocks_of : List Block → Option (List Name)
blocks_of (b ∷ []) = block_of b
blocks_of _ = None

-- ---- the function

abbrev pub is_head : Prototype → Bool
is_head p = bytes_eq p.name (codes "main") && is_void p.result && is_empty p.params

abbrev pub are_heads : List Prototype → Bool
are_heads (p ∷ []) = is_head p
are_heads _ = false

-- at most 256 statements
abbrev pub few : List Statement → Option (List Statement)
few statements = if nat_le (length statements) 256 then Some statements else None

-- the statements of `main`
abbrev pub function_of : ℕ → Function → Option (List Statement)
function_of count f = if (f.prototype == 0) && is_empty f.locals then (each (statement_of count) f.body >>= few) else None

abbrev pub functions_of : ℕ → List Function → Option (List Statement)
functions_of count (f ∷ []) = function_of count f
functions_of count _ = None

-- ---- all together

abbrev pub is_one : List ℕ → Bool
is_one (x ∷ y ∷ z ∷ []) = (x == 1) && (y == 1) && (z == 1)
is_one _ = false

abbrev pub are_one : List (List ℕ) → Bool
are_one (size ∷ []) = is_one size
are_one _ = false

-- whether there is one size, and it is 1 in each direction
unfoldable pub are_sizes : List (List ℕ) → Bool
are_sizes sizes = are_one sizes

abbrev pub with_functions : List Function → List Name → Option Program
with_functions functions names = option_map (λ statements. record { members = names; statements = statements }) (functions_of (length names) functions)

-- the program of a block and a function
abbrev pub program_by : List Block → List Prototype → List Function → Option Program
program_by blocks prototypes functions = if are_heads prototypes then (blocks_of blocks >>= with_functions functions) else None

-- whether the local size is 1 and there are no structs, globals, inputs and outputs
abbrev pub are_plain : Lists → Bool
are_plain lists = are_sizes lists.sizes && is_empty lists.structs && is_empty lists.globals && is_empty lists.interfaces

-- the program of the lists, if they are of the form
abbrev pub program_of : Lists → Option Program
program_of lists = if are_plain lists then program_by lists.blocks lists.prototypes lists.functions else None
