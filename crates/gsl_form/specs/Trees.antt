-- Which lists of a typed unit or program are of the form, whatever the places in them are.
use Rattle.std.specs.Prelude.{◌≡◌, ℕ, false, List, [], ◌∷◌, ◌++◌, None, codes}
use Rattle.gsl_base.specs.declared.fault.Place.{Place}
use Rattle.gsl_types.specs.declared.ty.Scalar.TheVariants.{Int}
use Rattle.gsl_types.specs.declared.ty.Ty.{Ty}
use Rattle.gsl_types.specs.declared.ty.Ty.TheVariants as ty
use Rattle.gsl_values.specs.declared.op.BinaryOp.TheVariants.{Add}
use Rattle.gsl_values.specs.declared.value.Value.TheVariants.{Word}
use Rattle.gsl_tree.specs.declared.expr.Expr.{Expr}
use Rattle.gsl_tree.specs.declared.expr.ExprKind.{ExprKind}
use Rattle.gsl_tree.specs.declared.expr.ExprKind.TheVariants as kind
use Rattle.gsl_tree.specs.declared.stmt.Stmt.{Stmt}
use Rattle.gsl_tree.specs.declared.stmt.Stmt.TheVariants as stmt
use Rattle.gsl_tree.specs.declared.unit.BlockKind.TheVariants.{Buffer}
use Rattle.gsl_tree.specs.declared.unit.Block.{Block}
use Rattle.gsl_tree.specs.declared.unit.BlockMember.{BlockMember}
use Rattle.gsl_tree.specs.declared.unit.Prototype.{Prototype}
use Rattle.gsl_tree.specs.declared.unit.Function.{Function}
use Rattle.gsl_tree.specs.Trees.{typed}
use Rattle.gsl_tree.specs.WellTyped.{Lists}
use Rattle.gsl_form.specs.declared.program.Term.{Term}
use Rattle.gsl_form.specs.declared.program.Term.TheVariants.{Member, Literal}
use Rattle.gsl_form.specs.declared.program.Statement.{Statement}
use Rattle.gsl_form.specs.declared.program.Program.{Program}
use Rattle.gsl_form.specs.Form.{Name, IsProgram}

abbrev pub int : Ty
int = ty.One Int

-- an expression of type `int` at a place
abbrev pub int_at : Place → ExprKind → Expr
int_at p k = typed p int k

-- a member of the block by its number
abbrev pub member_at : Place → ℕ → Expr
member_at p i = int_at p (kind.BlockMember 0 i)

-- a term: a member of the block, or a literal
pub data IsTermOf : Expr → Term → Type 0 where
  member : (p : Place) (i : ℕ) → IsTermOf (member_at p i) (Member i)
  literal : (p : Place) (n : ℕ) → IsTermOf (int_at p (kind.Const (Word n))) (Literal n)

-- terms with `+` between them, from left to right
pub data IsSumOf : Expr → List Term → Type 0 where
  one : {a : Expr} {t : Term} → IsTermOf a t → IsSumOf a (t ∷ [])
  more : {a b : Expr} {ts : List Term} {t : Term} (p : Place) → IsSumOf a ts → IsTermOf b t → IsSumOf (int_at p (kind.Binary Add a b)) (ts ++ t ∷ [])

-- `NAME = TERM + .. + TERM;`
pub data IsStatementOf : Stmt → Statement → Type 0 where
  assigns : {a : Expr} {ts : List Term} (p q : Place) (i : ℕ) → IsSumOf a ts
      → IsStatementOf (stmt.Eval (int_at p (kind.Assign (member_at q i) a))) (record { target = i; terms = ts })

-- `int NAME;`
pub data IsMemberOf : BlockMember → Name → Type 0 where
  named : (p : Place) (name : Name)
      → IsMemberOf (record { name = name; ty = int; readonly = false; writeonly = false; coherent = false; volatile = false; restrict = false; offset = None; align = None; place = p }) name

-- as many trees as data, each of its own
pub data Each {A B : Type 0} (Of : A → B → Type 0) : List A → List B → Type 0 where
  done : Each Of [] []
  next : {a : A} {b : B} {xs : List A} {ys : List B} → Of a b → Each Of xs ys → Each Of (a ∷ xs) (b ∷ ys)

-- `layout(set = 0, binding = 0, std430) buffer B { MEMBER .. };` with the bytes that its buffer must have
abbrev pub block_at : Place → ℕ → List BlockMember → Block
block_at p need members = record { name = codes "B"; instance = None; kind = Buffer; set = 0; binding = 0; std140 = false; members = members; need = need; place = p }

pub data AreBlocksOf : List Block → List Name → Type 0 where
  block : {members : List BlockMember} {names : List Name} (p : Place) (need : ℕ) → Each IsMemberOf members names → AreBlocksOf (block_at p need members ∷ []) names

-- `void main()`
abbrev pub head_at : Place → Prototype
head_at p = record { name = codes "main"; result = ty.Void; params = []; place = p }

pub data AreHeads : List Prototype → Type 0 where
  main : (p : Place) → AreHeads (head_at p ∷ [])

-- `{ STATEMENT .. }`, the body of the first head
abbrev pub body_at : Place → List Stmt → Function
body_at p statements = record { prototype = 0; locals = []; body = statements; place = p }

pub data AreFunctionsOf : List Function → List Statement → Type 0 where
  main : {trees : List Stmt} {statements : List Statement} (p : Place) → Each IsStatementOf trees statements → AreFunctionsOf (body_at p trees ∷ []) statements

-- The lists spell the program: a local size of 1, one block at set 0 and binding 0, the function `main`, and nothing else. The stage is not asked.
pub record Spells (lists : Lists) (p : Program) : Type 0 where
  pub fits : IsProgram p
  pub structs : lists.structs ≡ []
  pub globals : lists.globals ≡ []
  pub interfaces : lists.interfaces ≡ []
  pub sizes : lists.sizes ≡ (1 ∷ 1 ∷ 1 ∷ []) ∷ []
  pub blocks : AreBlocksOf lists.blocks p.members
  pub prototypes : AreHeads lists.prototypes
  pub functions : AreFunctionsOf lists.functions p.statements
