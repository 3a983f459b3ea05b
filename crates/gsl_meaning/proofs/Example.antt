-- Shaders with what they do, so that a wrong definition is seen.
use Rattle.std.proofs.Common.{◌≡◌, refl, ℕ, Bool, true, false, ◌/◌, ◌%◌, List, [], ◌∷◌, ◌++◌, Some, None}
use Rattle.std.specs.Prelude.{flat_map}
use Rattle.gsl_values.specs.Operators.{binary_answer}
use Rattle.gsl_values.specs.declared.op.BinaryOp.{BinaryOp}
use Rattle.gsl_base.specs.declared.fault.Place.{Place}
use Rattle.gsl_base.specs.declared.input.Input.{Input}
use Rattle.gsl_base.specs.declared.stage.Stage.TheVariants.{Compute}
use Rattle.gsl_types.specs.declared.ty.Direction.TheVariants.{InOut}
use Rattle.gsl_types.specs.declared.ty.Scalar.TheVariants.{Bool as Boolean, Int}
use Rattle.gsl_types.specs.declared.ty.Ty.{Ty}
use Rattle.gsl_types.specs.declared.ty.Ty.TheVariants as ty
use Rattle.gsl_types.specs.declared.ty.Ty.TheVariants.{outs-Void, outs-One, outs-Vector, outs-Array, outs-Runtime, outs-Struct}
use Rattle.gsl_types.proofs.Layers.{over_void, over_one, over_vector, over_array, over_runtime}
use Rattle.gsl_values.specs.declared.op.BinaryOp.TheVariants as op
use Rattle.gsl_values.specs.declared.value.Value.TheVariants.{Word, outs-Word, outs-Many}
use Rattle.gsl_tree.specs.declared.expr.Expr.{Expr}
use Rattle.gsl_tree.specs.declared.expr.ExprKind.TheVariants as kind
use Rattle.gsl_tree.specs.declared.expr.StepOp.TheVariants as step
use Rattle.gsl_tree.specs.declared.program.Program.{Program}
use Rattle.gsl_tree.specs.declared.stmt.Arm.{Arm, roll-Arm}
use Rattle.gsl_tree.specs.declared.stmt.Stmt.{Stmt}
use Rattle.gsl_tree.specs.declared.stmt.Stmt.TheVariants as s
use Rattle.gsl_tree.specs.declared.unit.Block.{Block}
use Rattle.gsl_tree.specs.declared.unit.BlockKind.TheVariants.{Buffer as StorageBuffer}
use Rattle.gsl_tree.specs.declared.unit.BlockMember.{BlockMember}
use Rattle.gsl_tree.specs.declared.unit.Function.{Function}
use Rattle.gsl_tree.specs.declared.unit.Prototype.{Prototype}
use Rattle.gsl_tree.specs.Trees.{typed}
use Rattle.gsl_words.specs.Words.{put_word, word_at}
use Rattle.gsl_meaning.specs.Shader.{Outcome, Ended, Strayed, Going, shader}
use Rattle.gsl_meaning.proofs.Steps.{value_step}
use Rattle.gsl_meaning.proofs.StmtSteps.{runs_step}
use Rattle.gsl_meaning.proofs.Told.{told_step}

abbrev here : Place
here = record { unit = 0; line = 1 }

abbrev int : Ty
int = ty.One Int

abbrev row : Ty
row = ty.Array int 3

abbrev literal : ℕ → Expr
literal n = typed here int (kind.Const (Word n))

abbrev plain : Ty → BlockMember
plain t =
    record { name = 97 ∷ []; ty = t; readonly = false; writeonly = false; coherent = false; volatile = false; restrict = false; offset = None; align = None; place = here }

abbrev storage : List BlockMember → Block
storage members =
    record { name = 98 ∷ []; instance = None; kind = StorageBuffer; set = 0; binding = 0; std140 = false; members = members; need = 0; place = here }

abbrev main : List Ty → List Stmt → Function
main locals body = record { prototype = 0; locals = locals; body = body; place = here }

abbrev head : Prototype
head = record { name = 109 ∷ 97 ∷ 105 ∷ 110 ∷ []; result = ty.Void; params = []; place = here }

abbrev straight : List BlockMember → List Ty → List Stmt → Program
straight members locals body = record {
  stage = Compute;
  structs = [];
  globals = [];
  blocks = storage members ∷ [];
  interfaces = [];
  prototypes = head ∷ [];
  functions = main locals body ∷ [];
  main = 0;
  local_size = 1 ∷ 1 ∷ 1 ∷ [];
}

abbrev over : List ℕ → List ℕ → Input
over bytes choices = record {
  buffers = record { set = 0; binding = 0; bytes = bytes } ∷ [];
  push = None;
  ins = [];
  group = 0 ∷ 0 ∷ 0 ∷ [];
  local = 0 ∷ 0 ∷ 0 ∷ [];
  groups = 1 ∷ 1 ∷ 1 ∷ [];
  vertex = 0;
  instance = 0;
  choices = choices;
}

abbrev gives : List ℕ → ℕ → Outcome
gives bytes rest = Ended (record { buffers = record { set = 0; binding = 0; bytes = bytes } ∷ []; outs = []; killed = false; rest = rest })

ruleset computes = (value_step, runs_step, told_step, over_void, over_one, over_vector, over_array, over_runtime, outs-Word, outs-Many, outs-Void, outs-One, outs-Vector, outs-Array, outs-Runtime, outs-Struct)

-- the bytes of words
abbrev bytes : List ℕ → List ℕ
bytes words = flat_map (λ word. word % 256 ∷ word / 256 % 256 ∷ word / 65536 % 256 ∷ word / 16777216 % 256 ∷ []) words

abbrev member : Ty → ℕ → Expr
member t n = typed here t (kind.BlockMember 0 n)

abbrev set_to : Expr → Expr → Stmt
set_to x v = s.Eval (typed here int (kind.Assign x v))

abbrev two : BinaryOp → Expr → Expr → Expr
two o x y = typed here int (kind.Binary o x y)

-- `a = b + 1;`
sum : shader (straight (plain int ∷ plain int ∷ []) [] (set_to (member int 0) (two op.Add (member int 1) (literal 1)) ∷ [])) 0 (over (bytes (7 ∷ 4294967295 ∷ [])) []) ≡ gives (bytes (0 ∷ 4294967295 ∷ [])) 0
unfolding shader put_word word_at binary_answer
sum = simp computes refl

-- `t[i] = i++;`: the index is evaluated before the right side
abbrev counts_up : Program
counts_up = straight (plain int ∷ plain row ∷ []) [] (set_to (typed here int (kind.Index (member row 1) (member int 0))) (typed here int (kind.Step step.PostUp (member int 0))) ∷ [])

index_first : shader counts_up 0 (over (bytes (1 ∷ 9 ∷ 9 ∷ 9 ∷ [])) []) ≡ gives (bytes (2 ∷ 9 ∷ 1 ∷ 9 ∷ [])) 0
unfolding shader put_word word_at
index_first = simp computes refl

-- and strays where it is out of bounds
index_strays : shader counts_up 0 (over (bytes (3 ∷ 9 ∷ 9 ∷ 9 ∷ [])) []) ≡ Strayed
unfolding shader put_word word_at
index_strays = simp computes refl

-- `p = q; r = true;`: a word that is not 0 reads as true, and one that is not written stays
abbrev boolean : Ty
boolean = ty.One Boolean

truths : shader (straight (plain boolean ∷ plain boolean ∷ plain boolean ∷ []) [] (set_to (member boolean 0) (member boolean 1) ∷ set_to (member boolean 2) (typed here boolean (kind.Const (Word 1))) ∷ [])) 0 (over (bytes (0 ∷ 7 ∷ 0 ∷ [])) []) ≡ gives (bytes (1 ∷ 7 ∷ 1 ∷ [])) 0
unfolding shader put_word word_at
truths = simp computes refl

-- `x = x / 0;` draws a choice
drawn : shader (straight (plain int ∷ []) [] (set_to (member int 0) (two op.Div (member int 0) (literal 0)) ∷ [])) 0 (over (bytes (7 ∷ [])) (5 ∷ 8 ∷ [])) ≡ gives (bytes (5 ∷ [])) 1
unfolding shader put_word word_at binary_answer
drawn = simp computes refl

-- `v.zx = v.xy;`
abbrev ivec4 : Ty
ivec4 = ty.Vector Int 4

abbrev ivec2 : Ty
ivec2 = ty.Vector Int 2

abbrev two_of : ℕ → ℕ → Expr
two_of x y = typed here ivec2 (kind.Swizzle (member ivec4 0) (record { words = x ∷ y ∷ 0 ∷ 0 ∷ []; count = 2 }))

swizzled : shader (straight (plain ivec4 ∷ []) [] (set_to (two_of 2 0) (two_of 0 1) ∷ [])) 0 (over (bytes (1 ∷ 2 ∷ 3 ∷ 4 ∷ [])) []) ≡ gives (bytes (2 ∷ 2 ∷ 1 ∷ 4 ∷ [])) 0
unfolding shader put_word word_at
swizzled = simp computes refl

-- `n = a.length();` over 22 bytes, where `int a[]` begins at 8
counted : shader (straight (plain int ∷ plain int ∷ plain (ty.Runtime int) ∷ []) [] (set_to (member int 0) (typed here int (kind.Length (member (ty.Runtime int) 2))) ∷ [])) 0 (over (bytes (0 ∷ 0 ∷ 0 ∷ 0 ∷ 0 ∷ []) ++ 1 ∷ 2 ∷ []) []) ≡ gives (bytes (3 ∷ 0 ∷ 0 ∷ 0 ∷ 0 ∷ []) ++ 1 ∷ 2 ∷ []) 0
unfolding shader put_word word_at
counted = simp computes refl

-- `while (a < 2) a++;`: each turn uses a unit
abbrev looped : Program
looped = straight (plain int ∷ []) [] (s.Loop (Some (typed here boolean (kind.Binary op.Less (member int 0) (literal 2)))) None (s.Eval (typed here int (kind.Step step.PostUp (member int 0)))) false ∷ [])

turns_end : shader looped 2 (over (bytes (0 ∷ [])) []) ≡ gives (bytes (2 ∷ [])) 0
unfolding shader put_word word_at binary_answer
turns_end = simp computes refl

turns_go_on : shader looped 1 (over (bytes (0 ∷ [])) []) ≡ Going
unfolding shader put_word word_at binary_answer
turns_go_on = simp computes refl

-- `int x; x += 1; a = x;`: a variable without an initialiser is zero
abbrev local : ℕ → Expr
local n = typed here int (kind.Local n)

declared : shader (straight (plain int ∷ []) (int ∷ []) (s.Declare 0 None ∷ s.Eval (typed here int (kind.Update op.Add (local 0) (literal 1))) ∷ set_to (member int 0) (local 0) ∷ [])) 0 (over (bytes (9 ∷ [])) []) ≡ gives (bytes (1 ∷ [])) 0
unfolding shader put_word word_at binary_answer
declared = simp computes refl

-- `switch (a) { case 1: a = 10; default: a = a + 5; break; case 3: a = 7; }`: a case falls through, and `break` leaves the `switch`
abbrev arm : List ℕ → Bool → List Stmt → Arm
arm labels is_default body = roll-Arm (record { labels = labels; is_default = is_default; body = body })

abbrev switched : Program
switched = straight (plain int ∷ []) [] (s.Switch (member int 0) (arm (1 ∷ []) false (set_to (member int 0) (literal 10) ∷ []) ∷ arm [] true (set_to (member int 0) (two op.Add (member int 0) (literal 5)) ∷ s.Break ∷ []) ∷ arm (3 ∷ []) false (set_to (member int 0) (literal 7) ∷ []) ∷ []) ∷ [])

falls_through : shader switched 0 (over (bytes (1 ∷ [])) []) ≡ gives (bytes (15 ∷ [])) 0
unfolding shader put_word word_at binary_answer
falls_through = simp computes refl

goes_to_default : shader switched 0 (over (bytes (2 ∷ [])) []) ≡ gives (bytes (7 ∷ [])) 0
unfolding shader put_word word_at binary_answer
goes_to_default = simp computes refl

goes_to_label : shader switched 0 (over (bytes (3 ∷ [])) []) ≡ gives (bytes (7 ∷ [])) 0
unfolding shader put_word word_at binary_answer
goes_to_label = simp computes refl

-- `void h(inout int u, inout int v) { u = u + 1; v = v + 10; }` and `h(a, a);`: copies go back from left to right, and the call uses a unit
abbrev param : ℕ → Expr
param n = typed here int (kind.Param n)

abbrev twice : Program
twice = record (straight (plain int ∷ []) [] (s.Eval (typed here ty.Void (kind.Call 1 (member int 0 ∷ member int 0 ∷ []))) ∷ [])) {
  prototypes = head ∷ record { name = 104 ∷ []; result = ty.Void; params = (InOut, int) ∷ (InOut, int) ∷ []; place = here } ∷ [];
  functions = main [] (s.Eval (typed here ty.Void (kind.Call 1 (member int 0 ∷ member int 0 ∷ []))) ∷ []) ∷ record { prototype = 1; locals = []; body = set_to (param 0) (two op.Add (param 0) (literal 1)) ∷ set_to (param 1) (two op.Add (param 1) (literal 10)) ∷ []; place = here } ∷ [];
}

copied_back : shader twice 1 (over (bytes (0 ∷ [])) []) ≡ gives (bytes (10 ∷ [])) 0
unfolding shader put_word word_at binary_answer
copied_back = simp computes refl

call_goes_on : shader twice 0 (over (bytes (0 ∷ [])) []) ≡ Going
unfolding shader put_word word_at binary_answer
call_goes_on = simp computes refl
