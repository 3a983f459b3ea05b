-- Units with the program that they make or their first fault, so that a wrong definition is seen.
use Rattle.std.proofs.Common.{◌≡◌, refl, ℕ, Bool, true, false, List, [], ◌∷◌, map, Option, Some, None, Err}
use Rattle.std.specs.Prelude.{is_ok, option_map}
use Rattle.gsl_base.specs.Checked.{Checked}
use Rattle.gsl_base.specs.declared.fault.Code.{Code}
use Rattle.gsl_base.specs.declared.fault.Code.TheVariants.{E0801, E0802, E0803, E0806}
use Rattle.gsl_base.specs.declared.fault.Place.{Place}
use Rattle.gsl_base.specs.declared.stage.Stage.TheVariants.{Vertex, Compute}
use Rattle.gsl_types.proofs.Layers.{over_void, over_one, over_vector, over_array, over_runtime, over_struct}
use Rattle.gsl_types.specs.declared.ty.Direction.{Direction}
use Rattle.gsl_types.specs.declared.ty.Direction.TheVariants.{In, InOut}
use Rattle.gsl_types.specs.declared.ty.Member.{Member}
use Rattle.gsl_types.specs.declared.ty.Scalar.TheVariants.{Int, Uint}
use Rattle.gsl_types.specs.declared.ty.StructType.{StructType}
use Rattle.gsl_types.specs.declared.ty.Ty.{Ty}
use Rattle.gsl_types.specs.declared.ty.Ty.TheVariants as ty
use Rattle.gsl_types.specs.declared.ty.Ty.TheVariants.{outs-Void, outs-One, outs-Vector, outs-Array, outs-Runtime, outs-Struct}
use Rattle.gsl_values.specs.declared.value.Value.{Value}
use Rattle.gsl_values.specs.declared.value.Value.TheVariants.{Word, outs-Word, outs-Many}
use Rattle.gsl_tree.proofs.Folds.{folds}
use Rattle.gsl_tree.proofs.StmtFolds.{stmt_folds}
use Rattle.gsl_tree.specs.declared.expr.Expr.{Expr}
use Rattle.gsl_tree.specs.declared.expr.ExprKind.TheVariants as kind
use Rattle.gsl_tree.specs.declared.program.Program.{Program}
use Rattle.gsl_tree.specs.declared.stmt.Stmt.{Stmt}
use Rattle.gsl_tree.specs.declared.stmt.Stmt.TheVariants as s
use Rattle.gsl_tree.specs.declared.unit.Block.{Block}
use Rattle.gsl_tree.specs.declared.unit.BlockKind.{BlockKind}
use Rattle.gsl_tree.specs.declared.unit.BlockKind.TheVariants.{Buffer, Push}
use Rattle.gsl_tree.specs.declared.unit.BlockMember.{BlockMember}
use Rattle.gsl_tree.specs.declared.unit.Function.{Function}
use Rattle.gsl_tree.specs.declared.unit.GlobalVar.{GlobalVar}
use Rattle.gsl_tree.specs.declared.unit.Interface.{Interface}
use Rattle.gsl_tree.specs.declared.unit.LocalSize.{LocalSize}
use Rattle.gsl_tree.specs.declared.unit.Prototype.{Prototype}
use Rattle.gsl_tree.specs.declared.unit.TypedUnit.{TypedUnit}
use Rattle.gsl_tree.specs.Trees.{typed}
use Rattle.gsl_tree.specs.Weights.{calls_of}
use Rattle.gsl_link_units.proofs.Folds.{at-typed, type_folds, same_types, same_values}
use Rattle.gsl_link_calls.specs.Calls.{reaches_within, nest}
use Rattle.gsl_link_units.specs.Declarations.{sides_of}
use Rattle.gsl_link.specs.Joined.{joined}
use Rattle.gsl_link.specs.Rows.{deeper_than, disagreement, used_twice, recursion, large_function, large_globals, too_heavy}
use Rattle.gsl_link_units.specs.Structs.{joined_structs, struct_numbers}
use Rattle.gsl_link_whole.specs.Whole.{whole}

ruleset computes = (folds, stmt_folds, at-typed, type_folds, same_types, same_values, over_void, over_one, over_vector, over_array, over_runtime, over_struct, outs-Word, outs-Many, outs-Void, outs-One, outs-Vector, outs-Array, outs-Runtime, outs-Struct)

abbrev here : ℕ → ℕ → Place
here unit line = record { unit = unit; line = line }

abbrev is_fault : Code → ℕ → ℕ → Checked Program
is_fault code unit line = Err (record { place = here unit line; code = code })

abbrev int : Ty
int = ty.One Int

abbrev none : TypedUnit
none = record { structs = []; globals = []; blocks = []; interfaces = []; prototypes = []; functions = []; local_sizes = [] }

abbrev uint : Ty
uint = ty.One Uint

abbrev literal : Value → Expr
literal v = typed (here 0 9) int (kind.Const v)

-- a global variable `g`
abbrev variable : Place → Bool → Ty → Option Expr → Option Value → GlobalVar
variable place constant t init value = record { name = 103 ∷ []; ty = t; constant = constant; init = init; value = value; place = place }

abbrev plain : BlockMember
plain =
    record { name = 97 ∷ []; ty = int; readonly = false; writeonly = false; coherent = false; volatile = false; restrict = false; offset = None; align = None; place = here 0 2 }

-- the place of a declaration that is against one of an earlier unit
abbrev disagreement_of : List TypedUnit → Option Place
disagreement_of units = disagreement (joined_structs units) (sides_of units)

-- ---- functions

abbrev head : List ℕ → List (Direction × Ty) → Place → Prototype
head name params place = record { name = name; result = ty.Void; params = params; place = place }

abbrev main : Place → Prototype
main place = head (109 ∷ 97 ∷ 105 ∷ 110 ∷ []) [] place

abbrev h : Place → Prototype
h place = head (104 ∷ []) [] place

abbrev k : Place → Prototype
k place = head (107 ∷ []) [] place

abbrev function : ℕ → Place → List Stmt → Function
function prototype place body = record { prototype = prototype; locals = []; body = body; place = place }

abbrev call : Place → ℕ → Stmt
call place number = s.Eval (typed place ty.Void (kind.Call number []))

-- `void h();` and `void main() { h(); }`
abbrev caller : TypedUnit
caller = record none { prototypes = h (here 0 2) ∷ main (here 0 3) ∷ []; functions = function 1 (here 0 3) (call (here 0 4) 0 ∷ []) ∷ [] }

-- `void k();` and `void h() {}`
abbrev defines : ℕ → TypedUnit
defines unit = record none { prototypes = k (here unit 2) ∷ h (here unit 3) ∷ []; functions = function 1 (here unit 3) [] ∷ [] }

-- functions that are the same have one head
one_head : map (λ (f : Function). f.prototype) (whole Vertex (caller ∷ defines 1 ∷ [])).functions ≡ 1 ∷ 0 ∷ []
one_head = refl

second : joined Vertex (caller ∷ defines 1 ∷ defines 2 ∷ []) ≡ is_fault E0802 2 3
unfolding joined reaches_within nest
second = simp computes refl

no_units : joined Vertex [] ≡ is_fault E0801 0 1
unfolding joined reaches_within nest
no_units = refl

undefined : joined Vertex (caller ∷ []) ≡ is_fault E0803 0 4
unfolding joined reaches_within nest
undefined = simp computes refl

-- `void k(); void h() { k(); }` and `void h(); void k() { h(); }`
abbrev h_calls_k : TypedUnit
h_calls_k = record none { prototypes = k (here 1 2) ∷ h (here 1 2) ∷ []; functions = function 1 (here 1 2) (call (here 1 2) 0 ∷ []) ∷ [] }

abbrev k_calls_h : TypedUnit
k_calls_h = record none { prototypes = h (here 2 2) ∷ k (here 2 2) ∷ []; functions = function 1 (here 2 2) (call (here 2 2) 0 ∷ []) ∷ [] }

called : map calls_of (whole Vertex (caller ∷ h_calls_k ∷ k_calls_h ∷ [])).functions ≡ (0 ∷ []) ∷ (2 ∷ []) ∷ (0 ∷ []) ∷ []
called = simp computes refl

recursive : recursion (whole Vertex (caller ∷ h_calls_k ∷ k_calls_h ∷ [])) ≡ Some (here 1 2)
unfolding reaches_within
recursive = simp computes refl

-- a call is 1 deep where its callee calls nothing
one_deep : deeper_than 0 (whole Vertex (caller ∷ defines 1 ∷ [])) ≡ Some (here 0 3)
unfolding nest
one_deep = simp computes refl

not_deeper : deeper_than 1 (whole Vertex (caller ∷ defines 1 ∷ [])) ≡ None
unfolding nest
not_deeper = simp computes refl

links : is_ok (joined Vertex (caller ∷ defines 1 ∷ [])) ≡ true
unfolding joined reaches_within nest
links = simp computes refl

-- ---- structs

abbrev member : Ty → Member
member t = record { name = 97 ∷ []; ty = t }

abbrev struct : ℕ → List Ty → StructType
struct letter types = record { name = letter ∷ []; members = map member types; leaves = 1 }

-- `struct S { int a; }; struct T { S a; };`, and the same behind another struct
abbrev s_and_t : TypedUnit
s_and_t = record none { structs = struct 83 (int ∷ []) ∷ struct 84 (ty.Struct 0 ∷ []) ∷ []; globals = variable (here 0 4) false (ty.Struct 1) None None ∷ [] }

abbrev z_and_both : Ty → TypedUnit
z_and_both t = record none { structs = struct 90 (int ∷ []) ∷ struct 83 (t ∷ []) ∷ struct 84 (ty.Struct 1 ∷ []) ∷ []; globals = variable (here 1 5) false (ty.Struct 2) None None ∷ [] }

same_structs : struct_numbers (s_and_t ∷ z_and_both int ∷ []) ≡ (0 ∷ 1 ∷ []) ∷ (2 ∷ 0 ∷ 1 ∷ []) ∷ []
same_structs = simp computes refl

-- `T g;` in both
same_structs_agree : disagreement_of (s_and_t ∷ z_and_both int ∷ []) ≡ None
same_structs_agree = simp computes refl

-- where `S` has another member, `T` is another struct
other_structs : struct_numbers (s_and_t ∷ z_and_both uint ∷ []) ≡ (0 ∷ 1 ∷ []) ∷ (2 ∷ 3 ∷ 4 ∷ []) ∷ []
other_structs = simp computes refl

other_structs_disagree : disagreement_of (s_and_t ∷ z_and_both uint ∷ []) ≡ Some (here 1 5)
other_structs_disagree = simp computes refl

-- ---- global variables

-- `int g;` and `int g = 5;` and `int g = 6;`
abbrev one_global : ℕ → Option Value → TypedUnit
one_global unit value = record none { globals = variable (here unit 2) false int (option_map literal value) value ∷ [] }

initialisers_agree : disagreement_of (one_global 0 None ∷ one_global 1 (Some (Word 5)) ∷ one_global 2 (Some (Word 5)) ∷ []) ≡ None
initialisers_agree = simp computes refl

initialisers_disagree : disagreement_of (one_global 0 None ∷ one_global 1 (Some (Word 5)) ∷ one_global 2 (Some (Word 6)) ∷ []) ≡ Some (here 2 2)
initialisers_disagree = simp computes refl

-- `int g;` and `const int g = 5;`, which belongs to its unit
constants_are_apart : map (λ (g : GlobalVar). g.constant) (whole Vertex (one_global 0 None ∷ record none { globals = variable (here 1 2) true uint None None ∷ [] } ∷ [])).globals ≡ false ∷ true ∷ []
constants_are_apart = refl

-- `int g;`, then `const int c = 5; int g = c;`: the declaration with the initialiser stands for the variable, behind what it names
abbrev named : ℕ → Expr
named number = typed (here 1 3) int (kind.Global number)

abbrev begun : TypedUnit
begun = record none { globals = record (variable (here 1 2) true int (Some (literal (Word 5))) (Some (Word 5))) { name = 99 ∷ [] } ∷ variable (here 1 3) false int (Some (named 0)) (Some (Word 5)) ∷ [] }

initialised_later : (whole Vertex (one_global 0 None ∷ begun ∷ [])).globals ≡ begun.globals
initialised_later = simp computes refl

-- ---- inputs, outputs, blocks

abbrev interface : Place → Bool → ℕ → ℕ → Interface
interface place output letter location = record { name = letter ∷ []; ty = int; output = output; flat = false; location = location; place = place }

-- `layout(location = 3) in int a; layout(location = 3) out int b;` and what comes behind it
abbrev in_and_out : TypedUnit
in_and_out = record none { interfaces = interface (here 0 2) false 97 3 ∷ interface (here 0 3) true 98 3 ∷ [] }

abbrev one_more : Bool → ℕ → ℕ → TypedUnit
one_more output letter location = record none { interfaces = interface (here 1 2) output letter location ∷ [] }

same_input : disagreement_of (in_and_out ∷ one_more false 97 3 ∷ []) ≡ None
same_input = simp computes refl

other_location : disagreement_of (in_and_out ∷ one_more false 97 4 ∷ []) ≡ Some (here 1 2)
other_location = simp computes refl

in_is_not_out : disagreement_of (in_and_out ∷ one_more true 97 3 ∷ []) ≡ Some (here 1 2)
in_is_not_out = simp computes refl

-- a private variable has the name of an input of an earlier unit
private_name : disagreement_of (one_global 0 None ∷ one_more false 103 3 ∷ []) ≡ Some (here 1 2)
private_name = refl

once_each : used_twice (whole Vertex (in_and_out ∷ one_more false 97 3 ∷ [])) (sides_of (in_and_out ∷ one_more false 97 3 ∷ [])) ≡ None
once_each = refl

location_twice : used_twice (whole Vertex (in_and_out ∷ one_more false 99 3 ∷ [])) (sides_of (in_and_out ∷ one_more false 99 3 ∷ [])) ≡ Some (here 1 2)
location_twice = refl

abbrev block : Place → BlockKind → ℕ → ℕ → ℕ → Block
block place purpose letter set binding =
    record { name = letter ∷ []; instance = None; kind = purpose; set = set; binding = binding; std140 = false; members = plain ∷ []; need = 4; place = place }

abbrev with_blocks : List Block → TypedUnit
with_blocks blocks = record none { blocks = blocks }

-- two push constant blocks, and two buffers at one set and binding
push_twice : disagreement_of (with_blocks (block (here 0 2) Push 97 0 0 ∷ []) ∷ with_blocks (block (here 1 2) Push 98 0 0 ∷ []) ∷ []) ≡ Some (here 1 2)
push_twice = refl

push_once : disagreement_of (with_blocks (block (here 0 2) Push 97 0 0 ∷ []) ∷ with_blocks (block (here 1 2) Push 97 0 0 ∷ []) ∷ []) ≡ None
push_once = simp computes refl

abbrev three_blocks : List TypedUnit
three_blocks = with_blocks (block (here 0 2) Push 97 0 0 ∷ block (here 0 3) Buffer 98 1 0 ∷ []) ∷ with_blocks (block (here 1 2) Buffer 99 0 7 ∷ block (here 1 3) Buffer 98 1 0 ∷ []) ∷ []

sorted : map (λ (b : Block). b.name) (whole Vertex three_blocks).blocks ≡ (99 ∷ []) ∷ (98 ∷ []) ∷ (97 ∷ []) ∷ []
sorted = refl

abbrev bound_twice : List TypedUnit
bound_twice = with_blocks (block (here 0 2) Buffer 97 1 2 ∷ []) ∷ with_blocks (block (here 1 2) Buffer 98 1 2 ∷ []) ∷ []

binding_twice : used_twice (whole Vertex bound_twice) (sides_of bound_twice) ≡ Some (here 1 2)
binding_twice = refl

-- a block and a function have one name
other_kind : disagreement_of (caller ∷ with_blocks (block (here 1 2) Buffer 104 0 0 ∷ []) ∷ []) ≡ Some (here 1 2)
other_kind = refl

-- ---- overloads

abbrev with_head : Place → Ty → List (Direction × Ty) → TypedUnit
with_head place result params = record none { prototypes = record (head (102 ∷ []) params place) { result = result } ∷ [] }

overloads : disagreement_of (with_head (here 0 2) int ((In, int) ∷ []) ∷ with_head (here 1 2) uint ((In, uint) ∷ []) ∷ []) ≡ None
overloads = simp computes refl

other_result : disagreement_of (with_head (here 0 2) int ((In, int) ∷ []) ∷ with_head (here 1 2) uint ((In, int) ∷ []) ∷ []) ≡ Some (here 1 2)
other_result = simp computes refl

other_direction : disagreement_of (with_head (here 0 2) int ((In, int) ∷ []) ∷ with_head (here 1 2) int ((InOut, int) ∷ []) ∷ []) ≡ Some (here 1 2)
other_direction = simp computes refl

-- ---- local sizes

abbrev size : ℕ → ℕ → LocalSize
size x line = record { parts = x ∷ 1 ∷ 1 ∷ []; place = here 0 line }

abbrev sized : List LocalSize → TypedUnit
sized sizes = record caller { local_sizes = sizes }

no_size : joined Compute (caller ∷ defines 1 ∷ []) ≡ is_fault E0806 0 1
unfolding joined reaches_within nest
no_size = simp computes refl

two_sizes : joined Compute (sized (size 8 2 ∷ size 8 3 ∷ size 4 4 ∷ []) ∷ defines 1 ∷ []) ≡ is_fault E0806 0 4
unfolding joined reaches_within nest
two_sizes = simp computes refl

-- ---- limits

-- Vectors stand here for types of so many leaves.
abbrev of_leaves : ℕ → Ty
of_leaves count = ty.Vector Int count

abbrev large : ℕ → TypedUnit
large count = record none { prototypes = main (here 0 2) ∷ []; functions = record (function 0 (here 0 2) []) { locals = int ∷ of_leaves count ∷ [] } ∷ [] }

large_locals : large_function (whole Vertex (large 65536 ∷ [])) ≡ Some (here 0 2)
large_locals = simp computes refl

no_large_locals : large_function (whole Vertex (large 65535 ∷ [])) ≡ None
no_large_locals = simp computes refl

-- `g` is declared in two units and counts once
abbrev two_globals : TypedUnit
two_globals =
    record none { globals = variable (here 1 3) false (of_leaves 65536) None None ∷ record (variable (here 1 4) false int None None) { name = 104 ∷ [] } ∷ [] }

abbrev first_global : TypedUnit
first_global = record none { globals = variable (here 0 3) false (of_leaves 65536) None None ∷ [] }

large_variables : large_globals (whole Vertex (first_global ∷ two_globals ∷ [])) (sides_of (first_global ∷ two_globals ∷ [])) ≡ Some (here 1 4)
large_variables = simp computes refl

no_large_variables : large_globals (whole Vertex (first_global ∷ first_global ∷ [])) (sides_of (first_global ∷ first_global ∷ [])) ≡ None
no_large_variables = simp computes refl

-- a variable, its initialiser and its leaves
abbrev heavy : ℕ → TypedUnit
heavy count = record none { globals = variable (here 0 3) false (of_leaves count) (Some (literal (Word 5))) None ∷ [] }

heavy_by_one : too_heavy (whole Vertex (heavy 199999 ∷ [])) ≡ Some (here 0 1)
heavy_by_one = simp computes refl

not_heavy : too_heavy (whole Vertex (heavy 199998 ∷ [])) ≡ None
not_heavy = simp computes refl
