-- Which functions call which, and how deep calls nest.
use Rattle.std.specs.Prelude.{ℕ, zero, suc, Bool, true, false, ◌||◌, nat_eq, List, [], ◌∷◌, ◌++◌, map, flat_map, length, Contains, Option, Some, None, if◌then◌else◌}
use Rattle.std.specs.List.{list_any}
use Rattle.gsl_base.specs.declared.fault.Place.{Place}
use Rattle.gsl_tree.specs.declared.expr.Expr.{Expr}
use Rattle.gsl_tree.specs.declared.expr.ExprKind.TheOpen.{ExprKind-F, Expr-F}
use Rattle.gsl_tree.specs.declared.expr.ExprKind.TheFolds.{fold-Expr}
use Rattle.gsl_tree.specs.declared.stmt.Stmt.{Stmt}
use Rattle.gsl_tree.specs.declared.stmt.Stmt.TheOpen.{Stmt-F, Arm-F}
use Rattle.gsl_tree.specs.declared.stmt.Stmt.TheFolds.{fold-Stmt}
use Rattle.gsl_tree.specs.declared.unit.Function.{Function}
use Rattle.gsl_tree.specs.declared.unit.GlobalVar.{GlobalVar}
use Rattle.gsl_tree.specs.Trees.{parts_of, exprs_of, or_nothing}
use Rattle.gsl_tree.specs.Weights.{calls_of}
use Rattle.gsl_link_units.specs.Types.{new_number}
use Rattle.gsl_link_units.specs.Declarations.{Side}
use Rattle.gsl_link_whole.specs.Numbers.{numbering}
use Rattle.gsl_link_whole.specs.Whole.{from_each}
-- ---- calls with their places

-- a call of a function, by the number of its head
pub use Rattle.gsl_link_calls.specs.declared.call.Call.{Call}

-- one after the other
abbrev pub together : List (List Call) → List Call
together [] = []
together (calls ∷ rest) = calls ++ together rest

-- of an expression's kind: the head that it calls, if it is a call, and the calls in its parts
abbrev pub calls_kind : ExprKind-F (Option ℕ × List Call) (List Call) → Option ℕ × List Call
calls_kind (ExprKind-F.Call number args) = (Some number, together args)
calls_kind form = (None, together (parts_of form))

abbrev pub with_call : Place → Option ℕ → List Call → List Call
with_call place None calls = calls
with_call place (Some head) calls = record { head = head; place = place } ∷ calls

abbrev pub calls_part : Expr-F (Option ℕ × List Call) (List Call) → List Call
calls_part e = with_call e.place e.kind.0 e.kind.1

-- the calls in an expression; that of an operand of `.length()`, which is not evaluated, is one too
abbrev pub expr_calls : Expr → List Call
expr_calls = fold-Expr (Option ℕ × List Call) (List Call) calls_kind calls_part

abbrev pub or_none : Option (List Call) → List Call
or_none None = []
or_none (Some calls) = calls

abbrev pub inner_calls : Stmt-F (List Call) (List Call) → List Call
inner_calls (Stmt-F.Group stmts) = together stmts
inner_calls (Stmt-F.If test first other) = first ++ or_none other
inner_calls (Stmt-F.Loop test step body test_last) = body
inner_calls (Stmt-F.Switch selector arms) = together arms
inner_calls _ = []

abbrev pub stmt_calls_by : Stmt-F (List Call) (List Call) → List Call
stmt_calls_by form = flat_map expr_calls (exprs_of form) ++ inner_calls form

abbrev pub arm_calls_by : Arm-F (List Call) (List Call) → List Call
arm_calls_by arm = together arm.body

-- the calls in a statement
abbrev pub stmt_calls : Stmt → List Call
stmt_calls = fold-Stmt (List Call) (List Call) stmt_calls_by arm_calls_by

abbrev pub global_calls : GlobalVar → List Call
global_calls g = flat_map expr_calls (or_nothing g.init)

abbrev pub function_calls : Function → List Call
function_calls f = flat_map stmt_calls f.body

-- the calls in a unit, by the unit's own heads
abbrev pub unit_calls : Side → List Call
unit_calls side = flat_map global_calls side.unit.globals ++ flat_map function_calls side.unit.functions

abbrev pub renumbered_call : List ℕ → Call → Call
renumbered_call heads call = record call { head = new_number heads call.head }

abbrev pub renumbered_calls : List Side → ℕ → Side → List Call
renumbered_calls sides unit side = map (renumbered_call (numbering sides unit side).heads) (unit_calls side)

-- the calls in all units, by the joined heads
abbrev pub all_calls : List Side → List Call
all_calls sides = from_each (renumbered_calls sides) 0 sides

-- ---- who calls whom

-- the functions, by their heads, that the function of a head calls
abbrev pub called_by : List Function → ℕ → List ℕ
called_by [] head = []
called_by (f ∷ functions) head = if nat_eq f.prototype head then calls_of f else called_by functions head

-- A function reaches another by calls: the closure of "calls".
pub data Reaches (functions : List Function) : ℕ → ℕ → Type 0 where
  calls : (from next : ℕ) → Contains (called_by functions from) next → Reaches functions from next
  calls_on : (from next head : ℕ) → Contains (called_by functions from) next → Reaches functions next head → Reaches functions from head

-- whether a function reaches another by at least one and at most so many calls
unfoldable pub reaches_within : List Function → ℕ → ℕ → ℕ → Bool
reaches_within functions zero from head = false
reaches_within functions (suc most) from head = list_any (λ next. nat_eq next head || reaches_within functions most next head) (called_by functions from)

-- whether a function reaches another by calls; a shortest way has no more calls than there are functions
abbrev pub reaches : List Function → ℕ → ℕ → Bool
reaches functions from head = reaches_within functions (length functions) from head

-- ---- how deep

-- Whether there are so many calls, one within the other, from a function on. A call is 1 deep where its callee calls nothing.
unfoldable pub nest : List Function → ℕ → ℕ → Bool
nest functions zero from = true
nest functions (suc count) from = list_any (nest functions count) (called_by functions from)

-- whether calls of the program nest so deep
abbrev pub any_nest : List Function → ℕ → Bool
any_nest functions count = list_any (λ (f : Function). nest functions count f.prototype) functions
