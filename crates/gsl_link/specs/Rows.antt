-- The faults of linking: for each the first place where it applies, over the units and their declarations in order.
use Rattle.std.specs.Prelude.{ℕ, suc, ◌+◌, Bool, not, ◌&&◌, nat_eq, nat_lt, bytes_eq, List, [], ◌∷◌, ◌++◌, map, filter, slice_get, Option, Some, None, if◌then◌else◌}
use Rattle.std.specs.List.{list_any}
use Rattle.gsl_base.specs.declared.fault.Place.{Place}
use Rattle.gsl_base.specs.declared.stage.Stage.{Stage}
use Rattle.gsl_base.specs.declared.stage.Stage.TheVariants.{Vertex, Fragment, Compute}
use Rattle.gsl_types.specs.declared.ty.StructType.{StructType}
use Rattle.gsl_types.specs.Leaves.{told_leaves}
use Rattle.gsl_tree.specs.declared.program.Program.{Program}
use Rattle.gsl_tree.specs.declared.unit.Block.{Block}
use Rattle.gsl_tree.specs.declared.unit.Function.{Function}
use Rattle.gsl_tree.specs.declared.unit.Interface.{Interface}
use Rattle.gsl_tree.specs.declared.unit.LocalSize.{LocalSize}
use Rattle.gsl_tree.specs.WellTyped.{is_push}
use Rattle.gsl_tree.specs.Weights.{program_weight, function_leaves}
use Rattle.gsl_link_units.specs.Firsts.{firsts, again, earliest, first_place}
use Rattle.gsl_link_units.specs.Declarations.{Side, declared_at}
use Rattle.gsl_link_units.specs.Agreement.{both_or_neither}
use Rattle.gsl_link_whole.specs.Numbers.{Sited, all_globals, same_variable, declared_blocks}
use Rattle.gsl_link_whole.specs.Whole.{is_main}
use Rattle.gsl_link_calls.specs.declared.call.Call.{Call}
use Rattle.gsl_link_calls.specs.Calls.{all_calls, reaches, any_nest}
use Rattle.gsl_link_names.specs.Earlier.{against_earlier}

-- the place of what is said of all sources
abbrev pub at_start : Place
at_start = record { unit = 0; line = 1 }

abbrev pub if_so : Bool → Place → Option Place
if_so b place = if b then Some place else None

-- ---- E0804: a declaration is against one of an earlier unit

abbrev pub disagreement : List StructType → List Side → Option Place
disagreement structs sides = earliest (map declared_at (against_earlier structs [] sides))

-- ---- E0802: a second definition of a function

abbrev pub same_head : Function → Function → Bool
same_head a b = nat_eq a.prototype b.prototype

abbrev pub second_definition : Program → Option Place
second_definition p = first_place (map (λ (f : Function). f.place) (again same_head p.functions))

-- ---- E0801: there is no `main`

abbrev pub no_main : Program → Option Place
no_main p = if_so (not (list_any (is_main p.prototypes) p.functions)) at_start

-- ---- E0803: a call of a function that has no definition

abbrev pub is_undefined : Program → Call → Bool
is_undefined p call = not (list_any (λ (f : Function). nat_eq f.prototype call.head) p.functions)

abbrev pub undefined_call : Program → List Side → Option Place
undefined_call p sides = earliest (map (λ (call : Call). call.place) (filter (is_undefined p) (all_calls sides)))

-- ---- E0805: a function reaches itself by calls

abbrev pub is_recursive : Program → Function → Bool
is_recursive p f = reaches p.functions f.prototype f.prototype

abbrev pub recursion : Program → Option Place
recursion p = first_place (map (λ (f : Function). f.place) (filter (is_recursive p) p.functions))

-- ---- E0806: local sizes

-- the first that is not as the one that was stated first; there is one
abbrev pub size_fault : List LocalSize → Option Place
size_fault [] = Some at_start
size_fault (size ∷ sizes) = first_place (map (λ (other : LocalSize). other.place) (filter (λ (other : LocalSize). not (bytes_eq other.parts size.parts)) sizes))

abbrev pub size_disagreement : Stage → List LocalSize → Option Place
size_disagreement Vertex sizes = None
size_disagreement Fragment sizes = None
size_disagreement Compute sizes = size_fault sizes

-- ---- E0807: a location, or a set and binding, is used twice

-- two inputs or two outputs
abbrev pub same_location : Interface → Interface → Bool
same_location a b = both_or_neither a.output b.output && nat_eq a.location b.location

-- push constant blocks are not bound
abbrev pub same_binding : Block → Block → Bool
same_binding a b = not (is_push a.kind) && not (is_push b.kind) && nat_eq a.set b.set && nat_eq a.binding b.binding

abbrev pub used_twice : Program → List Side → Option Place
used_twice p sides = earliest (map (λ (i : Interface). i.place) (again same_location p.interfaces) ++ map (λ (block : Block). block.place) (again same_binding (declared_blocks sides)))

-- ---- E0903: leaves of variables

-- the parameters and locals of a function, and the global variables, have at most so many leaves
abbrev pub most_leaves : ℕ
most_leaves = 65536

abbrev pub is_large : Program → Function → Bool
is_large p f = nat_lt most_leaves (function_leaves p.structs p.prototypes f)

abbrev pub large_function : Program → Option Place
large_function p = first_place (map (λ (f : Function). f.place) (filter (is_large p) p.functions))

-- the declaration of a variable with which there are too many, where those before it have so many
abbrev pub passes_behind : List StructType → ℕ → List Sited → Option Place
passes_behind structs leaves [] = None
passes_behind structs leaves (a ∷ globals) =
    if nat_lt most_leaves (leaves + told_leaves structs a.global.ty) then Some a.global.place else passes_behind structs (leaves + told_leaves structs a.global.ty) globals

-- global variables count once, at their first declarations
abbrev pub large_globals : Program → List Side → Option Place
large_globals p sides = passes_behind p.structs 0 (firsts same_variable (all_globals sides))

abbrev pub or_then : Option Place → Option Place → Option Place
or_then (Some place) next = Some place
or_then None next = next

-- functions come first, then the global variables
abbrev pub too_many_leaves : Program → List Side → Option Place
too_many_leaves p sides = or_then (large_function p) (large_globals p sides)

-- ---- E0907: calls nest too deep

-- calls nest at most so deep
abbrev pub most_calls : ℕ
most_calls = 64

abbrev pub place_of_main : Option Function → Place
place_of_main None = at_start
place_of_main (Some f) = f.place

-- calls nest deeper than so many
abbrev pub deeper_than : ℕ → Program → Option Place
deeper_than most p = if_so (any_nest p.functions (suc most)) (place_of_main (slice_get p.functions p.main))

abbrev pub too_deep : Program → Option Place
too_deep p = deeper_than most_calls p

-- ---- E0906: the weight of the program

abbrev pub most_weight : ℕ
most_weight = 200000

abbrev pub too_heavy : Program → Option Place
too_heavy p = if_so (nat_lt most_weight (program_weight p)) at_start
