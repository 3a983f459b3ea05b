-- The faults that the units show, in one pass over them.
use Rattle.std.specs.Prelude.{ℕ, ◌+◌, Bool, not, ◌&&◌, ◌||◌, nat_eq, nat_lt, bytes_eq, List, [], ◌∷◌, ◌++◌, map, Option, Some, None, if◌then◌else◌}
use Rattle.std.specs.List.{list_any}
use Rattle.indexmap.specs.IndexSet.{insert_key}
use Rattle.gsl_base.specs.declared.fault.Place.{Place}
use Rattle.gsl_types.specs.declared.ty.StructType.{StructType}
use Rattle.gsl_types.specs.Leaves.{told_leaves}
use Rattle.gsl_tree.specs.declared.unit.Block.{Block}
use Rattle.gsl_tree.specs.declared.unit.Function.{Function}
use Rattle.gsl_tree.specs.declared.unit.GlobalVar.{GlobalVar}
use Rattle.gsl_tree.specs.declared.unit.Interface.{Interface}
use Rattle.gsl_tree.specs.WellTyped.{is_push}
use Rattle.gsl_link_units.specs.Types.{new_number}
use Rattle.gsl_link_units.specs.Declarations.{Side}
use Rattle.gsl_link_whole.specs.Numbers.{Numbering}
use Rattle.gsl_link_calls.specs.declared.call.Call.{Call}
use Rattle.gsl_link_calls.specs.Calls.{unit_calls}
use Rattle.gsl_link.specs.declared.slots.Slot.{Slot}
use Rattle.gsl_link.specs.declared.slots.Counted.{Counted}
use Rattle.gsl_weights.specs.Telling.{up_to}
use Rattle.gsl_link.specs.Rows.{most_leaves}

-- ---- calls of functions that have no definition

abbrev pub defined_heads : List Function → List ℕ
defined_heads functions = map (λ (f : Function). f.prototype) functions

-- a call's place behind others, if its head by the new numbers is none of these
abbrev pub with_undefined : List ℕ → List ℕ → List Place → Call → List Place
with_undefined defined heads places call = if list_any (nat_eq (new_number heads call.head)) defined then places else places ++ call.place ∷ []

abbrev pub undefined_behind : List ℕ → List ℕ → List Place → List Call → List Place
undefined_behind defined heads places [] = places
undefined_behind defined heads places (call ∷ calls) = undefined_behind defined heads (with_undefined defined heads places call) calls

abbrev pub undefined_all : List ℕ → List Place → List Numbering → List Side → List Place
undefined_all defined places [] sides = places
undefined_all defined places (n ∷ numbers) [] = places
undefined_all defined places (n ∷ numbers) (side ∷ sides) = undefined_all defined (undefined_behind defined n.heads places (unit_calls side)) numbers sides

-- ---- slots that are used again

abbrev pub slot_eq : Slot → Slot → Bool
slot_eq a b = nat_eq a.group b.group && nat_eq a.number b.number

abbrev pub slot_at : ℕ → ℕ → Slot
slot_at group number = record { group = group; number = number }

abbrev pub location_slot : Interface → Slot
location_slot i = slot_at (if i.output then 1 else 0) i.location

abbrev pub binding_slot : Block → Slot
binding_slot block = slot_at block.set block.binding

-- the places of those that use a slot again, behind others
abbrev pub locations_again : List Slot → List Place → List Interface → List Place
locations_again slots places [] = places
locations_again slots places (i ∷ interfaces) =
    locations_again (insert_key slot_eq slots (location_slot i)) (if list_any (slot_eq (location_slot i)) slots then places ++ i.place ∷ [] else places) interfaces

abbrev pub binding_places : List Slot → List Place → Block → List Place
binding_places slots places block = if not (is_push block.kind) && list_any (slot_eq (binding_slot block)) slots then places ++ block.place ∷ [] else places

abbrev pub binding_slots : List Slot → Block → List Slot
binding_slots slots block = if is_push block.kind then slots else insert_key slot_eq slots (binding_slot block)

abbrev pub bindings_again : List Slot → List Place → List Block → List Place
bindings_again slots places [] = places
bindings_again slots places (block ∷ blocks) = bindings_again (binding_slots slots block) (binding_places slots places block) blocks

-- ---- global variables, counted once

-- the names of the shared variables that were counted, with that of one more
abbrev pub with_name : List (List ℕ) → GlobalVar → List (List ℕ)
with_name names g = if g.constant then names else insert_key bytes_eq names g.name

abbrev pub names_behind : List (List ℕ) → List GlobalVar → List (List ℕ)
names_behind names [] = names
names_behind names (g ∷ globals) = names_behind (with_name names g) globals

-- whether a declaration counts: it is `const`, or the first of its name
abbrev pub counts : List (List ℕ) → GlobalVar → Bool
counts names g = g.constant || not (list_any (bytes_eq g.name) names)

-- what it counts, as it is told
abbrev pub counted_of : List StructType → GlobalVar → Counted
counted_of structs g = record { leaves = up_to (told_leaves structs g.ty); place = g.place }

abbrev pub with_counted : List StructType → List (List ℕ) → List Counted → GlobalVar → List Counted
with_counted structs names all g = if counts names g then all ++ counted_of structs g ∷ [] else all

abbrev pub counted_behind : List StructType → List (List ℕ) → List Counted → List GlobalVar → List Counted
counted_behind structs names all [] = all
counted_behind structs names all (g ∷ globals) = counted_behind structs (with_name names g) (with_counted structs names all g) globals

abbrev pub counted_all : List StructType → List (List ℕ) → List Counted → List Side → List Counted
counted_all structs names all [] = all
counted_all structs names all (side ∷ sides) =
    counted_all structs (names_behind names side.unit.globals) (counted_behind structs names all side.unit.globals) sides

-- the first of those that count with which there are too many, where those before it have so many
abbrev pub first_beyond : ℕ → List Counted → Option Place
first_beyond leaves [] = None
first_beyond leaves (c ∷ counted) = if nat_lt most_leaves (leaves + c.leaves) then Some c.place else first_beyond (leaves + c.leaves) counted
