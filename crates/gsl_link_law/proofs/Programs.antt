-- What units without fault make together is a program.
use Rattle.std.proofs.Common.{◌≡◌, refl, sym, subst, ℕ, ◌≤◌, ◌⊎◌, inl, inr, Bool, true, false, not, ◌&&◌, IsTrue, bytes_eq, List, [], ◌∷◌, ◌++◌, map, length, slice_get, Option, Some, None, Ok}
use Rattle.std.specs.List.{AllByRecursion, list_any}
use Rattle.std.proofs.lemmas.Bool.{and_parts, true≢false}
use Rattle.gsl_base.specs.declared.stage.Stage.{Stage}
use Rattle.gsl_base.specs.declared.stage.Stage.TheVariants.{Vertex, Fragment, Compute}
use Rattle.gsl_types.specs.declared.ty.Direction.{Direction}
use Rattle.gsl_types.specs.declared.ty.Ty.{Ty}
use Rattle.gsl_types.specs.declared.ty.Ty.TheVariants as ty
use Rattle.gsl_tree.specs.declared.program.Program.{Program}
use Rattle.gsl_tree.specs.declared.unit.Block.{Block}
use Rattle.gsl_tree.specs.declared.unit.Function.{Function}
use Rattle.gsl_tree.specs.declared.unit.Interface.{Interface}
use Rattle.gsl_tree.specs.declared.unit.LocalSize.{LocalSize}
use Rattle.gsl_tree.specs.declared.unit.Prototype.{Prototype}
use Rattle.gsl_tree.specs.declared.unit.TypedUnit.{TypedUnit}
use Rattle.gsl_tree.specs.Expressions.{is_size}
use Rattle.gsl_tree.specs.WellTyped.{AreSizes, IsUnit, IsLocalSize, IsProgram}
use Rattle.gsl_link_units.specs.Firsts.{again}
use Rattle.gsl_link_units.specs.Types.{same_type}
use Rattle.gsl_link_units.specs.Structs.{joined_structs}
use Rattle.gsl_link_units.specs.Declarations.{Side, sides_of}
use Rattle.gsl_link_whole.specs.Numbers.{declared_blocks, joined_heads, joined_interfaces}
use Rattle.gsl_link_whole.specs.Whole.{main_name, has_no_params, is_main_head, is_main, all_sizes, first_size, local_size, joined_functions, whole}
use Rattle.gsl_link.specs.Rows.{at_start, if_so, disagreement, no_main, size_fault, size_disagreement, same_location, same_binding, used_twice}
use Rattle.gsl_link.specs.Units.{AreUnits}
use Rattle.gsl_link.specs.Joined.{Row, rows, first_fault, fault_of, joined}
use Rattle.gsl_link.proofs.OneUnit.{joined_is}
use Rattle.gsl_link_law.proofs.Agreed.{Across, across_from, both_empty, none_mapped, no_place, names_same}
use Rattle.gsl_link_law.proofs.Declared.{joined_structs_declared}
use Rattle.gsl_link_law.proofs.Globals.{globals_typed}
use Rattle.gsl_link_law.proofs.Linked.{AreAgreed, side_is, structs_known, functions_typed}
use Rattle.gsl_link_law.proofs.Listed.{blocks_typed, interfaces_typed, heads_typed}
use Rattle.gsl_link_law.proofs.Members.{In, in_parts, get_at, all_in, all_from, in_map, found_first}
use Rattle.gsl_link_law.proofs.Pushed.{HasOnePush, retyped_push, declared_push, joined_push, joined_sorted}
use Rattle.gsl_link_law.proofs.Same.{type_is}
use Rattle.gsl_link_law.proofs.Typed.{declared_units}

-- ---- no fault

-- no row applies
abbrev NoRow : Row → Type 0
NoRow row = row.1 ≡ None

no_rows : (all : List Row) → first_fault all ≡ None → AllByRecursion NoRow all
no_rows [] none = tt
no_rows ((code, None) ∷ rest) none = (refl, no_rows rest none)
no_rows ((code, Some place) ∷ rest) none = cc

-- what the rows say of units that have no fault
pub record AreFaultless (stage : Stage) (units : List TypedUnit) : Type 0 where
  pub agreed : disagreement (joined_structs units) (sides_of units) ≡ None
  pub main : no_main (whole stage units) ≡ None
  pub sizes : size_disagreement stage (all_sizes units) ≡ None
  pub once : used_twice (whole stage units) (sides_of units) ≡ None

pub faultless : (stage : Stage) (units : List TypedUnit) → fault_of stage units ≡ None → AreFaultless stage units
faultless stage units none =
    let all = no_rows (rows (all_sizes units) (sides_of units) (whole stage units)) none in
    record { agreed = all.0; main = all.1.1.0; sizes = all.1.1.1.1.1.0; once = all.1.1.1.1.1.1.0 }

-- ---- sizes

some_size : (sizes : List LocalSize) → size_fault sizes ≡ None → (size : LocalSize) × (In size sizes × (first_size sizes ≡ size.parts))
some_size [] none = cc
some_size (size ∷ sizes) none = (size, (inl refl, refl))

size_in : (stage : Stage) (units : List TypedUnit) → AllByRecursion (IsUnit stage) units → stage ≡ Compute → (unit : TypedUnit) → In unit units → (size : LocalSize) → In size unit.local_sizes
    → (length size.parts ≡ 3) × IsTrue (is_size size.parts)
size_in stage units typed compute unit at size stands =
    let sizes = subst (λ s. AreSizes s (map (λ (l : LocalSize). l.parts) unit.local_sizes)) compute (all_in (IsUnit stage) units typed unit at).sizes in
    all_in (λ (parts : List ℕ). (length parts ≡ 3) × IsTrue (is_size parts)) (map (λ (l : LocalSize). l.parts) unit.local_sizes) sizes size.parts (in_map (λ (l : LocalSize). l.parts) unit.local_sizes size stands)

flat_units : (units : List TypedUnit) (size : LocalSize) → In size (all_sizes units) → (unit : TypedUnit) × (In unit units × In size unit.local_sizes)
flat_units [] size at = elim at [ ]
flat_units (unit ∷ units) size at = by_cases (flat_units units size) (in_parts size unit.local_sizes (all_sizes units) at)
  where
    by_cases : (In size (all_sizes units) → (u : TypedUnit) × (In u units × In size u.local_sizes)) → In size unit.local_sizes ⊎ In size (all_sizes units) → (u : TypedUnit) × (In u (unit ∷ units) × In size u.local_sizes)
    by_cases next (inl here) = (unit, (inl refl, here))
    by_cases next (inr more) = let later = next more in (later.0, (inr later.1.0, later.1.1))

local_is : (stage : Stage) (units : List TypedUnit) → AllByRecursion (IsUnit stage) units → size_disagreement stage (all_sizes units) ≡ None → IsLocalSize stage (local_size stage (all_sizes units))
local_is Vertex units typed none = refl
local_is Fragment units typed none = refl
local_is Compute units typed none =
    let found = some_size (all_sizes units) none in
    let source = flat_units units found.0 found.1.0 in
    subst (λ (parts : List ℕ). (length parts ≡ 3) × IsTrue (is_size parts)) (sym found.1.1) (size_in Compute units typed refl source.0 source.1.0 found.0 source.1.1)

-- ---- `main`

is_there : (b : Bool) → if_so (not b) at_start ≡ None → b ≡ true
is_there true none = refl
is_there false none = cc

-- the function that was found is `main`
record IsMain (heads : List Prototype) (f : Function) : Type 0 where
  pub prototype : Prototype
  pub head : slice_get heads f.prototype ≡ Some prototype
  pub named : prototype.name ≡ main_name
  pub bare : prototype.params ≡ []
  pub void : prototype.result ≡ ty.Void

no_params : (params : List (Direction × Ty)) → has_no_params params ≡ true → params ≡ []
no_params [] is = refl
no_params (param ∷ params) is = let never : ⊥ = true≢false (sym is) in elim never [ ]

main_is : (heads : List Prototype) (f : Function) → is_main heads f ≡ true → IsMain heads f
main_is heads f is = by_head (slice_get heads f.prototype) refl is
  where
    by_head : (o : Option Prototype) → slice_get heads f.prototype ≡ o → is_main_head o ≡ true → IsMain heads f
    by_head None at e = let never : ⊥ = true≢false (sym e) in elim never [ ]
    by_head (Some p) at e =
        let first = and_parts (bytes_eq p.name main_name && has_no_params p.params) (same_type p.result ty.Void) e in
        let second = and_parts (bytes_eq p.name main_name) (has_no_params p.params) first.0 in
        record { prototype = p; head = at; named = names_same p.name main_name second.0; bare = no_params p.params second.1; void = type_is p.result ty.Void first.1 }

-- ---- the program

module _ (stage : Stage) (units : List TypedUnit) (are : AreUnits stage units) (none : fault_of stage units ≡ None) where
  abbrev sides : List Side
  sides = sides_of units

  facts : AreFaultless stage units
  facts = faultless stage units none

  agreed : AreAgreed stage units
  agreed = record { typed = are.typed; named = are.named; agreed = facts.agreed; sizes = facts.sizes }

  across : Across (joined_structs units) sides
  across = across_from (joined_structs units) sides facts.agreed

  one_push : AllByRecursion HasOnePush sides
  one_push = all_from HasOnePush sides (λ side at.
      let place = get_at side sides at in
      let of = side_is stage units are.typed place.0 side place.1 in
      subst HasOnePush (sym of.is) (subst (λ k. k ≤ 1) (sym (retyped_push of.numbers of.unit.blocks)) of.typed.typed.push))

  bound_once : again same_binding (declared_blocks sides) ≡ []
  bound_once =
      let locations = map (λ (i : Interface). i.place) (again same_location (joined_interfaces sides)) in
      let bindings = map (λ (block : Block). block.place) (again same_binding (declared_blocks sides)) in
      none_mapped (λ (block : Block). block.place) (again same_binding (declared_blocks sides)) (both_empty locations bindings (no_place (locations ++ bindings) facts.once)).1

  -- what units without fault make together is a program
  pub whole_is : IsProgram (whole stage units)
  whole_is =
      let found = found_first (is_main (joined_heads sides)) (joined_functions sides) (is_there (list_any (is_main (joined_heads sides)) (joined_functions sides)) facts.main) in
      let main = main_is (joined_heads sides) found.0 found.3 in
      record {
        typed = record {
          structs = structs_known stage units agreed;
          declared = joined_structs_declared units (declared_units stage units are.typed);
          globals = globals_typed stage units agreed;
          blocks = blocks_typed stage units agreed;
          push = joined_push (joined_structs units) sides one_push across;
          interfaces = interfaces_typed stage units agreed;
          prototypes = heads_typed stage units agreed;
          functions = functions_typed stage units agreed;
        };
        size = local_is stage units are.typed facts.sizes;
        sorted = joined_sorted sides (declared_push (joined_structs units) sides one_push across) bound_once;
        function = found.0;
        prototype = main.prototype;
        main = found.1;
        head = main.head;
        named = main.named;
        bare = main.bare;
        void = main.void;
      }

-- and so is what is joined
pub joined_program : (stage : Stage) (units : List TypedUnit) (p : Program) → AreUnits stage units → joined stage units ≡ Ok p → IsProgram p
joined_program stage units p are is =
    let whole_of = joined_is stage units p is in
    subst IsProgram (sym whole_of.is) (whole_is stage units are whole_of.faultless)
