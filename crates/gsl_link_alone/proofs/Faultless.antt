-- What was linked has no fault of linking, taken as one unit.
use Rattle.std.proofs.Common.{◌≡◌, refl, sym, ap, ◌∙◌, subst, ℕ, List, [], ◌∷◌, ◌++◌, map, Option, Some, None, Ok}
use Rattle.std.specs.Prelude.{filter}
use Rattle.std.specs.List.{AllByRecursion}
use Rattle.gsl_base.specs.declared.fault.Place.{Place}
use Rattle.gsl_base.specs.declared.stage.Stage.{Stage}
use Rattle.gsl_base.specs.declared.stage.Stage.TheVariants.{Vertex, Fragment, Compute}
use Rattle.gsl_tree.specs.declared.program.Program.{Program}
use Rattle.gsl_tree.specs.declared.unit.Block.{Block}
use Rattle.gsl_tree.specs.declared.unit.Interface.{Interface}
use Rattle.gsl_tree.specs.declared.unit.TypedUnit.{TypedUnit}
use Rattle.gsl_tree.specs.WellTyped.{IsProgram}
use Rattle.gsl_link_units.specs.Declarations.{Side, sides_of}
use Rattle.gsl_link_units.specs.Firsts.{again, earliest}
use Rattle.gsl_link_units.specs.Structs.{joined_structs}
use Rattle.gsl_link_whole.specs.Numbers.{declared_blocks}
use Rattle.gsl_link_whole.specs.Whole.{all_sizes, whole}
use Rattle.gsl_link_calls.specs.declared.call.Call.{Call}
use Rattle.gsl_link_calls.specs.Calls.{all_calls}
use Rattle.gsl_link.specs.Joined.{IsLinked, Row, as_unit, fault_of, first_fault, joined, rows, sizes_of, unless_faulty}
use Rattle.gsl_link.specs.Rows.{disagreement, is_undefined, large_function, large_globals, no_main, or_then, recursion, same_binding, same_location, second_definition, size_disagreement, too_deep, too_heavy, too_many_leaves, undefined_call, used_twice}
use Rattle.gsl_link.specs.Units.{AreUnits}
use Rattle.gsl_link.proofs.OneUnit.{joined_is, one_agrees}
use Rattle.gsl_link_law.proofs.Agreed.{across_from, both_empty, no_place, none_mapped}
use Rattle.gsl_link_law.proofs.Members.{filter_none}
use Rattle.gsl_link_law.proofs.Programs.{whole_is}
use Rattle.gsl_link_alone.specs.Alone.{StandsOnce}
use Rattle.gsl_link_alone.proofs.Counted.{globals_fit}
use Rattle.gsl_link_alone.proofs.Once.{joined_once}
use Rattle.gsl_link_alone.proofs.Sorted.{sorted_apart}
use Rattle.gsl_link_alone.proofs.Undefined.{calls_alone, calls_from, program_calls}
use Rattle.gsl_link_alone.proofs.Unlike.{again_unlike, filter_empty}
use Rattle.gsl_link_alone.proofs.Wholes.{declared_alone, side, side_is, whole_alone}

-- ---- rows

abbrev NoRow : Row → Type 0
NoRow row = row.1 ≡ None

no_rows : (all : List Row) → first_fault all ≡ None → AllByRecursion NoRow all
no_rows [] none = tt
no_rows ((code, None) ∷ rest) none = (refl, no_rows rest none)
no_rows ((code, Some place) ∷ rest) none = cc

none_first : (all : List Row) → AllByRecursion NoRow all → first_fault all ≡ None
none_first [] none = refl
none_first ((code, None) ∷ rest) none = none_first rest none.1
none_first ((code, Some place) ∷ rest) none = let never : ⊥ = (let e = none.0 in cc) in elim never [ ]

neither : (first second : Option Place) → or_then first second ≡ None → (first ≡ None) × (second ≡ None)
neither None second none = (refl, none)
neither (Some place) second none = cc

-- no row applies to a program, by its units
record HasNoRow (stage : Stage) (units : List TypedUnit) (p : Program) : Type 0 where
  agreed : disagreement p.structs (sides_of units) ≡ None
  second : second_definition p ≡ None
  main : no_main p ≡ None
  calls : undefined_call p (sides_of units) ≡ None
  recursion : recursion p ≡ None
  once : used_twice p (sides_of units) ≡ None
  leaves : too_many_leaves p (sides_of units) ≡ None
  deep : too_deep p ≡ None
  heavy : too_heavy p ≡ None

all_none : (stage : Stage) (units : List TypedUnit) → fault_of stage units ≡ None → HasNoRow stage units (whole stage units)
all_none stage units none =
    let all = no_rows (rows (all_sizes units) (sides_of units) (whole stage units)) none in
    record {
      agreed = all.0;
      second = all.1.0;
      main = all.1.1.0;
      calls = all.1.1.1.0;
      recursion = all.1.1.1.1.0;
      once = all.1.1.1.1.1.1.0;
      leaves = all.1.1.1.1.1.1.1.0;
      deep = all.1.1.1.1.1.1.1.1.0;
      heavy = all.1.1.1.1.1.1.1.1.1.0;
    }

size_agrees : (stage : Stage) (size : List ℕ) → size_disagreement stage (sizes_of stage size ++ []) ≡ None
size_agrees Vertex size = refl
size_agrees Fragment size = refl
size_agrees Compute size = refl

module _ (stage : Stage) (units : List TypedUnit) (are : AreUnits stage units) (none : fault_of stage units ≡ None) where
  abbrev p : Program
  p = whole stage units

  is : IsProgram p
  is = whole_is stage units are none

  once : StandsOnce p
  once = joined_once stage units

  facts : HasNoRow stage units p
  facts = all_none stage units none

  abbrev alone : Side
  alone = side p is once

  -- no call is without a definition
  calls_defined : undefined_call p (alone ∷ []) ≡ None
  calls_defined =
      let place_of = λ (call : Call). call.place in
      let empty = none_mapped place_of (filter (is_undefined p) (all_calls (sides_of units))) (no_place (map place_of (filter (is_undefined p) (all_calls (sides_of units)))) facts.calls) in
      ap (λ calls. earliest (map place_of (filter (is_undefined p) calls))) (calls_alone p is once)
      ∙ ap (λ calls. earliest (map place_of calls)) (filter_empty (is_undefined p) (program_calls p) (λ c at. filter_none (is_undefined p) (all_calls (sides_of units)) empty c (calls_from stage units are.typed c at)))

  -- no location and no binding is used twice
  used_once : used_twice p (alone ∷ []) ≡ None
  used_once =
      let place_of = λ (i : Interface). i.place in
      let spot_of = λ (block : Block). block.place in
      let locations = map place_of (again same_location p.interfaces) in
      let bindings = map spot_of (again same_binding (declared_blocks (sides_of units))) in
      let empty : locations ≡ [] = (both_empty locations bindings (no_place (locations ++ bindings) facts.once)).0 in
      ap (λ l. earliest (l ++ map spot_of (again same_binding (declared_blocks (alone ∷ []))))) empty
      ∙ ap (λ blocks. earliest (map spot_of (again same_binding blocks))) (declared_alone p is once)
      ∙ ap (λ l. earliest (map spot_of l)) (again_unlike same_binding p.blocks (sorted_apart p.blocks is.sorted))

  -- there are not too many leaves
  leaves_fit : too_many_leaves p (alone ∷ []) ≡ None
  leaves_fit =
      let both = neither (large_function p) (large_globals p (sides_of units)) facts.leaves in
      ap (λ o. or_then o (large_globals p (alone ∷ []))) both.0
      ∙ globals_fit p.structs (sides_of units) are.named (across_from (joined_structs units) (sides_of units) facts.agreed) both.1 alone refl

  no_fault : first_fault (rows (all_sizes (as_unit p ∷ [])) (alone ∷ []) p) ≡ None
  no_fault =
      none_first (rows (all_sizes (as_unit p ∷ [])) (alone ∷ []) p)
      (one_agrees p.structs alone, (facts.second, (facts.main, (calls_defined, (facts.recursion, (size_agrees stage p.local_size, (used_once, (leaves_fit, (facts.deep, (facts.heavy, tt))))))))))

  pub faultless_alone : fault_of stage (as_unit p ∷ []) ≡ None
  faultless_alone =
      ap (λ sides. first_fault (rows (all_sizes (as_unit p ∷ [])) sides (whole stage (as_unit p ∷ [])))) (side_is p is once)
      ∙ ap (λ q. first_fault (rows (all_sizes (as_unit p ∷ [])) (alone ∷ []) q)) (whole_alone p is once) ∙ no_fault

  whole_linked : IsLinked p
  whole_linked = record { typed = is; faultless = faultless_alone }

  whole_again : joined stage (as_unit p ∷ []) ≡ Ok p
  unfolding joined
  whole_again = ap (unless_faulty (whole stage (as_unit p ∷ []))) faultless_alone ∙ ap Ok (whole_alone p is once)

-- what was joined is linked
pub joined_linked : (stage : Stage) (units : List TypedUnit) (p : Program) → AreUnits stage units → joined stage units ≡ Ok p → IsLinked p
joined_linked stage units p are is =
    let whole_of = joined_is stage units p is in
    subst IsLinked (sym whole_of.is) (whole_linked stage units are whole_of.faultless)

-- and joined again it is itself
pub joined_again : (stage : Stage) (units : List TypedUnit) (p : Program) → AreUnits stage units → joined stage units ≡ Ok p → joined p.stage (as_unit p ∷ []) ≡ Ok p
joined_again stage units p are is =
    let whole_of = joined_is stage units p is in
    subst (λ (q : Program). joined q.stage (as_unit q ∷ []) ≡ Ok q) (sym whole_of.is) (whole_again stage units are whole_of.faultless)
