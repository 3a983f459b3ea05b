-- What is joined of one unit has that unit's declarations.
use Rattle.std.proofs.Common.{◌≡◌, sym, ap, ◌∙◌, refl, subst, append-nil, Bool, true, false, List, [], ◌∷◌, ◌++◌, map, Option, Some, None, Result, Ok}
use Rattle.std.specs.Prelude.{filter, if◌then◌else◌}
use Rattle.std.specs.List.{list_any}
use Rattle.gsl_base.specs.declared.fault.Fault.{Fault}
use Rattle.gsl_base.specs.declared.stage.Stage.{Stage}
use Rattle.gsl_types.specs.declared.ty.StructType.{StructType}
use Rattle.gsl_tree.specs.declared.program.Program.{Program}
use Rattle.gsl_tree.specs.declared.unit.TypedUnit.{TypedUnit}
use Rattle.gsl_link_units.specs.Agreement.{is_against_any}
use Rattle.gsl_link_units.specs.Declarations.{Declaration, Side, declarations, declared_at, side_of}
use Rattle.gsl_link_units.specs.Firsts.{again_behind, earliest, firsts, firsts_behind}
use Rattle.gsl_link.specs.Joined.{joined, fault_of, unless_faulty}
use Rattle.gsl_link_whole.specs.Numbers.{in_order, numbering, same_block, same_interface}
use Rattle.gsl_link_whole.specs.Renumbering.{renumbered_function}
use Rattle.gsl_link.specs.Rows.{disagreement}
use Rattle.gsl_link_units.specs.Structs.{with_structs}
use Rattle.gsl_link.specs.Units.{IsNamedOnce}
use Rattle.gsl_link_whole.specs.Whole.{whole}

-- ---- a program that was joined

pub record IsWhole (stage : Stage) (units : List TypedUnit) (p : Program) : Type 0 where
  pub faultless : fault_of stage units ≡ None
  pub is : p ≡ whole stage units

the_program : (stage : Stage) (units : List TypedUnit) (p : Program) (found : Option Fault) → fault_of stage units ≡ found → unless_faulty (whole stage units) found ≡ Ok p → IsWhole stage units p
the_program stage units p None none e = record { faultless = none; is = let same : ◌≡◌ {A = Result Program Fault} (Ok p) (Ok (whole stage units)) = sym e in cc }
the_program stage units p (Some fault) some e = cc

-- What units make is their lists joined, and they have no fault.
pub joined_is : (stage : Stage) (units : List TypedUnit) (p : Program) → joined stage units ≡ Ok p → IsWhole stage units p
unfolding joined
joined_is stage units p e = the_program stage units p (fault_of stage units) refl e

-- ---- items that are each unlike those before them

module _ {A : Type 0} (alike : A → A → Bool) where
  -- they are the first of each
  pub firsts_all : (before items : List A) → again_behind alike before items ≡ [] → firsts_behind alike before items ≡ items
  firsts_all before [] e = refl
  firsts_all before (item ∷ items) e = by_case (list_any (alike item) before) e (firsts_all (before ++ item ∷ []) items) where
    by_case : (b : Bool) → (if b then item ∷ again_behind alike (before ++ item ∷ []) items else again_behind alike (before ++ item ∷ []) items) ≡ [] → (again_behind alike (before ++ item ∷ []) items ≡ [] → firsts_behind alike (before ++ item ∷ []) items ≡ items) → (if b then firsts_behind alike (before ++ item ∷ []) items else item ∷ firsts_behind alike (before ++ item ∷ []) items) ≡ item ∷ items
    by_case true e rest = cc
    by_case false e rest = ap (λ more. item ∷ more) (rest e)

-- ---- one unit

none_against : (structs : List StructType) (items : List Declaration) → filter (is_against_any structs []) items ≡ []
none_against structs [] = refl
none_against structs (item ∷ items) = none_against structs items

-- One unit is against none.
pub one_agrees : (structs : List StructType) (side : Side) → disagreement structs (side ∷ []) ≡ None
one_agrees structs side = ap (λ items. earliest (map declared_at (items ++ []))) (none_against structs (declarations side))

-- a unit by the joined structs
abbrev alone : TypedUnit → Side
alone unit = side_of (with_structs [] [] unit.structs).1 unit

-- A program of one unit has the unit's inputs and outputs, blocks and functions, in their order but for the blocks.
pub record IsOfUnit (unit : TypedUnit) (p : Program) : Type 0 where
  pub interfaces : p.interfaces ≡ (alone unit).unit.interfaces
  pub blocks : p.blocks ≡ in_order (alone unit).unit.blocks
  pub functions : p.functions ≡ map (renumbered_function (numbering (alone unit ∷ []) 0 (alone unit))) unit.functions

whole_of_one : (stage : Stage) (unit : TypedUnit) → IsNamedOnce (alone unit) → IsOfUnit unit (whole stage (unit ∷ []))
whole_of_one stage unit named = record {
  interfaces = ap (firsts same_interface) (append-nil (alone unit).unit.interfaces) ∙ firsts_all same_interface [] (alone unit).unit.interfaces named.interfaces;
  blocks = ap in_order (ap (firsts same_block) (append-nil (alone unit).unit.blocks) ∙ firsts_all same_block [] (alone unit).unit.blocks named.blocks);
  functions = append-nil (map (renumbered_function (numbering (alone unit ∷ []) 0 (alone unit))) unit.functions);
}

pub one_unit : (stage : Stage) (unit : TypedUnit) (p : Program) → IsNamedOnce (alone unit) → joined stage (unit ∷ []) ≡ Ok p → IsOfUnit unit p
one_unit stage unit p named e = subst (λ q. IsOfUnit unit q) (sym (joined_is stage (unit ∷ []) p e).is) (whole_of_one stage unit named)
