-- The rows one after the other.
use Rattle.std.proofs.Common.{◌≡◌, ◌∙◌, refl, ap, subst, List, []}
use Rattle.std.specs.Prelude.{Option, Some, None, Result, IfOk, ◌∷◌}
use Rattle.gsl_base.specs.declared.fault.Code.{Code}
use Rattle.gsl_base.specs.declared.fault.Code.TheVariants.{E0801, E0802, E0803, E0804, E0805, E0806, E0807, E0903, E0906, E0907}
use Rattle.gsl_base.specs.declared.fault.Fault.{Fault}
use Rattle.gsl_base.specs.declared.fault.Place.{Place}
use Rattle.gsl_base.specs.declared.memory.Memory.{Memory}
use Rattle.gsl_tree.specs.declared.program.Program.{Program}
use Rattle.gsl_tree.specs.declared.unit.LocalSize.{LocalSize}
use Rattle.gsl_link_units.specs.Declarations.{Side}
use Rattle.gsl_link.specs.Joined.{Row, first_fault}
use Rattle.gsl_link.specs.Left.{fault_or, from_first, from_calls, from_slots, from_depth}
use Rattle.gsl_link.specs.Rows.{disagreement, second_definition, no_main, undefined_call, recursion, size_disagreement, used_twice, too_many_leaves, too_deep, too_heavy}

-- a row that applies is told, and one that does not leaves the later ones
pub told : (code : Code) (later : Option Fault) {at : Place} {place : Option Place} → Some at ≡ place → Some (record { place = at; code = code }) ≡ fault_or code later place
told code later is = ap (fault_or code later) is

pub kept : (code : Code) (later : Option Fault) {place : Option Place} → None ≡ place → later ≡ fault_or code later place
kept code later is = ap (fault_or code later) is

-- what is answered of the later rows is answered of all
pub answered : (r : Result (Option Fault) Memory) {later all : Option Fault} → later ≡ all → IfOk r (λ f. f ≡ later) → IfOk r (λ f. f ≡ all)
answered r is given = subst (λ all. IfOk r (λ f. f ≡ all)) is given

row_is : (code : Code) (place : Option Place) (rest : List Row) → fault_or code (first_fault rest) place ≡ first_fault ((code, place) ∷ rest)
row_is code None rest = refl
row_is code (Some at) rest = refl

two : (c d : Code) (a b : Option Place) (rest : List Row) → fault_or c (fault_or d (first_fault rest) b) a ≡ first_fault ((c, a) ∷ (d, b) ∷ rest)
two c d a b rest = ap (λ f. fault_or c f a) (row_is d b rest) ∙ row_is c a ((d, b) ∷ rest)

three : (c d e : Code) (a b x : Option Place) (rest : List Row) → fault_or c (fault_or d (fault_or e (first_fault rest) x) b) a ≡ first_fault ((c, a) ∷ (d, b) ∷ (e, x) ∷ rest)
three c d e a b x rest = ap (λ f. fault_or c f a) (two d e b x rest) ∙ row_is c a ((d, b) ∷ (e, x) ∷ rest)

module _ (sizes : List LocalSize) (sides : List Side) (p : Program) where
  pub steps_first : fault_or E0804 (fault_or E0802 (fault_or E0801 (from_calls sizes sides p) (no_main p)) (second_definition p)) (disagreement p.structs sides) ≡ from_first sizes sides p
  unfolding from_first from_calls
  steps_first = three E0804 E0802 E0801 (disagreement p.structs sides) (second_definition p) (no_main p) _

  pub steps_calls : fault_or E0803 (fault_or E0805 (fault_or E0806 (from_slots sizes sides p) (size_disagreement p.stage sizes)) (recursion p)) (undefined_call p sides) ≡ from_calls sizes sides p
  unfolding from_calls from_slots
  steps_calls = three E0803 E0805 E0806 (undefined_call p sides) (recursion p) (size_disagreement p.stage sizes) _

  pub steps_slots : fault_or E0807 (fault_or E0903 (from_depth sizes sides p) (too_many_leaves p sides)) (used_twice p sides) ≡ from_slots sizes sides p
  unfolding from_slots from_depth
  steps_slots = two E0807 E0903 (used_twice p sides) (too_many_leaves p sides) _

  pub steps_depth : fault_or E0907 (fault_or E0906 None (too_heavy p)) (too_deep p) ≡ from_depth sizes sides p
  unfolding from_depth
  steps_depth = two E0907 E0906 (too_deep p) (too_heavy p) []
