-- What the rows give of units joined is the answer.
use Rattle.std.proofs.Common.{◌≡◌, ◌∙◌, ap, subst, List}
use Rattle.std.specs.Prelude.{Option, Result}
use Rattle.gsl_base.specs.Checked.{Checked, Gives}
use Rattle.gsl_base.specs.declared.fault.Fault.{Fault}
use Rattle.gsl_base.specs.declared.fault.Refusal.{Refusal}
use Rattle.gsl_base.specs.declared.stage.Stage.{Stage}
use Rattle.gsl_types.specs.declared.ty.StructType.{StructType}
use Rattle.gsl_tree.specs.declared.program.Program.{Program}
use Rattle.gsl_tree.specs.declared.unit.LocalSize.{LocalSize}
use Rattle.gsl_tree.specs.declared.unit.TypedUnit.{TypedUnit}
use Rattle.gsl_link_units.specs.Declarations.{Side, sides_of}
use Rattle.gsl_link_units.specs.Structs.{joined_structs}
use Rattle.gsl_link_whole.specs.Whole.{whole, all_sizes}
use Rattle.gsl_link_numbers.specs.Numbering.{sizes_in, whole_from}
use Rattle.gsl_link_numbers.proofs.Tabled.{sizes_are, whole_is}
use Rattle.gsl_link.specs.Joined.{joined, unless_faulty}
use Rattle.gsl_link.specs.Left.{from_first}

pub program_is : (stage : Stage) (units : List TypedUnit) (p : Program) (structs : List StructType) (sides : List Side) → p ≡ whole_from stage structs sides
    → structs ≡ joined_structs units → sides ≡ sides_of units → p ≡ whole stage units
program_is stage units p structs sides is of_structs of_sides =
    is ∙ ap (λ s. whole_from stage s sides) of_structs ∙ ap (whole_from stage (joined_structs units)) of_sides ∙ whole_is stage units

answer_is : (stage : Stage) (units : List TypedUnit) (p : Program) (fault : Option Fault) (sizes : List LocalSize) (sides : List Side) → fault ≡ from_first sizes sides p
    → sizes ≡ all_sizes units → sides ≡ sides_of units → p ≡ whole stage units → unless_faulty p fault ≡ joined stage units
unfolding joined from_first
answer_is stage units p fault sizes sides is of_sizes of_sides of_program =
    ap (unless_faulty p) is ∙ ap (λ s. unless_faulty p (from_first s sides p)) of_sizes ∙ ap (λ s. unless_faulty p (from_first (all_sizes units) s p)) of_sides
    ∙ ap (λ q. unless_faulty q (from_first (all_sizes units) (sides_of units) q)) of_program

pub linked : (r : Result Program Refusal) (stage : Stage) (units : List TypedUnit) (p : Program) (fault : Option Fault) (sizes : List LocalSize) (sides : List Side)
    → Gives r (unless_faulty p fault) → fault ≡ from_first sizes sides p → sizes ≡ sizes_in (sides_of units) → sides ≡ sides_of units → p ≡ whole stage units → Gives r (joined stage units)
linked r stage units p fault sizes sides given is of_sizes of_sides of_program =
    subst (λ (a : Checked Program). Gives r a) (answer_is stage units p fault sizes sides is (of_sizes ∙ sizes_are units) of_sides of_program) given
