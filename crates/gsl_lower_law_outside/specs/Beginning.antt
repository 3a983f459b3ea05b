-- What stands outside functions once a program has been lowered, and what its variables begin with (SPIR-V 1.0, 3.32.8).
use Rattle.std.specs.Prelude.{◌≡◌, ℕ, slice_get, Some}
use Rattle.gsl_base.specs.declared.input.Input.{Input}
use Rattle.gsl_words.specs.declared.module.Module.{Module}
use Rattle.gsl_words.specs.declared.target.Target.{Target}
use Rattle.gsl_values.specs.declared.value.Value.{Value}
use Rattle.gsl_tree.specs.declared.program.Program.{Program}
use Rattle.gsl_valid.specs.Kinds.{Variable}
use Rattle.gsl_machine.specs.Interfaces.{value_variables, variable_begins}
use Rattle.gsl_spv.specs.Finished.{module_of}
use Rattle.gsl_spv.specs.Growing.{Extends}
use Rattle.gsl_spv.specs.Sections.{Sections, empty}
use Rattle.gsl_lower_values.specs.Building.{Made}
use Rattle.gsl_lower_holders.specs.Flow.{Flow}
use Rattle.gsl_lower_holders.specs.declared.place.FlowPlace.{FlowPlace}
use Rattle.gsl_lower_flow.specs.Programs.{declared, program_needs}
use Rattle.gsl_lower_follows.specs.Frames.{Name, id_of}
use Rattle.gsl_lower_law_outside.specs.Known.{AreTold}
use Rattle.gsl_lower_law_outside.specs.Outside.{HasOuter}

-- All that stands outside functions was put first, and the module of what was put then says of it what the program says.
pub record HaveOutside (target : Target) (p : Program) (main : ℕ) (flow : Flow) : Type 0 where
  pub place : FlowPlace
  pub first : Sections
  pub outside : declared target p (program_needs p) (empty p.stage target) ≡ Made place first
  pub extends : Extends first flow.sections
  pub outer : HasOuter p (program_needs p) (empty p.stage target) place first
  pub told : AreTold (module_of flow.sections main p.local_size) p.structs place.composites

-- The variable of a name begins with a value.
pub record BeginsWith (m : Module) (input : Input) (place : FlowPlace) (name : Name) (v : Value) : Type 0 where
  pub position : ℕ
  pub variable : Variable
  pub there : slice_get (value_variables m) position ≡ Some variable
  pub named : id_of place name ≡ Some variable.id
  pub value : variable_begins m input variable ≡ v
