-- The functions of a program where they stand in the module of the program, as they are lowered (GLSL 4.50, 6.1; SPIR-V 1.0, 2.4).
use Rattle.std.specs.Prelude.{◌≡◌, ℕ, true, length, slice_get, Some}
use Rattle.gsl_words.specs.declared.module.Module.{Module}
use Rattle.gsl_words.specs.declared.target.Target.{Target}
use Rattle.gsl_tree.specs.declared.program.Program.{Program}
use Rattle.gsl_tree.specs.declared.unit.Function.{Function}
use Rattle.gsl_tree.specs.declared.unit.Prototype.{Prototype}
use Rattle.gsl_spv.specs.Growing.{Extends}
use Rattle.gsl_spv.specs.Finished.{module_of}
use Rattle.gsl_spv.specs.Sections.{Sections, empty}
use Rattle.gsl_lower_values.specs.Building.{Made}
use Rattle.gsl_lower_holders.specs.Flow.{Flow}
use Rattle.gsl_lower_holders.specs.declared.place.FlowPlace.{FlowPlace}
use Rattle.gsl_lower_flow.specs.Programs.{declared, program_needs}
use Rattle.gsl_lower_flow.specs.Reaching.{is_lowered, main_head}
use Rattle.gsl_lower_law_entered.specs.Modules.{IsFunction}
use Rattle.gsl_lower_law_functions.specs.Functions.{IsLowered}
use Rattle.gsl_lower_law_shader.specs.Depths.{body_of}
use Rattle.gsl_lower_law_outside.specs.Known.{AreTold}
use Rattle.gsl_lower_law_outside.specs.Outside.{HasOuter}
use Rattle.gsl_lower_law_outside.specs.Beginning.{HaveOutside}

-- The function of an id stands in the module, opened for the head and the local variables of a function of the program, and with its body behind the opening.
pub record StandsAt (m : Module) (whole : Sections) (p : Program) (place : FlowPlace) (function : ℕ) (head : Prototype) (tree : Function) : Type 0 where
  pub begin : Flow
  pub stands : IsFunction m whole p.structs place tree.locals function begin
  pub lowered : IsLowered whole begin stands.rest (body_of p tree head.result)
  pub many : length head.params ≡ length begin.place.params

-- Where a program has been lowered, all that stands outside functions was put first; each function that is lowered stands in the module, and main has the id that was given.
pub record HaveFunctions (target : Target) (p : Program) (main : ℕ) (flow : Flow) : Type 0 where
  pub place : FlowPlace
  pub first : Sections
  pub outside : declared target p (program_needs p) (empty p.stage target) ≡ Made place first
  pub extends : Extends first flow.sections
  pub outer : HasOuter p (program_needs p) (empty p.stage target) place first
  pub told : AreTold (module_of flow.sections main p.local_size) p.structs place.composites
  pub entered : slice_get place.functions (main_head p) ≡ Some main
  pub stand : (number function : ℕ) (f : Function) (head : Prototype) → slice_get p.functions number ≡ Some f → is_lowered p f ≡ true → slice_get p.prototypes f.prototype ≡ Some head → slice_get place.functions f.prototype ≡ Some function
      → StandsAt (module_of flow.sections main p.local_size) flow.sections p place function head f

-- what stands outside functions there
abbrev pub outside_of : {target : Target} {p : Program} {main : ℕ} {flow : Flow} → HaveFunctions target p main flow → HaveOutside target p main flow
outside_of h = record { place = h.place; first = h.first; outside = h.outside; extends = h.extends; outer = h.outer; told = h.told }
