-- A program and its module begin alike.
use Rattle.std.proofs.Common.{◌≡◌, ◌∙◌, ℕ, true, List, Option, Some}
use Rattle.gsl_base.specs.declared.input.Input.{Input}
use Rattle.gsl_words.specs.declared.module.Module.{Module}
use Rattle.gsl_words.specs.declared.target.Target.{Target}
use Rattle.gsl_values.specs.declared.value.Value.{Value}
use Rattle.gsl_tree.specs.WellTyped.{IsProgram}
use Rattle.gsl_tree.specs.declared.program.Program.{Program}
use Rattle.gsl_meaning.specs.Shader.{begins}
use Rattle.gsl_owed.specs.Runs.{IsFitting}
use Rattle.gsl_valid.specs.Valid.{Valid}
use Rattle.gsl_spv.specs.Finished.{module_of}
use Rattle.gsl_spv.specs.Sections.{empty}
use Rattle.gsl_lower_holders.specs.Flow.{Flow, Gives}
use Rattle.gsl_lower_flow.specs.Programs.{lowered}
use Rattle.gsl_lower_follows.specs.Frames.{Global, Holder, Interface, Local, Name, Param, Stage, value_of}
use Rattle.gsl_lower_law_returns.specs.Calling.{is_shared}
use Rattle.gsl_lower_law_buffers.specs.OfLawOutside.{BeginsWith, HaveOutside}
use Rattle.gsl_lower_law_buffers.specs.OfLawInputs.{stages_given}
use Rattle.gsl_lower_law_buffers.proofs.OfLawInputs.{globals_begin, interfaces_begin, stages_begin}
use Rattle.gsl_lower_law_buffers.proofs.OfLawInputs.{stages_typed}
use Rattle.gsl_lower_law_buffers.proofs.OfLawInputs.{variables_typed}
use Rattle.gsl_lower_law_asking.proofs.Alike.{lowered_fits}
use Rattle.gsl_lower_law_buffers.proofs.Begun.{blocks_begin, blocks_seen}
use Rattle.gsl_lower_law_buffers.proofs.Staying.{all_stay}
use Rattle.gsl_lower_law_asking.proofs.OfLawOutputs.{declares_none_behind}
use Rattle.gsl_lower_law_asking.proofs.OfLawOutputs.{outputs_are}
use Rattle.gsl_lower_law_program.specs.Alike.{BeginAlike}
use Rattle.gsl_lower_law_program.specs.Shaders.{globals_of}
use Rattle.gsl_lower_law_program.specs.Standing.{HaveFunctions, outside_of}
use Rattle.gsl_lower_law_exact.proofs.Initialised.{all_initialised}

module _ (target : Target) (p : Program) (main : ℕ) (flow : Flow) (program : IsProgram p) (lowers : lowered target p (empty p.stage target) ≡ Gives main flow) (valid : Valid (module_of flow.sections main p.local_size)) (h : HaveFunctions target p main flow) (input : Input) (fitting : IsFitting p input) where
  abbrev m : Module
  m = module_of flow.sections main p.local_size

  abbrev stages : List (Option Value)
  stages = stages_given h.place.stage_vars p.local_size input

  abbrev outside : HaveOutside target p main flow
  outside = outside_of h

  values : (name : Name) (v : Value) → is_shared name ≡ true → value_of stages (begins p input) name ≡ Some v → BeginsWith m input h.place name v
  values (Global n) v shared is = globals_begin target p main flow program valid outside input (all_initialised p program) stages n v is
  values (Interface n) v shared is = interfaces_begin target p main flow program valid outside input stages n v is
  values (Stage n) v shared is = stages_begin target p main flow program valid outside input n v is
  values (Param n) v shared is = absurd cc
  values (Local n) v shared is = absurd cc
  values (Holder n) v shared is = absurd cc

  alike : BeginAlike m input h.place flow.sections p stages
  alike = record {
    values = values;
    typed = λ f name shared. variables_typed input p program fitting.fits fitting.types (all_initialised p program) m flow.sections f stages name shared;
    stages_typed = λ number t v at is. stages_typed p.structs input fitting.types p.local_size h.place.stage_vars (begins p input) number t v at is;
    blocks = λ number id block known seat. blocks_begin target p main flow program valid outside input fitting.types fitting.fits number id block known seat;
    seen = λ f number block known. blocks_seen p input fitting.types fitting.fits m flow.sections f (globals_of p) number block known;
    buffers = all_stay p input fitting.proper fitting.types;
    choices = fitting.types.choices;
    types = fitting.types;
    fits = lowered_fits target p main flow program lowers valid outside input ∙ fitting.fits;
    outs = λ f frame alone. outputs_are target p main flow program valid outside (declares_none_behind target p main flow lowers outside) input stages f frame;
  }

-- ---- laws

pub begin_alike : (target : Target) (p : Program) (main : ℕ) (flow : Flow) → IsProgram p → lowered target p (empty p.stage target) ≡ Gives main flow → Valid (module_of flow.sections main p.local_size) → (h : HaveFunctions target p main flow) → (input : Input) → IsFitting p input
    → BeginAlike (module_of flow.sections main p.local_size) input h.place flow.sections p (stages_given h.place.stage_vars p.local_size input)
begin_alike target p main flow program lowers valid h input fitting = alike target p main flow program lowers valid h input fitting
