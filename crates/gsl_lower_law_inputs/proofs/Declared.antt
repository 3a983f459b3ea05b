-- What stands outside functions, as it is put.
use Rattle.std.proofs.Common.{◌≡◌, sym, ap, subst, List, []}
use Rattle.gsl_types.specs.Known.{AreStructs}
use Rattle.gsl_words.specs.declared.module.Module.{Module}
use Rattle.gsl_words.specs.declared.target.Target.{Target}
use Rattle.gsl_tree.specs.declared.program.Program.{Program}
use Rattle.gsl_tree.specs.declared.unit.Prototype.{Prototype}
use Rattle.gsl_sound_code.proofs.Looks.{Kept}
use Rattle.gsl_spv.specs.Calls as call
use Rattle.gsl_spv.specs.Growing.{Begins, Extends}
use Rattle.gsl_spv.specs.Sections.{Sections}
use Rattle.gsl_spv.proofs.Extending.{extends_then}
use Rattle.gsl_lower_values.specs.Building.{Made, id_by, in_order}
use Rattle.gsl_lower_text.specs.Written.{Written}
use Rattle.gsl_lower_holders.specs.declared.place.FlowPlace.{FlowPlace}
use Rattle.gsl_lower_needs.specs.declared.need.Need.{Need}
use Rattle.gsl_lower_types.specs.Blocks.{blocks_put, classes_of}
use Rattle.gsl_lower_types.specs.Globals.{globals_put}
use Rattle.gsl_lower_types.specs.Interfaces.{interfaces_put}
use Rattle.gsl_lower_types.specs.Known.{all}
use Rattle.gsl_lower_types.specs.Values.{program_types}
use Rattle.gsl_lower_types.proofs.Finding.{begins_as, begins_then, came}
use Rattle.gsl_lower_flow.specs.Programs.{built_type, built_types, declared, nothing_laid, place, stages}
use Rattle.gsl_lower_law_outside.specs.Known.{AreTold}
use Rattle.gsl_lower_law_outside.proofs.Keeping.{same_after, same_made}
use Rattle.gsl_lower_law_inputs.proofs.Globals.{HasGlobalVariable, globals_tell}
use Rattle.gsl_lower_law_inputs.proofs.Interfaces.{HasInterface, interfaces_tell}
use Rattle.gsl_lower_law_inputs.proofs.Puts.{EachTells}
use Rattle.gsl_lower_law_inputs.proofs.Stages.{HaveStages, stages_tell}

module _ (m : Module) (whole : Sections) (p : Program) (held : Kept m) (written : Written m whole) (there : FlowPlace) (are : AreTold m p.structs there.composites) (are_structs : AreStructs p.structs) where
  -- The variables outside functions stand in the module: global variables, inputs and outputs, and built-in variables.
  pub record AllStand : Type 0 where
    pub globals : EachTells (HasGlobalVariable m whole p.structs held written there.composites are are_structs) p.globals there.globals
    pub interfaces : EachTells (HasInterface whole m p.structs held written there.composites are) p.interfaces there.interfaces
    pub stages : HaveStages whole there.stage_vars

  pub all_stand : (target : Target) (asked : List Need) (s after : Sections) → declared target p asked s ≡ Made there after → Extends after whole → AllStand
  unfolding declared built_types
  all_stand target asked s after made into =
      let heads = came (in_order (λ (one : Prototype). id_by call.take) p.prototypes s) _ there after made in
      let types = came (program_types p [] heads.between) _ there after heads.then_ in
      let built = came (all built_type asked types.first.1 types.between) _ there after types.then_ in
      let blocks = came (blocks_put target p.structs p.blocks nothing_laid built.between) _ there after built.then_ in
      let globals = came (globals_put p.structs p.globals built.first.1 blocks.between) _ there after blocks.then_ in
      let interfaces = came (interfaces_put p.interfaces globals.first.1 globals.between) _ there after globals.then_ in
      let ids = came (stages asked interfaces.between) _ there after interfaces.then_ in
      let put : FlowPlace = place heads.first interfaces.first.1 blocks.first.0 (classes_of target p.blocks) globals.first.0 interfaces.first.0 ids.first in
      let same : put ≡ there = same_made put there ids.between after ids.then_ in
      let end : Extends ids.between whole = subst (λ (x : Sections). Extends x whole) (sym (same_after put there ids.between after ids.then_)) into in
      let known : Begins interfaces.first.1 there.composites = begins_as (ap (λ (f : FlowPlace). f.composites) same) in
      let one = (globals_tell m whole p.structs held written there.composites are are_structs p.globals).all built.first.1 blocks.between globals.first globals.between globals.made in
      let two = (interfaces_tell whole m p.structs held written there.composites are p.interfaces).all globals.first.1 globals.between interfaces.first interfaces.between interfaces.made in
      let three = (stages_tell whole asked).all interfaces.between ids.first ids.between ids.made in
      record {
        globals = subst (λ l. EachTells (HasGlobalVariable m whole p.structs held written there.composites are are_structs) p.globals l) (ap (λ (f : FlowPlace). f.globals) same) (one.told (extends_then two.extends (extends_then three.extends end)) (begins_then two.grows known));
        interfaces = subst (λ l. EachTells (HasInterface whole m p.structs held written there.composites are) p.interfaces l) (ap (λ (f : FlowPlace). f.interfaces) same) (two.told (extends_then three.extends end) known);
        stages = subst (λ l. HaveStages whole l) (ap (λ (f : FlowPlace). f.stage_vars) same) (three.told end);
      }
