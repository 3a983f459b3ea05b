-- Blocks stand in the module of a program as they were put.
use Rattle.std.proofs.Common.{◌≡◌, refl, sym, ap, ◌∙◌, subst, ℕ, true, List, [], slice_get, Some, None}
use Rattle.std.specs.Prelude.{◌==◌}
use Rattle.std.specs.List.{Contains}
use Rattle.gsl_instr.specs.declared.enumerant.decoration.TheConstants as decoration
use Rattle.gsl_instr.specs.declared.enumerant.storage_class.TheConstants as storage_class
use Rattle.gsl_words.specs.declared.module.Instr.{Instr}
use Rattle.gsl_words.specs.declared.module.Module.{Module}
use Rattle.gsl_words.specs.declared.target.Target.{Target}
use Rattle.gsl_words.specs.declared.target.Target.TheVariants.{V10, V13}
use Rattle.gsl_owed.specs.Types.{lies}
use Rattle.gsl_sound_code.proofs.Looks.{Kept, kept}
use Rattle.gsl_spv.specs.Calls as call
use Rattle.gsl_spv.specs.Finished.{module_of}
use Rattle.gsl_spv.specs.Growing.{Extends}
use Rattle.gsl_spv.specs.Sections.{Sections, empty}
use Rattle.gsl_spv.proofs.Extending.{extends_then}
use Rattle.gsl_tree.specs.Laying.{layout_of}
use Rattle.gsl_tree.specs.WellTyped.{IsProgram, is_push}
use Rattle.gsl_tree.specs.declared.program.Program.{Program}
use Rattle.gsl_tree.specs.declared.unit.Block.{Block}
use Rattle.gsl_tree.specs.declared.unit.BlockKind.{BlockKind}
use Rattle.gsl_tree.specs.declared.unit.BlockKind.TheVariants.{Uniform, Buffer, Push}
use Rattle.gsl_tree.specs.declared.unit.Prototype.{Prototype}
use Rattle.gsl_valid.specs.Kinds.{Variable, variable_is}
use Rattle.gsl_valid.specs.Types.{defined_as, is_block_class, is_variable_of}
use Rattle.gsl_valid.specs.Valid.{Valid}
use Rattle.gsl_lower_values.specs.Building.{Made, id_by, in_order}
use Rattle.gsl_lower_text.specs.Written.{Written}
use Rattle.gsl_lower_text.proofs.Constants.{at}
use Rattle.gsl_lower_text.proofs.Finishes.{finished_written}
use Rattle.gsl_lower_holders.specs.Flow.{Flow}
use Rattle.gsl_lower_holders.specs.declared.place.FlowPlace.{FlowPlace}
use Rattle.gsl_lower_needs.specs.declared.need.Need.{Need}
use Rattle.gsl_lower_types.specs.Blocks.{blocks_put, class_of, classes_of}
use Rattle.gsl_lower_types.specs.Globals.{globals_put}
use Rattle.gsl_lower_types.specs.Interfaces.{interfaces_put}
use Rattle.gsl_lower_types.specs.Known.{all}
use Rattle.gsl_lower_types.specs.Values.{program_types}
use Rattle.gsl_lower_types.proofs.Adding.{globals_add, interfaces_add}
use Rattle.gsl_lower_types.proofs.Finding.{came}
use Rattle.gsl_lower_flow.specs.Programs.{built_type, built_types, declared, nothing_laid, place, program_needs, stages}
use Rattle.gsl_lower_law_inputs.specs.OfLawOutside.{HaveOutside}
use Rattle.gsl_lower_law_inputs.proofs.OfLawOutside.{same_after, same_made}
use Rattle.gsl_lower_law_inputs.proofs.Decorated.{number_found}
use Rattle.gsl_lower_law_inputs.proofs.Puts.{EachTells}
use Rattle.gsl_lower_law_inputs.proofs.Stages.{stages_tell}
use Rattle.gsl_lower_law_bound.specs.Bound.{IsBound}
use Rattle.gsl_lower_law_bound.proofs.Blocks.{HasBlock, blocks_are_put}
use Rattle.gsl_lower_law_bound.proofs.Said.{decorations_stand, pointee_said, variable_said}

-- ---- classes

pub class_is : (target : Target) (kind : BlockKind) → is_block_class (class_of target kind) ≡ true
class_is target Uniform = refl
class_is V10 Buffer = refl
class_is V13 Buffer = refl
class_is target Push = refl

push_is : (target : Target) (kind : BlockKind) → (class_of target kind == storage_class.PUSH_CONSTANT) ≡ is_push kind
push_is target Uniform = refl
push_is V10 Buffer = refl
push_is V13 Buffer = refl
push_is target Push = refl

module _ (target : Target) (p : Program) (main : ℕ) (flow : Flow) (program : IsProgram p) (valid : Valid (module_of flow.sections main p.local_size)) (h : HaveOutside target p main flow) where
  abbrev pub m : Module
  m = module_of flow.sections main p.local_size

  abbrev pub whole : Sections
  whole = flow.sections

  abbrev pub written : Written m whole
  written = finished_written whole main p.local_size

  abbrev pub keeps : Kept m
  keeps = kept m valid

  abbrev marks : (i : Instr) → Contains whole.decorations i → Contains m.instrs i
  marks i there = decorations_stand whole main p.local_size i there

  abbrev IsThere : Block → ℕ → Type 0
  IsThere block id = HasBlock whole m keeps written marks p.structs program.typed.structs target block id

  -- Blocks stand in the module, and their classes are known.
  record BlocksStand (there : FlowPlace) : Type 0 where
    blocks : EachTells IsThere p.blocks there.blocks
    classes : there.classes ≡ classes_of target p.blocks

  blocks_stand : (asked : List Need) (there : FlowPlace) (s after : Sections) → declared target p asked s ≡ Made there after → Extends after whole → BlocksStand there
  unfolding declared built_types
  blocks_stand asked there s after made into =
      let heads = came (in_order (λ (one : Prototype). id_by call.take) p.prototypes s) _ there after made in
      let types = came (program_types p [] heads.between) _ there after heads.then_ in
      let built = came (all built_type asked types.first.1 types.between) _ there after types.then_ in
      let blocks = came (blocks_put target p.structs p.blocks nothing_laid built.between) _ there after built.then_ in
      let globals = came (globals_put p.structs p.globals built.first.1 blocks.between) _ there after blocks.then_ in
      let interfaces = came (interfaces_put p.interfaces globals.first.1 globals.between) _ there after globals.then_ in
      let ids = came (stages asked interfaces.between) _ there after interfaces.then_ in
      let put : FlowPlace = place heads.first interfaces.first.1 blocks.first.0 (classes_of target p.blocks) globals.first.0 interfaces.first.0 ids.first in
      let same : put ≡ there = same_made put there ids.between after ids.then_ in
      let end : Extends ids.between whole = subst (λ (x : Sections). Extends x whole) (sym (same_after put there ids.between after ids.then_)) into in
      let one = blocks_are_put whole m keeps written marks p.structs program.typed.structs target p.blocks built.between blocks.first blocks.between blocks.made in
      let two = globals_add p.structs p.globals built.first.1 blocks.between globals.first globals.between globals.made in
      let three = interfaces_add p.interfaces globals.first.1 globals.between interfaces.first interfaces.between interfaces.made in
      let four = (stages_tell whole asked).all interfaces.between ids.first ids.between ids.made in
      record {
        blocks = subst (λ l. EachTells IsThere p.blocks l) (ap (λ (f : FlowPlace). f.blocks) same) (one.told (extends_then two (extends_then three (extends_then four.extends end))));
        classes = ap (λ (f : FlowPlace). f.classes) (sym same);
      }

  stand : BlocksStand h.place
  stand = blocks_stand (program_needs p) h.place (empty p.stage target) h.first h.outside h.extends

  pub classes_are : h.place.classes ≡ classes_of target p.blocks
  classes_are = stand.classes

  bound : (block : Block) (id : ℕ) → IsThere block id → IsBound m p.structs block id
  bound block id has =
      let has_variable = has.has.variable in
      let v : Variable = record { type = has_variable.pointer; id = id; class = class_of target block.kind; initialiser = [] } in
      let is : variable_is (defined_as m id) ≡ Some v = variable_said m has_variable.pointer (class_of target block.kind) id None (at m keeps _ (written.globals _ has_variable.stands)) in
      record {
        variable = v;
        is = is;
        class = class_is target block.kind;
        push = ap (is_variable_of storage_class.PUSH_CONSTANT) is ∙ push_is target block.kind;
        lie = subst (λ type. lies m (layout_of p.structs block) type ≡ true) (sym (pointee_said m (class_of target block.kind) has.struct has_variable.pointer (at m keeps _ (written.globals _ has_variable.points)))) has.lie;
        set = λ bound. number_found m keeps id decoration.DESCRIPTOR_SET block.set (marks _ (has.has.bound.set_is bound));
        binding = λ bound. number_found m keeps id decoration.BINDING block.binding (marks _ (has.has.bound.binding_is bound));
      }

  pub blocks_bound : (number : ℕ) (block : Block) → slice_get p.blocks number ≡ Some block → (id : ℕ) × (slice_get h.place.blocks number ≡ Some id) × IsBound m p.structs block id
  blocks_bound number block there = let x = stand.blocks.each number block there in (x.0, x.1, bound block x.0 x.2)
