-- What each function of the module of a program knows of its blocks.
use Rattle.std.proofs.Common.{◌≡◌, refl, sym, ap, ◌∙◌, subst, ℕ, true, false, List, [], ◌∷◌, slice_get, Option, Some, None}
use Rattle.std.proofs.lemmas.Bool.{false≢true}
use Rattle.gsl_base.specs.Ranges.{FitsTypes}
use Rattle.gsl_base.specs.declared.input.Input.{Input}
use Rattle.gsl_types.specs.declared.ty.Direction.{Direction}
use Rattle.gsl_types.specs.declared.ty.Ty.{Ty}
use Rattle.gsl_words.specs.declared.module.Module.{Module}
use Rattle.gsl_words.specs.declared.target.Target.{Target}
use Rattle.gsl_values.specs.declared.value.Value.{Value}
use Rattle.gsl_tree.specs.Around.{Around, member_in}
use Rattle.gsl_tree.specs.Expressions.{HasMemberType}
use Rattle.gsl_tree.specs.Trees.{type_of}
use Rattle.gsl_tree.specs.WellTyped.{IsProgram, around_body, program_lists}
use Rattle.gsl_tree.specs.declared.program.Program.{Program}
use Rattle.gsl_tree.specs.declared.unit.Block.{Block}
use Rattle.gsl_owed.specs.Runs.{IsFitting}
use Rattle.gsl_valid.specs.Valid.{Valid}
use Rattle.gsl_spv.specs.Finished.{module_of}
use Rattle.gsl_lower_holders.specs.Flow.{Flow}
use Rattle.gsl_lower_flow.specs.Reaching.{is_lowered}
use Rattle.gsl_lower_follows.specs.Frames.{Frame}
use Rattle.gsl_lower_law_entered.specs.Modules.{IsFrame}
use Rattle.gsl_lower_law_program.specs.OfLawEvaluated.{IsTyped, KnowsMember}
use Rattle.gsl_lower_law_buffers.specs.OfLawInputs.{stages_given}
use Rattle.gsl_lower_law_backed.proofs.Backed.{buffers_known}
use Rattle.gsl_lower_law_buffers.proofs.OfLawBound.{member_known}
use Rattle.gsl_lower_law_program.specs.Shaders.{AllAsked}
use Rattle.gsl_lower_law_program.specs.Standing.{HaveFunctions, outside_of}
use Rattle.gsl_lower_law_exact.specs.Sizes.{IsShortFor}
use Rattle.gsl_lower_law_exact.proofs.Apart.{apart}
use Rattle.gsl_lower_law_exact.proofs.Asked.{KnowsBlocks, blocks_asked}
use Rattle.gsl_lower_law_exact.proofs.Types.{no_member, type_whole, whole_read}

module _ (target : Target) (p : Program) (main : ℕ) (flow : Flow) (program : IsProgram p) (h : HaveFunctions target p main flow) (input : Input) (fits : FitsTypes input) where
  abbrev m : Module
  m = module_of flow.sections main p.local_size

  abbrev given : List (Option Value)
  given = stages_given h.place.stage_vars p.local_size input

  module _ (f : Frame m input flow.sections) (of_module : IsFrame m input flow.sections h.place given f) (params : List (Direction × Ty)) (locals : List Ty) (types : IsTyped p params locals) where
    abbrev around : Around
    around = around_body (program_lists p) params locals

    abbrev Knows : Type 0
    Knows = KnowsBlocks target p main flow program h input fits f params locals

    -- without blocks there is nothing to know
    none_known : p.blocks ≡ [] → Knows
    none_known none = record {
      members = λ block number t is. absurd (no_member p none params locals block number is.0 is.1);
      buffers = λ e node in_one. absurd (false≢true (sym (apart p none params locals e node) ∙ in_one));
      few = false;
      short = λ e. absurd (false≢true e);
      counts = λ a node runtime. absurd (false≢true (sym (whole_read (type_of a) (type_whole p none params locals types a node)) ∙ runtime));
    }

    module _ (valid : Valid m) (fitting : IsFitting p input) (short : IsShortFor p input) where
      member_there : (block number : ℕ) (t : Ty) → HasMemberType around block number t → KnowsMember m input flow.sections f p around block number t
      member_there block number t (one, found, same) = by (slice_get p.blocks block) refl found
        where
          by : (o : Option Block) → slice_get p.blocks block ≡ o → member_in o number ≡ Some one → KnowsMember m input flow.sections f p around block number t
          by None there found = absurd cc
          by (Some known) there found =
              subst (KnowsMember m input flow.sections f p around block number) same
              (member_known target p main flow program valid (outside_of h) input given f of_module around block number known one there found (λ runtime. short block known there))

      some_known : (first : Block) (rest : List Block) → p.blocks ≡ first ∷ rest → Knows
      some_known first rest are = record {
        members = member_there;
        buffers = λ e node in_one. buffers_known target p main flow program valid (outside_of h) input fitting.proper fitting.fits given f of_module;
        few = true;
        short = λ e. short 0 first (ap (λ (blocks : List Block). slice_get blocks 0) are);
        counts = λ a node runtime. refl;
      }

      all_known : Knows
      all_known = by p.blocks refl
        where
          by : (blocks : List Block) → p.blocks ≡ blocks → Knows
          by [] none = none_known none
          by (first ∷ rest) are = some_known first rest are

-- ---- laws

pub blockless_asked : (target : Target) (p : Program) (main : ℕ) (flow : Flow) → IsProgram p → p.blocks ≡ [] → (h : HaveFunctions target p main flow) → (input : Input) → FitsTypes input
    → AllAsked (module_of flow.sections main p.local_size) input flow.sections p h.place (stages_given h.place.stage_vars p.local_size input) (is_lowered p)
blockless_asked target p main flow program none h input fits =
    blocks_asked target p main flow program h input fits (λ f of_module params locals types. none_known target p main flow program h input fits f of_module params locals types none)

pub programs_asked : (target : Target) (p : Program) (main : ℕ) (flow : Flow) → IsProgram p → Valid (module_of flow.sections main p.local_size) → (h : HaveFunctions target p main flow) → (input : Input) → IsFitting p input → IsShortFor p input
    → AllAsked (module_of flow.sections main p.local_size) input flow.sections p h.place (stages_given h.place.stage_vars p.local_size input) (is_lowered p)
programs_asked target p main flow program valid h input fitting short =
    blocks_asked target p main flow program h input fitting.types (λ f of_module params locals types. all_known target p main flow program h input fitting.types f of_module params locals types valid fitting short)
