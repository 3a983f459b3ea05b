-- The module of a program does what the shader does.
use Rattle.std.proofs.Common.{◌≡◌, refl, sym, subst, ℕ, Some}
use Rattle.gsl_base.specs.declared.input.Input.{Input}
use Rattle.gsl_words.specs.declared.module.Module.{Module}
use Rattle.gsl_words.specs.declared.target.Target.{Target}
use Rattle.gsl_tree.specs.WellTyped.{IsProgram}
use Rattle.gsl_tree.specs.declared.program.Program.{Program}
use Rattle.gsl_owed.specs.Runs.{IsFitting}
use Rattle.gsl_valid.specs.Valid.{Valid}
use Rattle.gsl_spv.specs.Finished.{module_of}
use Rattle.gsl_spv.specs.Sections.{empty}
use Rattle.gsl_lower_holders.specs.Flow.{Flow, Gives, Lacks, Lowered}
use Rattle.gsl_lower_flow.specs.Programs.{lowered, module_by, module_for}
use Rattle.gsl_lower_flow.specs.Reaching.{is_lowered}
use Rattle.gsl_lower_law_buffers.specs.OfLawInputs.{stages_given}
use Rattle.gsl_lower_law_linked.specs.Nesting.{AreOnce, MayNest}
use Rattle.gsl_lower_law_program.specs.Shaders.{AllAsked}
use Rattle.gsl_lower_law_program.specs.Standing.{HaveFunctions}
use Rattle.gsl_lower_law_program.proofs.Main.{program_ends}
use Rattle.gsl_lower_law_program.proofs.Stood.{functions_stand}
use Rattle.gsl_lower_law_exact.specs.Exactly.{Does}
use Rattle.gsl_lower_law_exact.proofs.Alike.{begin_alike}
use Rattle.gsl_lower_law_exact.proofs.Exactly.{does_as_shader}

pub do_as_shaders : (target : Target) (p : Program) (main : ℕ) (flow : Flow) → IsProgram p → MayNest p → AreOnce p → lowered target p (empty p.stage target) ≡ Gives main flow → Valid (module_of flow.sections main p.local_size) → (h : HaveFunctions target p main flow) → (input : Input) → IsFitting p input
    → AllAsked (module_of flow.sections main p.local_size) input flow.sections p h.place (stages_given h.place.stage_vars p.local_size input) (is_lowered p) → Does (module_of flow.sections main p.local_size) p input
do_as_shaders target p main flow program nests once lowers valid h input fitting asked =
    does_as_shader (module_of flow.sections main p.local_size) p input
    (program_ends target p main flow program nests once valid h input (stages_given h.place.stage_vars p.local_size input) asked (begin_alike target p main flow program lowers valid h input fitting))

-- ---- as it is lowered

-- what is asked of the expressions in the functions of a program is so, however it is lowered
abbrev pub AskedOf : Target → Program → Input → Type 0
AskedOf target p input = (main : ℕ) (flow : Flow) → Valid (module_of flow.sections main p.local_size) → (h : HaveFunctions target p main flow) → AllAsked (module_of flow.sections main p.local_size) input flow.sections p h.place (stages_given h.place.stage_vars p.local_size input) (is_lowered p)

module _ (target : Target) (p : Program) (program : IsProgram p) (nests : MayNest p) (once : AreOnce p) (input : Input) (fitting : IsFitting p input) (asked : AskedOf target p input) (m : Module) (valid : Valid m) where
  lowered_does : (main : ℕ) (flow : Flow) → lowered target p (empty p.stage target) ≡ Gives main flow → Valid (module_of flow.sections main p.local_size) → Does (module_of flow.sections main p.local_size) p input
  lowered_does main flow lowers valid =
      let h = functions_stand p program.typed target main flow lowers valid in
      do_as_shaders target p main flow program nests once lowers valid h input fitting (asked main flow valid h)

  by_lowered : (how : Lowered ℕ) → lowered target p (empty p.stage target) ≡ how → module_by p how ≡ Some m → Does m p input
  by_lowered (Gives main flow) lowers is =
      let same : module_of flow.sections main p.local_size ≡ m = cc in
      subst (λ n. Does n p input) same (lowered_does main flow lowers (subst Valid (sym same) valid))
  by_lowered Lacks lowers is = absurd cc

  pub made_does : module_for target p ≡ Some m → Does m p input
  unfolding module_for
  made_does made = by_lowered (lowered target p (empty p.stage target)) refl made
