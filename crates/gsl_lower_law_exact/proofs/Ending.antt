-- The module that a program is lowered to ends exactly as the shader does, and refuses the same inputs.
use Rattle.std.proofs.Common.{◌≡◌, refl, sym, subst, ℕ, [], Some}
use Rattle.gsl_base.specs.declared.input.Input.{Input}
use Rattle.gsl_words.specs.declared.module.Module.{Module}
use Rattle.gsl_words.specs.declared.target.Target.{Target}
use Rattle.gsl_tree.specs.WellTyped.{IsProgram}
use Rattle.gsl_tree.specs.declared.program.Program.{Program}
use Rattle.gsl_machine.specs.Fits as machine_fits
use Rattle.gsl_meaning.specs.Fits as meaning_fits
use Rattle.gsl_owed.specs.Runs.{IsFitting}
use Rattle.gsl_valid.specs.Valid.{Valid}
use Rattle.gsl_spv.specs.Finished.{module_of}
use Rattle.gsl_spv.specs.Sections.{empty}
use Rattle.gsl_lower_holders.specs.Flow.{Flow, Gives, Lacks, Lowered}
use Rattle.gsl_lower_flow.specs.Programs.{lowered, module_by, module_for}
use Rattle.gsl_lower_law_asking.proofs.Alike.{lowered_fits}
use Rattle.gsl_lower_law_linked.specs.Nesting.{AreOnce, MayNest}
use Rattle.gsl_lower_law_program.specs.Standing.{outside_of}
use Rattle.gsl_lower_law_program.proofs.Stood.{functions_stand}
use Rattle.gsl_lower_law_exact.specs.Exactly.{Does, EndsExactly}
use Rattle.gsl_lower_law_exact.specs.Sizes.{IsShortFor}
use Rattle.gsl_lower_law_exact.proofs.Blocks.{blockless_asked, programs_asked}
use Rattle.gsl_lower_law_exact.proofs.Doing.{made_does}
use Rattle.gsl_lower_law_exact.proofs.Exactly.{ends_exactly}

module _ (target : Target) (p : Program) (m : Module) (program : IsProgram p) (nests : MayNest p) (once : AreOnce p) where
  pub program_ends : module_for target p ≡ Some m → Valid m → (input : Input) → IsFitting p input → IsShortFor p input → Does m p input × EndsExactly m p input
  program_ends made valid input fitting short =
      let does = made_does target p program nests once input fitting (λ main flow valid h. programs_asked target p main flow program valid h input fitting short) m valid made in
      (does, ends_exactly m p input does)

  pub blockless_ends : p.blocks ≡ [] → module_for target p ≡ Some m → Valid m → (input : Input) → IsFitting p input → Does m p input × EndsExactly m p input
  blockless_ends none made valid input fitting =
      let does = made_does target p program nests once input fitting (λ main flow valid h. blockless_asked target p main flow program none h input fitting.types) m valid made in
      (does, ends_exactly m p input does)

-- ---- which inputs fit

module _ (target : Target) (p : Program) (m : Module) (program : IsProgram p) (valid : Valid m) (input : Input) where
  lowered_fit : (main : ℕ) (flow : Flow) → lowered target p (empty p.stage target) ≡ Gives main flow → Valid (module_of flow.sections main p.local_size) → machine_fits.fits (module_of flow.sections main p.local_size) input ≡ meaning_fits.fits p input
  lowered_fit main flow lowers valid_so = lowered_fits target p main flow program lowers valid_so (outside_of (functions_stand p program.typed target main flow lowers valid_so)) input

  by_lowered : (how : Lowered ℕ) → lowered target p (empty p.stage target) ≡ how → module_by p how ≡ Some m → machine_fits.fits m input ≡ meaning_fits.fits p input
  by_lowered (Gives main flow) lowers is =
      let same : module_of flow.sections main p.local_size ≡ m = cc in
      subst (λ n. machine_fits.fits n input ≡ meaning_fits.fits p input) same (lowered_fit main flow lowers (subst Valid (sym same) valid))
  by_lowered Lacks lowers is = absurd cc

  made_fits : module_for target p ≡ Some m → machine_fits.fits m input ≡ meaning_fits.fits p input
  unfolding module_for
  made_fits made = by_lowered (lowered target p (empty p.stage target)) refl made

pub program_fits : (target : Target) (p : Program) (m : Module) → IsProgram p → module_for target p ≡ Some m → Valid m → (input : Input) → machine_fits.fits m input ≡ meaning_fits.fits p input
program_fits target p m program made valid input = made_fits target p m program valid input made
