-- What a builder holds at first and in the end.
use Rattle.std.proofs.Common.{◌≡◌, ℕ, ◌+◌, List, [], Some, None, refl, arith}
use Rattle.gsl_base.specs.declared.stage.Stage.{Stage}
use Rattle.gsl_words.specs.declared.module.Module.{Module}
use Rattle.gsl_words.specs.declared.target.Target.{Target}
use Rattle.gsl_valid.specs.Search.{passed}
use Rattle.gsl_spv.specs.Calls.{declare}
use Rattle.gsl_spv.specs.Declarations.{Declaration, defining}
use Rattle.gsl_spv.specs.Finished.{module_of}
use Rattle.gsl_spv.specs.Sections.{Sections, empty}
use Rattle.gsl_fitting_sections.specs.Sections.{AreSound, IsDeclaration}
use Rattle.gsl_fitting_steps.specs.Keeping.{Fine, IsWhole, defined_by}
use Rattle.gsl_fitting_steps.proofs.Declaring.{declare_fine}

pub begun_fine : (m : Module) (stage : Stage) (target : Target) → Fine m (empty stage target)
begun_fine m stage target = record {
  set = None;
  imports = refl;
  names = tt;
  decorations = tt;
  globals = tt;
  apart = record { once = λ id. omega arith; least = λ id h. absurd (omega (arith, h)); below = λ id h. absurd (omega (arith, h)) };
}

pub declaring_fine : (m : Module) (d : Declaration) (s : Sections) → defined_by (defining d (s.last + 1)) ≡ Some (s.last + 1) → IsDeclaration m (passed [] s.globals) (defining d (s.last + 1)) → Fine m s → Fine m (declare d s).sections
declaring_fine m d s is may h = declare_fine m d s may is h

pub sound_of : (s : Sections) (main : ℕ) (local_size : List ℕ) → Fine (module_of s main local_size) s → IsWhole s main local_size → AreSound s main local_size
sound_of s main local_size h w = record {
  set = h.set;
  rank = w.rank;
  bound = w.bound;
  apart = h.apart;
  imports = h.imports;
  names = h.names;
  decorations = h.decorations;
  globals = h.globals;
  functions = w.functions;
  shallow = w.shallow;
  main_is = w.main_is;
  uncalled = w.uncalled;
  sizes = w.sizes;
}
