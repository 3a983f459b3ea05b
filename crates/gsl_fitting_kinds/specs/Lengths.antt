-- Variables of blocks that end with an array of unknown length (SPIR-V 1.0, 3.32.8).
use Rattle.std.specs.Prelude.{◌≡◌, ℕ, true, List, []}
use Rattle.gsl_words.specs.declared.module.Module.{Module}
use Rattle.gsl_valid.specs.CallRules.{target}
use Rattle.gsl_valid.specs.Kinds.{variable_is}
use Rattle.gsl_valid.specs.MemoryRules.{grows, stores}
use Rattle.gsl_valid.specs.Types.{defined_as}
use Rattle.gsl_spv.specs.Sections.{Sections}
use Rattle.gsl_fitting.specs.Fits.{Frame, is_known}
use Rattle.gsl_fitting_types.specs.Making.{made}

module _ (whole : Sections) (main : ℕ) (local_size : List ℕ) (rank : ℕ → ℕ) (f : Frame) where
  abbrev m : Module
  m = made whole main local_size rank f

  -- A variable of a storage block, which any block of a function may use, has an array of unknown length as its member of a number.
  pub record HasLength (number id : ℕ) : Type 0 where
    pub known : is_known m f [] id ≡ true
    pub stores : stores m (variable_is (defined_as m id)) ≡ true
    pub grows : grows m number (target m id) ≡ true
