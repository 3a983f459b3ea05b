-- Where no run is due there is no more code.
use Rattle.std.proofs.Common.{◌≡◌, ℕ, [], refl}
use Rattle.gsl_words.specs.declared.module.Module.{Module}
use Rattle.gsl_valid.specs.Placed.{Code}
use Rattle.gsl_fitting.specs.Fits.{Behind, Fits, Frame}
use Rattle.gsl_fitting.specs.Fits.Fits.{over}

module _ (m : Module) (rank : ℕ → ℕ) (f : Frame) where
  pub none_due : (code : Code) → Fits m rank f code (Behind []) → code ≡ []
  none_due _ over = refl
