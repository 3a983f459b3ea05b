-- Each text is that of a manifest, or has a first line that is none of one.
use Rattle.std.proofs.Common.{ℕ, List, Ok, Err, inl, inr, ◌⊎◌}
use Rattle.gsl_text.specs.Lines.{lines_of}
use Rattle.gsl_manifest.specs.declared.manifest.Manifest.{Manifest}
use Rattle.gsl_manifest.specs.Manifests.{AreManifest, BreaksAt}
use Rattle.gsl_reference.specs.Owed.{AreRead}

pub read_each : ((lines : List (List ℕ)) → ((m : Manifest) × AreManifest lines m) ⊎ ((n : ℕ) × BreaksAt lines n)) → AreRead
read_each either bytes =
    elim (either (lines_of bytes)) [
      | inl (m, is) ↦ (Ok m, is)
      | inr (n, breaks) ↦ (Err n, breaks)
    ]
