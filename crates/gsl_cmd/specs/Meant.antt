-- A module does what the program means that it was made of.
use Rattle.std.specs.Prelude.{◌≡◌, ℕ, List, Some}
use Rattle.std.specs.FinMap.{get}
use Rattle.gsl_base.specs.declared.input.Input.{Input}
use Rattle.gsl_base.specs.declared.input.Output.{Output}
use Rattle.gsl_host.specs.Outside.{Files, Name}
use Rattle.gsl_text.specs.Lines.{lines_of}
use Rattle.gsl_manifest.specs.Manifests.{AreManifest}
use Rattle.gsl_manifest.specs.declared.manifest.Manifest.{Manifest}
use Rattle.gsl_given.specs.Given.{Got, given}
use Rattle.gsl_words.specs.declared.module.Module.{Module}
use Rattle.gsl_tree.specs.declared.program.Program.{Program}
use Rattle.gsl_machine.specs.Fits as machine_fits
use Rattle.gsl_meaning.specs.Fits as meaning_fits
use Rattle.gsl_meaning.specs.Shader.{Ended, shader}
use Rattle.gsl_owed.specs.Runs.{IsFitting}
use Rattle.gsl_lower_law_exact.specs.Exactly.{Does, EndsExactly}
use Rattle.gsl_lower_law_exact.specs.Sizes.{IsShortFor}

-- It refuses the inputs that the program refuses, alike; and on each other input, with fewer than 2^32 bytes in each buffer where the program has
-- blocks, it does what the shader does: it ends with an output exactly when the shader does, it strays exactly when the shader does, and
-- it is never stuck.
pub record KeepsMeaning (m : Module) (p : Program) : Type 0 where
  pub fits : (input : Input) → machine_fits.fits m input ≡ meaning_fits.fits p input
  pub does : (input : Input) → IsFitting p input → IsShortFor p input → Does m p input × EndsExactly m p input

-- The shader of a program has ended with this output, on the input of the manifest of this name, which fits it.
pub record ShaderHasEnded (files : Files) (inputs : Name) (p : Program) (output : Output) : Type 0 where
  pub text : List ℕ
  pub said : Manifest
  pub input : Input
  pub read : get files inputs ≡ Some text
  pub says : AreManifest (lines_of text) said
  pub got : given files said ≡ Got input
  pub fitting : IsFitting p input
  pub units : ℕ
  pub ended : shader p units input ≡ Ended output
