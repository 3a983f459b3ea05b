-- What a run that ended well has done, and what a run may reach for.
use Rattle.std.specs.Prelude.{◌≡◌, ℕ, List, Option, Some, None, Ok}
use Rattle.std.specs.FinMap.{get}
use Rattle.gsl_base.specs.declared.input.Input.{Input}
use Rattle.gsl_base.specs.declared.input.Output.{Output}
use Rattle.gsl_host.specs.declared.target.Target.{Target}
use Rattle.gsl_host.specs.declared.target.Target.TheVariants.{Reading}
use Rattle.gsl_host.specs.Outside.{Files, Name}
use Rattle.gsl_text.specs.Lines.{lines_of}
use Rattle.gsl_manifest.specs.declared.manifest.Manifest.{Manifest}
use Rattle.gsl_manifest.specs.Manifests.{AreManifest}
use Rattle.gsl_given.specs.Given.{Got, IsNamed, given}
use Rattle.gsl_words.specs.declared.module.Module.{Module}
use Rattle.gsl_machine.specs.Fits.{fits}
use Rattle.gsl_machine.specs.Machine.{after}
use Rattle.gsl_machine.specs.State.{Ended}

-- The module has ended with this output, within its steps, on the input of the manifest of this name.
pub record HasEnded (files : Files) (inputs : Name) (m : Module) (output : Output) : Type 0 where
  pub text : List ℕ
  pub said : Manifest
  pub input : Input
  pub read : get files inputs ≡ Some text
  pub says : AreManifest (lines_of text) said
  pub got : given files said ≡ Got input
  pub fit : fits m input ≡ Ok tt
  pub ended : after m said.steps input ≡ Ended output

-- The file is one that the manifest of this name names. Where the files are not told, it may be any.
abbrev pub MayName : Option Files → Name → Target → Type 0
MayName (Some files) inputs target = (text : List ℕ) × (said : Manifest) × (get files inputs ≡ Some text) × AreManifest (lines_of text) said × IsNamed said target
MayName None inputs target = (name : Name) × (Reading name ≡ target)
