-- What `exec MODULE INPUTS` owes over the files that are told, where no call of the host fails but the reading of an absent name.
use Rattle.std.specs.Prelude.{◌≡◌, ℕ, List, [], ◌∷◌, ◌++◌, length, nat_lt, Option, Some, None, Result, Ok, Err, if◌then◌else◌}
use Rattle.std.specs.FinMap.{get}
use Rattle.gsl_base.specs.declared.input.Input.{Input}
use Rattle.gsl_host.specs.declared.target.Stream.TheVariants as stream
use Rattle.gsl_host.specs.declared.target.Target.{Target}
use Rattle.gsl_host.specs.declared.target.Target.TheVariants.{Reading, Printing}
use Rattle.gsl_host.specs.Outside.{Files, Name}
use Rattle.gsl_text.specs.Lines.{lines_of}
use Rattle.gsl_manifest.specs.declared.manifest.Manifest.{Manifest}
use Rattle.gsl_manifest.specs.Listing.{listing_of}
use Rattle.gsl_manifest.specs.Manifests.{AreManifest, BreaksAt}
use Rattle.gsl_inputs.specs.Demands.{Met}
use Rattle.gsl_given.specs.declared.given.TheConstants.{MAX_MANIFEST_BYTES}
use Rattle.gsl_given.specs.Given as given
use Rattle.gsl_given.specs.Texts.{line_text, long_text, misfit_text}
use Rattle.gsl_words.specs.declared.fault.WordFault.{WordFault}
use Rattle.gsl_words.specs.declared.module.Module.{Module}
use Rattle.gsl_machine.specs.Fits.{fits}
use Rattle.gsl_machine.specs.Machine.{after}
use Rattle.gsl_machine.specs.State.{Outcome, Ended, Going, Strayed, Stuck}
use Rattle.gsl_exec.specs.declared.reading.TheConstants.{MAX_MODULE_BYTES}
use Rattle.gsl_exec.specs.Judged.{JudgesFile, refusal_of}
use Rattle.gsl_exec.specs.Texts.{host_text, module_long_text, going_text, strayed_text}

-- The status, the texts on standard output and standard error, and what is reached for. All files are kept.
pub record Owed : Type 0 where
  pub status : ℕ
  pub out : List ℕ
  pub err : List ℕ
  pub targets : List Target

-- ends with a text on standard error
abbrev pub told : ℕ → List ℕ → List Target → Owed
told status text targets = record { status = status; out = []; err = text; targets = targets }

-- a file is absent
abbrev pub failed : List Target → Owed
failed targets = told 3 host_text targets

-- ends with a listing on standard output
abbrev pub listed : List ℕ → List Target → Owed
listed text targets = record { status = 0; out = text; err = []; targets = targets ++ Printing stream.Out ∷ [] }

-- What reading a file gives.
pub data Read : Type 0 where
  Missing : Read
  Longer : Read
  Whole : (bytes : List ℕ) → Read

-- a file of at most so many bytes
abbrev pub read_of : ℕ → Option (List ℕ) → Read
read_of most None = Missing
read_of most (Some bytes) = if nat_lt most (length bytes) then Longer else Whole bytes

-- ---- the run: what was reached for before it is handed on

-- what the module came to; none is ever stuck here
abbrev pub IsCame : List Target → Owed → Outcome → Type 0
IsCame targets owed (Ended output) = owed ≡ listed (listing_of output) targets
IsCame targets owed (Going state) = owed ≡ told 5 going_text targets
IsCame targets owed (Strayed place) = owed ≡ told 6 (strayed_text place) targets
IsCame targets owed Stuck = ⊥

-- whether the input fits
abbrev pub IsTested : List Target → Module → ℕ → Input → Owed → Met → Type 0
IsTested targets m steps input owed (Ok fitting) = IsCame targets owed (after m steps input)
IsTested targets m steps input owed (Err refusal) = owed ≡ told 7 (misfit_text refusal) targets

-- what was found of the files that the manifest names
abbrev pub IsGiven : List Target → Module → ℕ → Owed → given.Found Input → Type 0
IsGiven targets m steps owed (given.Got input) = IsTested targets m steps input owed (fits m input)
IsGiven targets m steps owed given.Absent = owed ≡ failed targets
IsGiven targets m steps owed (given.TooLong line) = owed ≡ told 7 (line_text line) targets

-- what the manifest says, or its first line that no manifest has there
abbrev pub IsSaid : Files → List Target → Module → Owed → Result Manifest ℕ → Type 0
IsSaid files targets m owed (Ok said) = IsGiven (targets ++ given.reads files (given.names_of said)) m said.steps owed (given.given files said)
IsSaid files targets m owed (Err line) = owed ≡ told 7 (line_text line) targets

abbrev pub Says : List ℕ → Result Manifest ℕ → Type 0
Says bytes (Ok m) = AreManifest (lines_of bytes) m
Says bytes (Err line) = BreaksAt (lines_of bytes) line

-- the module of a file, or the line that refuses the file, which comes before what is wrong with the manifest
abbrev pub IsTaken : Files → List ℕ → List Target → Owed → Result Module WordFault → Option (List ℕ) → Type 0
IsTaken files text targets owed verdict (Some line) = owed ≡ told 8 line targets
IsTaken files text targets owed (Ok m) None = (said : Result Manifest ℕ) × Says text said × IsSaid files targets m owed said
IsTaken files text targets owed (Err fault) None = ⊥

-- the module's bytes are judged
abbrev pub IsJudged : Files → List ℕ → List ℕ → List Target → Owed → Type 0
IsJudged files bytes text targets owed =
    (verdict : Result Module WordFault) × JudgesFile bytes verdict × IsTaken files text targets owed verdict (refusal_of verdict)

-- the manifest's file, which is read behind that of the module and before that is judged
abbrev pub IsBehind : Files → List ℕ → List Target → Owed → Read → Type 0
IsBehind files bytes targets owed Missing = owed ≡ failed targets
IsBehind files bytes targets owed Longer = owed ≡ told 7 long_text targets
IsBehind files bytes targets owed (Whole text) = IsJudged files bytes text targets owed

-- the module's file
abbrev pub IsRead : Name → Name → Files → Owed → Read → Type 0
IsRead file inputs files owed Missing = owed ≡ failed (Reading file ∷ [])
IsRead file inputs files owed Longer = owed ≡ told 8 module_long_text (Reading file ∷ [])
IsRead file inputs files owed (Whole bytes) =
    IsBehind files bytes (Reading file ∷ Reading inputs ∷ []) owed (read_of MAX_MANIFEST_BYTES (get files inputs))

-- What is owed over the files that are told.
abbrev pub IsOwed : Name → Name → Files → Owed → Type 0
IsOwed file inputs files owed = IsRead file inputs files owed (read_of MAX_MODULE_BYTES (get files file))
