-- What a run owes over the files that are told, where no call of the host fails but the reading of an absent name: its status, what it prints, and what it reaches for.
use Rattle.std.specs.Prelude.{◌≡◌, ℕ, List, [], ◌∷◌, ◌++◌, length, nat_lt, Option, Some, None, Result, Ok, Err, if◌then◌else◌}
use Rattle.std.specs.FinMap.{get}
use Rattle.gsl_base.specs.declared.fault.Code.TheVariants.{E0900}
use Rattle.gsl_base.specs.declared.input.Input.{Input}
use Rattle.gsl_base.specs.declared.stage.Stage.{Stage}
use Rattle.gsl_base.specs.Checked.{Checked}
use Rattle.gsl_host.specs.declared.target.Stream.TheVariants as stream
use Rattle.gsl_host.specs.declared.target.Target.{Target}
use Rattle.gsl_host.specs.declared.target.Target.TheVariants.{Reading, Printing}
use Rattle.gsl_host.specs.Outside.{Files, Name}
use Rattle.gsl_text.specs.Lines.{lines_of}
use Rattle.gsl_manifest.specs.declared.manifest.Manifest.{Manifest}
use Rattle.gsl_manifest.specs.Listing.{listing_of}
use Rattle.gsl_manifest.specs.Manifests.{AreManifest, BreaksAt}
use Rattle.gsl_inputs.specs.Demands.{Met}
use Rattle.gsl_given.specs.declared.given.TheConstants.{MAX_MANIFEST_BYTES}
use Rattle.gsl_given.specs.Given as given
use Rattle.gsl_given.specs.Texts.{line_text, long_text, misfit_text}
use Rattle.gsl_tree.specs.declared.program.Program.{Program}
use Rattle.gsl_meaning.specs.Fits.{fits}
use Rattle.gsl_meaning.specs.Shader.{Outcome, Ended, Strayed, Going, shader}
use Rattle.gsl_cmd.specs.Job.{Job, Effect, Gathered, Sources, Absent, TooLong, failed, gather, reads, refused}
use Rattle.gsl_cmd.specs.Verdict.{fault_in, linked_of}
use Rattle.gsl_reference.specs.Asked.{Asked}
use Rattle.gsl_reference.specs.Texts.{going_text, strayed_text}

-- the job that ends with a text on standard error
abbrev pub told : ℕ → List ℕ → List Target → Job
told status text targets = record { status = status; out = []; err = text; effect = Effect.Keeps; targets = targets }

-- the job that ends with a listing on standard output
abbrev pub listed : List ℕ → List Target → Job
listed text targets = record { status = 0; out = text; err = []; effect = Effect.Keeps; targets = targets ++ Printing stream.Out ∷ [] }

-- ---- the run: what was reached for before it is handed on

-- what the shader came to
abbrev pub came_to : List Target → Outcome → Job
came_to targets (Ended output) = listed (listing_of output) targets
came_to targets Going = told 5 going_text targets
came_to targets Strayed = told 6 strayed_text targets

-- whether the input fits
abbrev pub run_if : List Target → Program → ℕ → Input → Met → Job
run_if targets p units input (Ok fitting) = came_to targets (shader p units input)
run_if targets p units input (Err refusal) = told 7 (misfit_text refusal) targets

-- what was found of the files that the manifest names
abbrev pub run_on : List Target → Program → ℕ → given.Found Input → Job
run_on targets p units (given.Got input) = run_if targets p units input (fits p input)
run_on targets p units given.Absent = failed targets
run_on targets p units (given.TooLong line) = told 7 (line_text line) targets

-- what the manifest says, or its first line that no manifest has there
abbrev pub run_by : Files → List Target → Program → Result Manifest ℕ → Job
run_by files targets p (Ok m) = run_on (targets ++ given.reads files (given.names_of m)) p m.steps (given.given files m)
run_by files targets p (Err line) = told 7 (line_text line) targets

abbrev pub Says : List ℕ → Result Manifest ℕ → Type 0
Says bytes (Ok m) = AreManifest (lines_of bytes) m
Says bytes (Err line) = BreaksAt (lines_of bytes) line

-- Bytes are those of a manifest, or have such a line.
abbrev pub AreRead : Type 0
AreRead = (bytes : List ℕ) → (said : Result Manifest ℕ) × Says bytes said

-- the program that the sources make, or their first fault; it comes before what is wrong with the manifest
abbrev pub IsProgramJob : Files → List Name → List ℕ → List Target → Job → Checked Program → Type 0
IsProgramJob files names bytes targets job (Ok p) = (said : Result Manifest ℕ) × Says bytes said × (job ≡ run_by files targets p said)
IsProgramJob files names bytes targets job (Err fault) = job ≡ refused names targets fault

-- What reading the file of a manifest gives.
pub data Manifested : Type 0 where
  Missing : Manifested
  Longer : Manifested
  Whole : (bytes : List ℕ) → Manifested

abbrev pub manifested : Option (List ℕ) → Manifested
manifested None = Missing
manifested (Some bytes) = if nat_lt MAX_MANIFEST_BYTES (length bytes) then Longer else Whole bytes

-- the manifest's file, which is read behind the sources and before they are compiled
abbrev pub IsInputsJob : Files → Stage → List Name → List (List ℕ) → List Target → Job → Manifested → Type 0
IsInputsJob files stage names sources targets job Missing = job ≡ failed targets
IsInputsJob files stage names sources targets job Longer = job ≡ told 7 long_text targets
IsInputsJob files stage names sources targets job (Whole bytes) = IsProgramJob files names bytes targets job (linked_of stage sources)

-- the manifest's file, with what is reached for before it
abbrev pub IsBehindSources : Asked → Files → List (List ℕ) → List Target → Job → Type 0
IsBehindSources asked files sources targets job =
    IsInputsJob files asked.stage asked.sources sources (targets ++ Reading asked.inputs ∷ []) job (manifested (get files asked.inputs))

-- the source files
abbrev pub IsSourcesJob : Asked → Files → List Target → Job → Gathered → Type 0
IsSourcesJob asked files targets job Absent = job ≡ failed targets
IsSourcesJob asked files targets job (TooLong unit) = job ≡ refused asked.sources targets (fault_in unit E0900)
IsSourcesJob asked files targets job (Sources sources) = IsBehindSources asked files sources targets job

-- The job of what the words ask for, over the files that are told.
abbrev pub IsJob : Asked → Files → Job → Type 0
IsJob asked files job = IsSourcesJob asked files (reads files asked.sources) job (gather files 0 asked.sources)
