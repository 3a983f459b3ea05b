-- The steps of a run in the code, against what it owes.
use Rattle.std.specs.Prelude.{◌≡◌, ◌≢◌, ◌<◌, ◌≤◌, ℕ, List, [], Option, Some, None, Result, Ok, Err, Contains, IsSomeAnd, length}
use Rattle.std.specs.FinMap.{get}
use Rattle.gsl_base.specs.declared.input.Input.{Input}
use Rattle.gsl_host.specs.declared.target.Stream.TheVariants as stream
use Rattle.gsl_host.specs.declared.target.Target.{Target}
use Rattle.gsl_host.specs.declared.target.Target.TheVariants.{Printing}
use Rattle.gsl_host.specs.Outside.{Files, Name, Rose}
use Rattle.gsl_given.specs.declared.stop.Stop.{Stop as GivenStop}
use Rattle.gsl_given.specs.declared.stop.Stop.TheVariants as given
use Rattle.gsl_manifest.specs.declared.manifest.Manifest.{Manifest}
use Rattle.gsl_words.specs.declared.fault.WordFault.{WordFault}
use Rattle.gsl_words.specs.declared.fault.WordFault.TheVariants.{Memory}
use Rattle.gsl_words.specs.declared.module.Module.{Module}
use Rattle.gsl_valid.specs.Valid.{Valid}
use Rattle.gsl_sound.specs.Sound.{IsNeverStuck}
use Rattle.gsl_exec.specs.declared.reading.TheConstants.{MAX_MODULE_BYTES}
use Rattle.gsl_exec.specs.declared.stop.Stop.{Stop}
use Rattle.gsl_exec.specs.declared.stop.Stop.TheVariants as stop
use Rattle.gsl_exec.specs.Judged.{JudgesFile, refusal_of}
use Rattle.gsl_exec.specs.Owed.{Owed, Says}
use Rattle.gsl_exec.specs.Texts.{module_long_text, word_text}

-- The end that a line tells, with its status, which is one of 5 to 8.
pub record Tells (owed : Owed) (status : ℕ) (text : List ℕ) : Type 0 where
  pub ends : owed.status ≡ status
  pub quiet : owed.out ≡ []
  pub says : owed.err ≡ text
  pub least : 5 ≤ status
  pub most : status ≤ 8

-- The end with a listing.
pub record Lists (owed : Owed) (text : List ℕ) : Type 0 where
  pub status : owed.status ≡ 0
  pub out : owed.out ≡ text
  pub err : owed.err ≡ []
  pub reached : Contains owed.targets (Printing stream.Out)

-- What a step that ended so has done of what is owed, up to what is printed. `Failing` is what is known where the host failed.
abbrev pub Comes : Type 0 → Owed → Result (List ℕ) Stop → Type 0
Comes Failing owed (Ok text) = Lists owed text
Comes Failing owed (Err (stop.Told status text)) = Tells owed status text
Comes Failing owed (Err stop.Host) = Failing
Comes Failing owed (Err stop.Memory) = Unit {0}

-- The faults rose of something that is reached for.
abbrev pub Reaches : (Target → ℕ) → (Target → ℕ) → Owed → Type 0
Reaches faults faults' owed = (target : Target) × Contains owed.targets target × Rose faults faults' target

-- A line is told with a status of 5 to 8.
abbrev pub HasStatus : Result (List ℕ) Stop → Type 0
HasStatus (Ok text) = Unit {0}
HasStatus (Err (stop.Told status text)) = (5 ≤ status) × (status ≤ 8)
HasStatus (Err stop.Host) = Unit {0}
HasStatus (Err stop.Memory) = Unit {0}

-- So much is owed, of which a step that ended so has done so much.
abbrev pub Ends : (Owed → Type 0) → (Target → ℕ) → (Target → ℕ) → Result (List ℕ) Stop → Type 0
Ends IsIts faults faults' end = (owed : Owed) × IsIts owed × Comes (Reaches faults faults' owed) owed end

-- Bytes are those of a manifest, or have a first line that is none of one.
abbrev pub AreRead : Type 0
AreRead = (bytes : List ℕ) → (said : Result Manifest ℕ) × Says bytes said

-- No run of a valid module on an input that fits is stuck.
abbrev pub NeverStuck : Type 0
NeverStuck = (m : Module) (input : Input) → IsNeverStuck m input

-- why there is no input
abbrev pub stopped : GivenStop → Stop
stopped (given.Refused text) = stop.Told 7 text
stopped given.Host = stop.Host
stopped given.Memory = stop.Memory

-- A line that is told with a status, unless memory was wanting.
abbrev pub IsLine : ℕ → List ℕ → Stop → Type 0
IsLine status text (stop.Told of line) = (of ≡ status) × (line ≡ text)
IsLine status text stop.Memory = Unit {0}
IsLine status text stop.Host = ⊥

-- What judging the bytes of a module's file comes to.
abbrev pub JudgesBytes : List ℕ → Result Module Stop → Type 0
JudgesBytes bytes (Ok m) = JudgesFile bytes (Ok m) × (refusal_of (Ok m) ≡ None) × Valid m
JudgesBytes bytes (Err (stop.Told status text)) =
    (status ≡ 8) × ((verdict : Result Module WordFault) × JudgesFile bytes verdict × (refusal_of verdict ≡ Some text))
JudgesBytes bytes (Err stop.Memory) = Unit {0}
JudgesBytes bytes (Err stop.Host) = ⊥

-- What validating a module comes to.
abbrev pub JudgesModule : Module → Result Module Stop → Type 0
JudgesModule m (Ok valid) = (valid ≡ m) × (refusal_of (Ok m) ≡ None) × Valid m
JudgesModule m (Err (stop.Told status text)) = (status ≡ 8) × (refusal_of (Ok m) ≡ Some text)
JudgesModule m (Err stop.Memory) = Unit {0}
JudgesModule m (Err stop.Host) = ⊥

-- Why a fault of a module's file stops a run: it is told, unless memory was wanting.
abbrev pub Rejects : WordFault → Stop → Type 0
Rejects fault (stop.Told status text) = (fault ≢ Memory) × (status ≡ 8) × (text ≡ word_text fault)
Rejects fault stop.Memory = Unit {0}
Rejects fault stop.Host = ⊥

-- What reading the file of a module answers where the files are told.
abbrev pub ReadsModuleTold : Files → Name → Result (List ℕ) Stop → Type 0
ReadsModuleTold files name (Ok bytes) = (get files name ≡ Some bytes) × (length bytes ≤ MAX_MODULE_BYTES)
ReadsModuleTold files name (Err (stop.Told status text)) =
    IsSomeAnd (get files name) (λ bytes. MAX_MODULE_BYTES < length bytes) × (status ≡ 8) × (text ≡ module_long_text)
ReadsModuleTold files name (Err _) = Unit {0}

abbrev pub ReadsModule : Option Files → Name → Result (List ℕ) Stop → Type 0
ReadsModule (Some files) name answer = ReadsModuleTold files name answer
ReadsModule None name answer = Unit {0}
