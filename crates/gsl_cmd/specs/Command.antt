-- The steps of a command in the code, against the job of its plan.
use Rattle.std.specs.Prelude.{◌≡◌, ◌≢◌, ◌<◌, ◌≤◌, length, IsSomeAnd, ℕ, List, [], ◌++◌, Option, Some, None, Result, Ok, Err, Contains, ◌⊎◌}
use Rattle.gsl_host.specs.declared.target.Stream.TheVariants as stream
use Rattle.gsl_host.specs.declared.target.Target.{Target}
use Rattle.gsl_host.specs.declared.target.Target.TheVariants.{Printing}
use Rattle.gsl_host.specs.Outside.{Files, Appends, AppendsSome, Rose}
use Rattle.gsl_cmd.specs.declared.stop.Stop.{Stop}
use Rattle.gsl_cmd.specs.declared.stop.Stop.TheVariants as stop
use Rattle.gsl_form.specs.Form.{Name}
use Rattle.gsl_cmd.specs.Checking.{Checks}
use Rattle.gsl_cmd.specs.Job.{Job, IsJob, Effect, Gathered, Sources, Absent, TooLong}
use Rattle.gsl_cmd.specs.Performs.{effect_on, KeepsAllBut, Prints}
use Rattle.gsl_plan.specs.Plan.{Plan}
use Rattle.gsl_cmd.specs.Texts.{told_fault, valid_text}
use Rattle.gsl_exec.specs.declared.reading.TheConstants.{MAX_MODULE_BYTES}
use Rattle.gsl_exec.specs.declared.stop.Stop.{Stop as Unlisted}
use Rattle.gsl_exec.specs.declared.stop.Stop.TheVariants as unlisted
use Rattle.gsl_exec.specs.Texts.{host_text}
use Rattle.gsl_cmd.specs.declared.converting.Conversion.{Conversion}
use Rattle.gsl_cmd.specs.Converting.{Made, too_long}
use Rattle.gsl_cmd.specs.declared.compiling.TheConstants.{MAX_SOURCE_BYTES}
use Rattle.gsl_cmd.specs.Verdict.{Accepts, Compiles, FirstFault, fault_in}
use Rattle.gsl_valid.specs.Valid.{Valid}
use Rattle.gsl_words.specs.declared.module.Module.{Module}
use Rattle.gsl_words.specs.declared.target.Target.{Target as Version}
use Rattle.gsl_words.specs.declared.target.Target.TheVariants.{V10}
use Rattle.gsl_base.specs.declared.fault.Fault.{Fault}
use Rattle.gsl_exec.specs.Owed.{IsTaken, Owed}
use Rattle.gsl_exec.specs.Steps.{IsLine}
use Rattle.gsl_base.specs.declared.stage.Stage.{Stage}
use Rattle.gsl_base.specs.declared.fault.Code.TheVariants.{E0900}
use Rattle.std.specs.FinMap.{get}

-- What a step that ended so has done of the job; faults are of these source files.
abbrev pub Did : List Name → Job → Files → Option Files → (Target → ℕ) → (Target → ℕ) → Result (Unit {0}) Stop → Type 0
Did names job before after faults faults' (Ok done) = (job.status ≡ 0) × (job.err ≡ []) × (after ≡ Some (effect_on job.effect before))
Did names job before after faults faults' (Err (stop.Fault fault)) =
    (job.status ≡ 1) × (job.err ≡ told_fault names fault) × (job.effect ≡ Effect.Keeps) × (after ≡ Some before)
Did names job before after faults faults' (Err (stop.Rejected text)) = (job.status ≡ 8) × (job.err ≡ text) × (job.effect ≡ Effect.Keeps) × (after ≡ Some before)
Did names job before after faults faults' (Err stop.Host) = (target : Target) × Contains job.targets target × Rose faults faults' target
Did names job before after faults faults' (Err stop.Memory) = Unit {0}

-- What is printed on standard output is known behind this end.
abbrev pub IsTold : Result (Unit {0}) Stop → Type 0
IsTold (Ok done) = Unit {0}
IsTold (Err (stop.Fault fault)) = Unit {0}
IsTold (Err (stop.Rejected text)) = Unit {0}
IsTold (Err stop.Host) = ⊥
IsTold (Err stop.Memory) = ⊥

-- A command of the plan has come to this end, and there is a job of which it has done so much.
pub record Ended (plan : Plan) (names : List Name) (before : Files) (after : Option Files) (faults faults' : Target → ℕ) (end : Result (Unit {0}) Stop) : Type 0 where
  pub job : Job
  pub is_job : IsJob plan before job
  pub out : IsTold end → job.out ≡ []
  pub did : Did names job before after faults faults' end
  pub kept : KeepsAllBut job.effect before after

-- A text was printed on standard error, and the status is the one that it was printed for, or 4.
abbrev pub Said : (Target → ℕ) → (Target → ℕ) → Option (List ℕ) → Option (List ℕ) → List ℕ → ℕ → ℕ → Type 0
Said faults faults' before after text status result =
    ((result ≡ status) × Prints faults faults' stream.Err before after text) ⊎ ((result ≡ 4) × AppendsSome before after text)

-- A text was printed on standard output, and the status is 0; or printing it failed, or memory was wanting.
abbrev pub Shown : (Target → ℕ) → (Target → ℕ) → Option (List ℕ) → Option (List ℕ) → Option (List ℕ) → Option (List ℕ) → List ℕ → ℕ → Type 0
Shown faults faults' out out' err err' text status =
    ((status ≡ 0) × Appends out out' text × (err' ≡ err))
    ⊎ (((status ≡ 3) × Rose faults faults' (Printing stream.Out) × AppendsSome out out' text × Prints faults faults' stream.Err err err' host_text)
    ⊎ ((status ≡ 4) × AppendsSome out out' text × AppendsSome err err' host_text))

-- Why a command stopped was printed, with the status that belongs to it.
abbrev pub Reported : List Name → Stop → (Target → ℕ) → (Target → ℕ) → Option (List ℕ) → Option (List ℕ) → ℕ → Type 0
Reported names stop.Memory faults faults' before after result = (result ≡ 4) × (after ≡ before)
Reported names stop.Host faults faults' before after result = Said faults faults' before after host_text 3 result
Reported names (stop.Rejected text) faults faults' before after result = Said faults faults' before after text 8 result
Reported names (stop.Fault fault) faults faults' before after result =
    Said faults faults' before after (told_fault names fault) 1 result ⊎ ((result ≡ 4) × (after ≡ before))

-- What reading the source file of this number answers where the files are told.
abbrev pub ReadsSourceTold : Files → ℕ → Name → Result (List ℕ) Stop → Type 0
ReadsSourceTold files unit name (Ok bytes) = (get files name ≡ Some bytes) × (length bytes ≤ MAX_SOURCE_BYTES)
ReadsSourceTold files unit name (Err (stop.Fault fault)) =
    IsSomeAnd (get files name) (λ bytes. MAX_SOURCE_BYTES < length bytes) × (fault ≡ fault_in unit E0900)
ReadsSourceTold files unit name (Err (stop.Rejected text)) = ⊥
ReadsSourceTold files unit name (Err _) = Unit {0}

abbrev pub ReadsSource : Option Files → ℕ → Name → Result (List ℕ) Stop → Type 0
ReadsSource (Some files) unit name answer = ReadsSourceTold files unit name answer
ReadsSource None unit name answer = Unit {0}

-- sources in front of those that are gathered
abbrev pub behind_sources : List (List ℕ) → Gathered → Gathered
behind_sources front (Sources sources) = Sources (front ++ sources)
behind_sources front Absent = Absent
behind_sources front (TooLong unit) = TooLong unit

-- What reading source files answers where this is gathered.
abbrev pub ReadsGathered : Gathered → Result (List (List ℕ)) Stop → Type 0
ReadsGathered gathered (Ok sources) = gathered ≡ Sources sources
ReadsGathered gathered (Err (stop.Fault fault)) = (unit : ℕ) × (gathered ≡ TooLong unit) × (fault ≡ fault_in unit E0900)
ReadsGathered gathered (Err (stop.Rejected text)) = ⊥
ReadsGathered gathered (Err _) = Unit {0}

-- What compiling sources answers.
abbrev pub CompilesSources : Version → Stage → List (List ℕ) → Result (List ℕ) Stop → Type 0
CompilesSources version stage sources (Ok bytes) = Compiles version stage sources (Ok bytes)
CompilesSources version stage sources (Err (stop.Fault fault)) = FirstFault version stage sources fault
CompilesSources version stage sources (Err stop.Memory) = Unit {0}
CompilesSources version stage sources (Err (stop.Rejected text)) = ⊥
CompilesSources version stage sources (Err stop.Host) = ⊥

-- What reading the file of a module, or of its text, answers where the files are told.
abbrev pub ReadsFileTold : Conversion → Files → Name → Result (List ℕ) Stop → Type 0
ReadsFileTold conversion files name (Ok bytes) = (get files name ≡ Some bytes) × (length bytes ≤ MAX_MODULE_BYTES)
ReadsFileTold conversion files name (Err (stop.Rejected text)) =
    IsSomeAnd (get files name) (λ bytes. MAX_MODULE_BYTES < length bytes) × (text ≡ too_long conversion name)
ReadsFileTold conversion files name (Err (stop.Fault fault)) = ⊥
ReadsFileTold conversion files name (Err _) = Unit {0}

abbrev pub ReadsFile : Conversion → Option Files → Name → Result (List ℕ) Stop → Type 0
ReadsFile conversion (Some files) name answer = ReadsFileTold conversion files name answer
ReadsFile conversion None name answer = Unit {0}

-- Unless memory was wanting, what was made is this.
abbrev pub Gives : (Made → Type 0) → Result (List ℕ) Stop → Type 0
Gives IsMade (Ok bytes) = IsMade (Ok bytes)
Gives IsMade (Err (stop.Rejected text)) = IsMade (Err text)
Gives IsMade (Err stop.Memory) = Unit {0}
Gives IsMade (Err (stop.Fault fault)) = ⊥
Gives IsMade (Err stop.Host) = ⊥

-- why a module's file is refused
abbrev pub refused_by : Unlisted → Stop
refused_by (unlisted.Told status text) = stop.Rejected text
refused_by unlisted.Host = stop.Host
refused_by unlisted.Memory = stop.Memory

-- A line that is told, unless memory was wanting.
abbrev pub Tells : List ℕ → Stop → Type 0
Tells line (stop.Rejected text) = text ≡ line
Tells line stop.Memory = Unit {0}
Tells line (stop.Fault fault) = ⊥
Tells line stop.Host = ⊥

-- ---- commands that print what they make, and write no file

-- The status is none of those that have other causes than what is told.
abbrev pub IsOwn : ℕ → Type 0
IsOwn status = (status ≢ 2) × (status ≢ 3) × (status ≢ 4)

abbrev pub HasOwn : Result (List ℕ) Unlisted → Type 0
HasOwn (Ok text) = Unit {0}
HasOwn (Err (unlisted.Told status text)) = IsOwn status
HasOwn (Err unlisted.Host) = Unit {0}
HasOwn (Err unlisted.Memory) = Unit {0}

-- The job that tells a line with a status.
pub record Says (job : Job) (status : ℕ) (text : List ℕ) : Type 0 where
  pub ends : job.status ≡ status
  pub quiet : job.out ≡ []
  pub says : job.err ≡ text
  pub keeps : job.effect ≡ Effect.Keeps
  pub own : IsOwn status

-- The job that prints a text.
pub record Lists (job : Job) (text : List ℕ) : Type 0 where
  pub status : job.status ≡ 0
  pub out : job.out ≡ text
  pub err : job.err ≡ []
  pub keeps : job.effect ≡ Effect.Keeps
  pub reached : Contains job.targets (Printing stream.Out)

-- What a step that ended so has done of the job, up to what is printed. `Failing` is what is known where the host failed.
abbrev pub Comes : Type 0 → Job → Result (List ℕ) Unlisted → Type 0
Comes Failing job (Ok text) = Lists job text
Comes Failing job (Err (unlisted.Told status text)) = Says job status text
Comes Failing job (Err unlisted.Host) = (job.effect ≡ Effect.Keeps) × Failing
Comes Failing job (Err unlisted.Memory) = job.effect ≡ Effect.Keeps

-- The faults rose of something that the job reaches for.
abbrev pub Reaches : (Target → ℕ) → (Target → ℕ) → Job → Type 0
Reaches faults faults' job = (target : Target) × Contains job.targets target × Rose faults faults' target

-- There is such a job, of which a step that ended so has done so much.
abbrev pub Ends : (Job → Type 0) → (Target → ℕ) → (Target → ℕ) → Result (List ℕ) Unlisted → Type 0
Ends IsIts faults faults' end = (job : Job) × IsIts job × Comes (Reaches faults faults' job) job end

-- What a command came to was printed, with the status that belongs to it.
abbrev pub Finished : Result (List ℕ) Unlisted → (Target → ℕ) → (Target → ℕ) → Option (List ℕ) → Option (List ℕ) → Option (List ℕ) → Option (List ℕ) → ℕ → Type 0
Finished (Ok text) faults faults' out out' err err' status = Shown faults faults' out out' err err' text status
Finished (Err (unlisted.Told told text)) faults faults' out out' err err' status = Said faults faults' err err' text told status × (out' ≡ out)
Finished (Err unlisted.Host) faults faults' out out' err err' status = Said faults faults' err err' host_text 3 status × (out' ≡ out)
Finished (Err unlisted.Memory) faults faults' out out' err err' status = (status ≡ 4) × (err' ≡ err) × (out' ≡ out)

-- What judging the bytes of a module's file comes to.
abbrev pub ChecksBytes : List ℕ → Result (List ℕ) Unlisted → Type 0
ChecksBytes bytes (Ok text) = Checks bytes None × (text ≡ valid_text)
ChecksBytes bytes (Err (unlisted.Told status text)) = (status ≡ 8) × Checks bytes (Some text)
ChecksBytes bytes (Err unlisted.Memory) = Unit {0}
ChecksBytes bytes (Err unlisted.Host) = ⊥

-- ---- `run`

-- Of a valid module something is owed behind the bytes of any manifest, and it reaches for all that was reached for before.
abbrev pub SomeTaken : Type 0
SomeTaken = (m : Module) → Valid m → (files : Files) (text : List ℕ) (targets : List Target) →
    (owed : Owed) × IsTaken files text targets owed (Ok m) None × ((target : Target) → Contains targets target → Contains owed.targets target)

-- No two things are.
abbrev pub OneTaken : Type 0
OneTaken = (m : Module) (files : Files) (text : List ℕ) (targets : List Target) (a b : Owed) → IsTaken files text targets a (Ok m) None → IsTaken files text targets b (Ok m) None → a ≡ b

-- Why source files were not read, as a line with its status.
abbrev pub Unreads : List Name → Stop → Unlisted → Type 0
Unreads names (stop.Fault fault) end = IsLine 1 (told_fault names fault) end
Unreads names (stop.Rejected text) end = end ≡ unlisted.Told 8 text
Unreads names stop.Host end = end ≡ unlisted.Host
Unreads names stop.Memory end = end ≡ unlisted.Memory

-- What making the module of sources comes to.
abbrev pub MakesModule : Stage → List (List ℕ) → List Name → Result Module Unlisted → Type 0
MakesModule stage sources names (Ok m) = Accepts V10 stage sources m
MakesModule stage sources names (Err (unlisted.Told status text)) = (fault : Fault) × FirstFault V10 stage sources fault × (status ≡ 1) × (text ≡ told_fault names fault)
MakesModule stage sources names (Err unlisted.Memory) = Unit {0}
MakesModule stage sources names (Err unlisted.Host) = ⊥
