-- What a command does where no call of the host fails but the reading of an absent name: its status, the
-- texts on the streams, what becomes of the files, and what it reaches for.
use Rattle.std.specs.Prelude.{◌≡◌, ℕ, ◌+◌, Bool, false, not, nat_lt, List, [], ◌∷◌, ◌++◌, length, Option, Some, None, Ok, Err, if◌then◌else◌, slice_index_or}
use Rattle.std.specs.FinMap.{get}
use Rattle.gsl_base.specs.declared.stage.Stage.{Stage}
use Rattle.gsl_base.specs.declared.fault.Code.TheVariants.{E0900}
use Rattle.gsl_base.specs.declared.fault.Fault.{Fault}
use Rattle.gsl_base.specs.Checked.{Checked}
use Rattle.gsl_host.specs.declared.target.Target.{Target}
use Rattle.gsl_host.specs.declared.target.Stream.TheVariants as stream
use Rattle.gsl_host.specs.declared.target.Target.TheVariants.{Reading, Writing, Printing}
use Rattle.gsl_host.specs.Outside.{Files}
use Rattle.gsl_words.specs.Bytes.{bytes_of}
use Rattle.gsl_words.specs.declared.module.Module.{Module}
use Rattle.gsl_words.specs.declared.target.Target.{Target as Version}
use Rattle.gsl_words.specs.declared.target.Target.TheVariants.{V10}
use Rattle.gsl_cmd.specs.declared.compiling.TheConstants.{MAX_SOURCE_BYTES}
use Rattle.gsl_form.specs.Form.{Name}
use Rattle.gsl_given.specs.declared.given.TheConstants.{MAX_MANIFEST_BYTES}
use Rattle.gsl_given.specs.Texts.{long_text}
use Rattle.gsl_plan.specs.Plan.{Plan}
use Rattle.gsl_cmd.specs.declared.converting.Conversion.{Conversion}
use Rattle.gsl_cmd.specs.declared.converting.Conversion.TheVariants.{Disassemble, Assemble}
use Rattle.gsl_cmd.specs.Converting.{Made, Makes, too_long}
use Rattle.gsl_cmd.specs.Checking.{Checks}
use Rattle.gsl_cmd.specs.Texts.{fault_text, valid_text}
use Rattle.gsl_cmd.specs.Verdict.{Judges, fault_in}
use Rattle.gsl_exec.specs.declared.reading.TheConstants.{MAX_MODULE_BYTES}
use Rattle.gsl_exec.specs.Owed.{IsOwed, IsTaken, Owed, Read, Missing, Longer, Whole, read_of, told}
use Rattle.gsl_exec.specs.Texts.{host_text, module_long_text}

-- What becomes of the files.
pub data Effect : Type 0 where
  Keeps : Effect
  Writes : (name : Name) (bytes : List ℕ) → Effect

pub record Job : Type 0 where
  pub status : ℕ
  pub out : List ℕ
  pub err : List ℕ
  pub effect : Effect
  pub targets : List Target

-- What reading source files one after the other gives, up to the first that is absent or too long.
pub data Gathered : Type 0 where
  Sources : List (List ℕ) → Gathered
  Absent : Gathered
  TooLong : (unit : ℕ) → Gathered

abbrev pub with_source : List ℕ → Gathered → Gathered
with_source source (Sources sources) = Sources (source ∷ sources)
with_source source Absent = Absent
with_source source (TooLong unit) = TooLong unit

abbrev pub gather_one : ℕ → Option (List ℕ) → Gathered → Gathered
gather_one unit None others = Absent
gather_one unit (Some bytes) others = if nat_lt MAX_SOURCE_BYTES (length bytes) then TooLong unit else with_source bytes others

-- the files of these names, numbered from a unit on
abbrev pub gather : Files → ℕ → List Name → Gathered
gather files unit [] = Sources []
gather files unit (name ∷ names) = gather_one unit (get files name) (gather files (unit + 1) names)

-- whether reading goes on after a file
abbrev pub is_source : Option (List ℕ) → Bool
is_source None = false
is_source (Some bytes) = not (nat_lt MAX_SOURCE_BYTES (length bytes))

-- what is read up to the answer
abbrev pub reads : Files → List Name → List Target
reads files [] = []
reads files (name ∷ names) = Reading name ∷ (if is_source (get files name) then reads files names else [])

-- the job where a file is absent
abbrev pub failed : List Target → Job
failed targets = record { status = 3; out = []; err = host_text; effect = Keeps; targets = targets }

-- the job where the sources have a fault
abbrev pub refused : List Name → List Target → Fault → Job
refused names targets fault =
    record { status = 1; out = []; err = fault_text (slice_index_or names fault.place.unit []) fault; effect = Keeps; targets = targets }

-- the job where the sources are judged so
abbrev pub compiled : Name → List Name → List Target → Checked Module → Job
compiled out names targets (Ok m) = record { status = 0; out = []; err = []; effect = Writes out (bytes_of m); targets = targets ++ Writing out ∷ [] }
compiled out names targets (Err fault) = refused names targets fault

abbrev pub IsCompileJob : Version → Stage → Name → List Name → List Target → Job → Gathered → Type 0
IsCompileJob version stage out names targets job Absent = job ≡ failed targets
IsCompileJob version stage out names targets job (TooLong unit) = job ≡ refused names targets (fault_in unit E0900)
IsCompileJob version stage out names targets job (Sources sources) =
    (verdict : Checked Module) × Judges version stage sources verdict × (job ≡ compiled out names targets verdict)

-- the job where a module or its text is refused, and this line says why
abbrev pub rejected : List ℕ → Name → Job
rejected text file = record { status = 8; out = []; err = text; effect = Keeps; targets = Reading file ∷ [] }

-- the job where the conversion of a file makes this
abbrev pub made_of : Name → Name → Made → Job
made_of file out (Ok bytes) = record { status = 0; out = []; err = []; effect = Writes out bytes; targets = Reading file ∷ Writing out ∷ [] }
made_of file out (Err text) = rejected text file

-- what reading the file of a module, or of its text, gives
abbrev pub found_in : Option (List ℕ) → Read
found_in = read_of MAX_MODULE_BYTES

abbrev pub IsConversionJob : Conversion → Name → Name → Job → Read → Type 0
IsConversionJob conversion file out job Missing = job ≡ failed (Reading file ∷ [])
IsConversionJob conversion file out job Longer = job ≡ rejected (too_long conversion file) file
IsConversionJob conversion file out job (Whole bytes) = (made : Made) × Makes conversion file bytes made × (job ≡ made_of file out made)

-- the job where this is told of a module
abbrev pub checked_of : Name → Option (List ℕ) → Job
checked_of file None = record { status = 0; out = valid_text; err = []; effect = Keeps; targets = Reading file ∷ Printing stream.Out ∷ [] }
checked_of file (Some text) = rejected text file

abbrev pub IsCheckJob : Name → Job → Read → Type 0
IsCheckJob file job Missing = job ≡ failed (Reading file ∷ [])
IsCheckJob file job Longer = job ≡ rejected module_long_text file
IsCheckJob file job (Whole bytes) = (refusal : Option (List ℕ)) × Checks bytes refusal × (job ≡ checked_of file refusal)

-- the job that is owed
abbrev pub job_of : Owed → Job
job_of owed = record { status = owed.status; out = owed.out; err = owed.err; effect = Keeps; targets = owed.targets }

abbrev pub IsExecJob : Name → Name → Files → Job → Type 0
IsExecJob file inputs files job = (owed : Owed) × IsOwed file inputs files owed × (job ≡ job_of owed)

-- the job of the module of the sources, or of their first fault, which comes before what is wrong with the manifest
abbrev pub IsModuleJob : Files → List Name → List ℕ → List Target → Job → Checked Module → Type 0
IsModuleJob files names text targets job (Ok m) = (owed : Owed) × IsTaken files text targets owed (Ok m) None × (job ≡ job_of owed)
IsModuleJob files names text targets job (Err fault) = job ≡ refused names targets fault

abbrev pub IsTextJob : Files → Stage → List Name → List (List ℕ) → List ℕ → List Target → Job → Type 0
IsTextJob files stage names sources text targets job = (verdict : Checked Module) × Judges V10 stage sources verdict × IsModuleJob files names text targets job verdict

-- the manifest's file, which is read behind the sources and before they are compiled
abbrev pub IsInputsJob : Files → Stage → List Name → List (List ℕ) → List Target → Job → Read → Type 0
IsInputsJob files stage names sources targets job Missing = job ≡ failed targets
IsInputsJob files stage names sources targets job Longer = job ≡ job_of (told 7 long_text targets)
IsInputsJob files stage names sources targets job (Whole text) = IsTextJob files stage names sources text targets job

abbrev pub IsRunJob : Stage → Name → List Name → Files → List Target → Job → Gathered → Type 0
IsRunJob stage inputs names files targets job Absent = job ≡ failed targets
IsRunJob stage inputs names files targets job (TooLong unit) = job ≡ refused names targets (fault_in unit E0900)
IsRunJob stage inputs names files targets job (Sources sources) =
    IsInputsJob files stage names sources (targets ++ Reading inputs ∷ []) job (read_of MAX_MANIFEST_BYTES (get files inputs))

-- The job of a command over the files that are told.
abbrev pub IsJob : Plan → Files → Job → Type 0
IsJob (Plan.Compile version stage out names) files job = IsCompileJob version stage out names (reads files names) job (gather files 0 names)
IsJob (Plan.Disassemble file out) files job = IsConversionJob Disassemble file out job (found_in (get files file))
IsJob (Plan.Assemble file out) files job = IsConversionJob Assemble file out job (found_in (get files file))
IsJob (Plan.Check file) files job = IsCheckJob file job (found_in (get files file))
IsJob (Plan.Exec file inputs) files job = IsExecJob file inputs files job
IsJob (Plan.Run stage inputs names) files job = IsRunJob stage inputs names files (reads files names) job (gather files 0 names)
