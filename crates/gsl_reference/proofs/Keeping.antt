-- There is a job at each step of a run, it keeps all files, and it reaches for what was reached for before.
use Rattle.std.proofs.Common.{◌≡◌, ℕ, List, [], ◌∷◌, ◌++◌, Result, Ok, Err, refl}
use Rattle.std.specs.Prelude.{Contains}
use Rattle.std.specs.FinMap.{get}
use Rattle.gsl_base.specs.declared.fault.Code.TheVariants.{E0900}
use Rattle.gsl_base.specs.declared.input.Input.{Input}
use Rattle.gsl_base.specs.declared.stage.Stage.{Stage}
use Rattle.gsl_base.specs.Checked.{Checked}
use Rattle.gsl_host.specs.declared.target.Stream.TheVariants as stream
use Rattle.gsl_host.specs.declared.target.Target.{Target}
use Rattle.gsl_host.specs.declared.target.Target.TheVariants.{Reading, Printing}
use Rattle.gsl_host.specs.Outside.{Files, Name}
use Rattle.gsl_manifest.specs.declared.manifest.Manifest.{Manifest}
use Rattle.gsl_inputs.specs.Demands.{Met}
use Rattle.gsl_given.specs.Given.{Found, Got, Absent, TooLong, given, names_of, reads as named_reads}
use Rattle.gsl_tree.specs.declared.program.Program.{Program}
use Rattle.gsl_meaning.specs.Fits.{fits}
use Rattle.gsl_meaning.specs.Shader.{Outcome, Ended, Strayed, Going, shader}
use Rattle.gsl_cmd.specs.Job.{Job, Effect, Gathered, Sources, Absent as NoSource, TooLong as LongSource, failed, gather, reads, refused}
use Rattle.gsl_cmd.specs.Verdict.{fault_in, linked_of}
use Rattle.gsl_cmd.proofs.Jobs.{contains_front}
use Rattle.gsl_reference.specs.Asked.{Asked}
use Rattle.gsl_reference.specs.Owed.{told, came_to, run_if, run_on, run_by, AreRead, IsProgramJob, Manifested, Missing, Longer, Whole, manifested, IsInputsJob, IsBehindSources, IsSourcesJob, IsJob}
use Rattle.gsl_given.specs.Texts.{long_text}

-- The job keeps the files, and reaches for these.
pub record Keeps (targets : List Target) (job : Job) : Type 0 where
  pub effect : job.effect ≡ Effect.Keeps
  pub reached : (target : Target) → Contains targets target → Contains job.targets target

-- there is such a job, which keeps
abbrev pub Some_ : (Job → Type 0) → List Target → Type 0
Some_ IsIts targets = (job : Job) × IsIts job × Keeps targets job

keeps_all : (targets : List Target) (status : ℕ) (text : List ℕ) → Keeps targets (told status text targets)
keeps_all targets status text = record { effect = refl; reached = λ target at. at }

keeps_outcome : (targets : List Target) (o : Outcome) → Keeps targets (came_to targets o)
keeps_outcome targets (Ended output) = record { effect = refl; reached = λ target at. contains_front target targets (Printing stream.Out ∷ []) at }
keeps_outcome targets Strayed = record { effect = refl; reached = λ target at. at }
keeps_outcome targets Going = record { effect = refl; reached = λ target at. at }

keeps_if : (targets : List Target) (p : Program) (units : ℕ) (input : Input) (met : Met) → Keeps targets (run_if targets p units input met)
keeps_if targets p units input (Ok fitting) = keeps_outcome targets (shader p units input)
keeps_if targets p units input (Err refusal) = record { effect = refl; reached = λ target at. at }

pub keeps_on : (targets : List Target) (p : Program) (units : ℕ) (found : Found Input) → Keeps targets (run_on targets p units found)
keeps_on targets p units (Got input) = keeps_if targets p units input (fits p input)
keeps_on targets p units Absent = record { effect = refl; reached = λ target at. at }
keeps_on targets p units (TooLong line) = record { effect = refl; reached = λ target at. at }

keeps_longer : (targets more : List Target) (job : Job) → Keeps (targets ++ more) job → Keeps targets job
keeps_longer targets more job keeps = record { effect = keeps.effect; reached = λ target at. keeps.reached target (contains_front target targets more at) }

keeps_by : (files : Files) (targets : List Target) (p : Program) (said : Result Manifest ℕ) → Keeps targets (run_by files targets p said)
keeps_by files targets p (Ok m) = keeps_longer targets (named_reads files (names_of m)) _ (keeps_on (targets ++ named_reads files (names_of m)) p m.steps (given files m))
keeps_by files targets p (Err line) = record { effect = refl; reached = λ target at. at }

module _ (read : AreRead) (files : Files) (names : List Name) (targets : List Target) where
  pub some_program : (bytes : List ℕ) (made : Checked Program) → Some_ (λ job. IsProgramJob files names bytes targets job made) targets
  some_program bytes (Ok p) =
      let said = read bytes in
      (run_by files targets p said.0, (said.0, said.1, refl), keeps_by files targets p said.0)
  some_program bytes (Err fault) = (refused names targets fault, refl, record { effect = refl; reached = λ target at. at })

  pub some_inputs : (stage : Stage) (sources : List (List ℕ)) (found : Manifested) → Some_ (λ job. IsInputsJob files stage names sources targets job found) targets
  some_inputs stage sources Missing = (failed targets, refl, record { effect = refl; reached = λ target at. at })
  some_inputs stage sources Longer = (told 7 long_text targets, refl, record { effect = refl; reached = λ target at. at })
  some_inputs stage sources (Whole bytes) = some_program bytes (linked_of stage sources)

module _ (read : AreRead) (asked : Asked) (files : Files) (targets : List Target) where
  some_behind : (sources : List (List ℕ)) → Some_ (IsBehindSources asked files sources targets) targets
  some_behind sources =
      let its = some_inputs read files asked.sources (targets ++ Reading asked.inputs ∷ []) asked.stage sources (manifested (get files asked.inputs)) in
      (its.0, its.1, keeps_longer targets (Reading asked.inputs ∷ []) its.0 its.2)

  pub some_sources : (gathered : Gathered) → Some_ (λ job. IsSourcesJob asked files targets job gathered) targets
  some_sources NoSource = (failed targets, refl, record { effect = refl; reached = λ target at. at })
  some_sources (LongSource unit) = (refused asked.sources targets (fault_in unit E0900), refl, record { effect = refl; reached = λ target at. at })
  some_sources (Sources sources) = some_behind sources

-- There is a job of whatever is asked for.
pub some_job : (read : AreRead) (asked : Asked) (files : Files) → Some_ (IsJob asked files) (reads files asked.sources)
some_job read asked files = some_sources read asked files (reads files asked.sources) (gather files 0 asked.sources)
