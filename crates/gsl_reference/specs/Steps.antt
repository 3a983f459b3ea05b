-- The steps of a run in the code, against its job.
use Rattle.std.specs.Prelude.{◌≡◌, ℕ, List, [], Option, Result, Ok, Err, Contains}
use Rattle.gsl_base.specs.declared.fault.Code.TheVariants.{E0900}
use Rattle.gsl_base.specs.Checked.{Checked}
use Rattle.gsl_base.specs.declared.fault.Fault.{Fault}
use Rattle.gsl_host.specs.declared.target.Stream.TheVariants as stream
use Rattle.gsl_host.specs.declared.target.Target.{Target}
use Rattle.gsl_host.specs.declared.target.Target.TheVariants.{Printing}
use Rattle.gsl_host.specs.Outside.{Name, Rose}
use Rattle.gsl_tree.specs.declared.program.Program.{Program}
use Rattle.gsl_cmd.specs.Command.{Said}
use Rattle.gsl_cmd.specs.Job.{Job, Effect, Gathered, Sources, TooLong}
use Rattle.gsl_cmd.specs.Texts.{told_fault}
use Rattle.gsl_exec.specs.Texts.{host_text}
use Rattle.gsl_cmd.specs.Verdict.{fault_in}
use Rattle.gsl_given.specs.declared.stop.Stop.{Stop as GivenStop}
use Rattle.gsl_given.specs.declared.stop.Stop.TheVariants as given
use Rattle.gsl_reference.specs.declared.stop.Stop.{Stop}
use Rattle.gsl_reference.specs.declared.stop.Stop.TheVariants as stop
use Rattle.gsl_reference.specs.Texts.{going_text, strayed_text}

-- The job ends so with a text.
abbrev pub EndsWith : Job → ℕ → List ℕ → Type 0
EndsWith job status text = (job.status ≡ status) × (job.out ≡ []) × (job.err ≡ text) × (job.effect ≡ Effect.Keeps)

-- What a step that ended so has done of the job, up to what is printed. `Failing` is what is known where the host failed.
abbrev pub Comes : Type 0 → Job → Result (List ℕ) Stop → Type 0
Comes Failing job (Ok text) = (job.status ≡ 0) × (job.out ≡ text) × (job.err ≡ []) × (job.effect ≡ Effect.Keeps) × Contains job.targets (Printing stream.Out)
Comes Failing job (Err (stop.Fault text)) = EndsWith job 1 text
Comes Failing job (Err stop.Going) = EndsWith job 5 going_text
Comes Failing job (Err stop.Strayed) = EndsWith job 6 strayed_text
Comes Failing job (Err (stop.Input text)) = EndsWith job 7 text
Comes Failing job (Err stop.Host) = (job.effect ≡ Effect.Keeps) × Failing
Comes Failing job (Err stop.Memory) = job.effect ≡ Effect.Keeps

-- The faults rose of something that the job reaches for.
abbrev pub Reaches : (Target → ℕ) → (Target → ℕ) → Job → Type 0
Reaches faults faults' job = (target : Target) × Contains job.targets target × Rose faults faults' target

-- There is such a job, of which a step that ended so has done so much.
abbrev pub Ends : (Job → Type 0) → (Target → ℕ) → (Target → ℕ) → Result (List ℕ) Stop → Type 0
Ends IsIts faults faults' end = (job : Job) × IsIts job × Comes (Reaches faults faults' job) job end

-- Why a fault stops a run: it is told, unless memory was wanting.
abbrev pub Tells : List Name → Fault → Stop → Type 0
Tells names fault (stop.Fault text) = text ≡ told_fault names fault
Tells names fault stop.Memory = Unit {0}
Tells names fault _ = ⊥

-- What reading source files answers where this is gathered.
abbrev pub ReadsSources : List Name → Gathered → Result (List (List ℕ)) Stop → Type 0
ReadsSources names gathered (Ok sources) = gathered ≡ Sources sources
ReadsSources names gathered (Err (stop.Fault text)) = (unit : ℕ) × (gathered ≡ TooLong unit) × (text ≡ told_fault names (fault_in unit E0900))
ReadsSources names gathered (Err stop.Host) = Unit {0}
ReadsSources names gathered (Err stop.Memory) = Unit {0}
ReadsSources names gathered (Err _) = ⊥

-- What making a program answers, where the sources make this one or have this first fault.
abbrev pub Makes : List Name → Checked Program → Result Program Stop → Type 0
Makes names made (Ok p) = made ≡ Ok p
Makes names made (Err (stop.Fault text)) = (fault : Fault) × (made ≡ Err fault) × (text ≡ told_fault names fault)
Makes names made (Err stop.Memory) = Unit {0}
Makes names made (Err _) = ⊥

-- why there is no input
abbrev pub stopped : GivenStop → Stop
stopped (given.Refused text) = stop.Input text
stopped given.Host = stop.Host
stopped given.Memory = stop.Memory

-- Why a run stopped was printed, with the status that belongs to it.
abbrev pub Reported : Stop → (Target → ℕ) → (Target → ℕ) → Option (List ℕ) → Option (List ℕ) → ℕ → Type 0
Reported (stop.Fault text) faults faults' before after result = Said faults faults' before after text 1 result
Reported stop.Going faults faults' before after result = Said faults faults' before after going_text 5 result
Reported stop.Strayed faults faults' before after result = Said faults faults' before after strayed_text 6 result
Reported (stop.Input text) faults faults' before after result = Said faults faults' before after text 7 result
Reported stop.Host faults faults' before after result = Said faults faults' before after host_text 3 result
Reported stop.Memory faults faults' before after result = (result ≡ 4) × (after ≡ before)
