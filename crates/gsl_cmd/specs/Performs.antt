-- What a run of a command did, against its job.
use Rattle.std.specs.Prelude.{◌≡◌, ◌≢◌, ℕ, ◌==◌, List, Option, Some, Contains, if◌then◌else◌, ◌⊎◌}
use Rattle.std.specs.FinMap.{insert}
use Rattle.gsl_host.specs.declared.target.Stream.{Stream}
use Rattle.gsl_host.specs.declared.target.Stream.TheVariants as stream
use Rattle.gsl_host.specs.declared.target.Target.{Target}
use Rattle.gsl_host.specs.declared.target.Target.TheVariants.{Printing}
use Rattle.gsl_host.specs.Outside.{Files, KeepsOthers, Appends, AppendsSome, Rose}
use Rattle.gsl_cmd.specs.Job.{Job, Effect}
use Rattle.gsl_exec.specs.Texts.{host_text}

-- the files after the effect
abbrev pub effect_on : Effect → Files → Files
effect_on Effect.Keeps files = files
effect_on (Effect.Writes name bytes) files = insert files name bytes

-- All files but the one that the effect writes are as before.
abbrev pub KeepsAllBut : Effect → Files → Option Files → Type 0
KeepsAllBut Effect.Keeps before after = after ≡ Some before
KeepsAllBut (Effect.Writes name bytes) before after = KeepsOthers (Some before) after name

-- The stream has gained the text, or the faults of printing on it rose and it has gained some first part.
abbrev pub Prints : (Target → ℕ) → (Target → ℕ) → Stream → Option (List ℕ) → Option (List ℕ) → List ℕ → Type 0
Prints faults faults' stream before after text =
    Appends before after text ⊎ (Rose faults faults' (Printing stream) × AppendsSome before after text)

-- the text that belongs to a status
abbrev pub text_of : Job → ℕ → List ℕ
text_of job status = if status == 3 then host_text else job.err

-- The command ended with this status, and did its job, or as much of it as the host and the memory let it.
pub record Performs (job : Job) (before : Files) (after : Option Files) (faults faults' : Target → ℕ)
    (printed printed' : Stream → Option (List ℕ)) (status : ℕ) : Type 0 where
  -- each status but 3 and 4 is the job's
  pub status_is : status ≢ 3 → status ≢ 4 → status ≡ job.status
  -- 3 comes only where something failed that the job reaches for
  pub cause : status ≡ 3 → (target : Target) × Contains job.targets target × Rose faults faults' target
  -- the files are then the job's
  pub files : status ≢ 3 → status ≢ 4 → after ≡ Some (effect_on job.effect before)
  -- and in any case all but the one that it writes
  pub kept : KeepsAllBut job.effect before after
  pub err : status ≢ 4 → Prints faults faults' stream.Err (printed stream.Err) (printed' stream.Err) (text_of job status)
  pub err_memory : status ≡ 4 →
      AppendsSome (printed stream.Err) (printed' stream.Err) job.err ⊎ AppendsSome (printed stream.Err) (printed' stream.Err) host_text
  -- standard output has gained the job's text, and in any case no more than some first part of it
  pub out : status ≢ 3 → status ≢ 4 → Appends (printed stream.Out) (printed' stream.Out) job.out
  pub out_part : AppendsSome (printed stream.Out) (printed' stream.Out) job.out
