-- How far the steps of `dis` and of `asm` have come with their job.
use Rattle.std.proofs.Common.{◌≡◌, ℕ, ◌≤◌, List, [], length, Option, Some, Result, Ok, Err, refl, ap, sym, subst, arith}
use Rattle.std.specs.Prelude.{OnOk, IfOk, MatchResult, Contains}
use Rattle.std.specs.FinMap.{get}
use Rattle.gsl_base.specs.declared.fault.Fault.{Fault}
use Rattle.gsl_base.specs.Ranges.{AreBytes}
use Rattle.gsl_words.specs.declared.fault.WordFault.{WordFault}
use Rattle.gsl_words.specs.Faults.{HasFault}
use Rattle.gsl_host.specs.declared.target.Target.{Target}
use Rattle.gsl_host.specs.declared.target.Target.TheVariants.{Reading, Writing}
use Rattle.gsl_host.specs.Outside.{Files, KeepsOthers, Sets, Rose}
use Rattle.gsl_plan.specs.Plan.{Name}
use Rattle.gsl_cmd.specs.declared.stop.Stop.{Stop}
use Rattle.gsl_cmd.specs.declared.stop.Stop.TheVariants as stop
use Rattle.gsl_cmd.specs.declared.converting.Conversion.{Conversion}
use Rattle.gsl_cmd.specs.declared.converting.Conversion.TheVariants.{Disassemble, Assemble}
use Rattle.gsl_exec.specs.declared.reading.TheConstants.{MAX_MODULE_BYTES}
use Rattle.gsl_exec.proofs.Runs.{is_longer, is_whole}
use Rattle.gsl_exec.specs.declared.stop.Stop.{Stop as Unlisted}
use Rattle.gsl_exec.specs.declared.stop.Stop.TheVariants as unlisted
use Rattle.gsl_exec.specs.Owed.{Read, Missing, Longer, Whole}
use Rattle.gsl_exec.specs.Steps.{Rejects}
use Rattle.gsl_cmd.specs.Converting.{Made, Makes, Shows, plan_for}
use Rattle.gsl_cmd.specs.Targets.{targets_of}
use Rattle.gsl_cmd.specs.Job.{Job, IsJob, IsConversionJob, rejected, made_of, found_in}
use Rattle.gsl_cmd.specs.Command.{Did, Ended, ReadsFileTold, Gives, refused_by}
use Rattle.gsl_cmd.proofs.Converted.{conversion_job}
use Rattle.gsl_cmd.proofs.Jobs.{keeps_same}

pub as_job : (conversion : Conversion) (file out : Name) (files : Files) (job : Job) → IsConversionJob conversion file out job (found_in (get files file)) → IsJob (plan_for conversion file out) files job
as_job Disassemble file out files job is = is
as_job Assemble file out files job is = is

module _ (conversion : Conversion) (file out : Name) (files : Files) (after : Option Files) (faults faults' : Target → ℕ) where
  abbrev Came : Result (Unit {0}) Stop → Type 0
  Came end = Ended (plan_for conversion file out) [] files after faults faults' end

  abbrev IsIts : Job → Read → Type 0
  IsIts job found = IsConversionJob conversion file out job found

  its : (job : Job) (found : Read) → found_in (get files file) ≡ found → IsIts job found → IsJob (plan_for conversion file out) files job
  its job found e is = as_job conversion file out files job (subst (IsIts job) (sym e) is)

  -- the job reaches for its file
  reads_in : (job : Job) (found : Read) → IsIts job found → Contains job.targets (Reading file)
  reads_in job Missing is = subst (λ (j : Job). Contains j.targets (Reading file)) (sym is) (0, omega arith, refl)
  reads_in job Longer is = subst (λ (j : Job). Contains j.targets (Reading file)) (sym is) (0, omega arith, refl)
  reads_in job (Whole bytes) (Ok text, made, is) = subst (λ (j : Job). Contains j.targets (Reading file)) (sym is) (0, omega arith, refl)
  reads_in job (Whole bytes) (Err text, made, is) = subst (λ (j : Job). Contains j.targets (Reading file)) (sym is) (0, omega arith, refl)

  some_its : (job : Job) × IsIts job (found_in (get files file))
  some_its = conversion_job conversion file out (found_in (get files file))

  -- want of memory leaves some job
  pub ended_memory : after ≡ Some files → Came (Err stop.Memory)
  ended_memory same =
      let j = some_its in
      record { job = j.0; is_job = as_job conversion file out files j.0 j.1; out = λ none. absurd none; did = tt; kept = keeps_same j.0.effect files after same }

  ended_reject : (text : List ℕ) (found : Read) → found_in (get files file) ≡ found → IsIts (rejected text file) found → after ≡ Some files → Came (Err (stop.Rejected text))
  ended_reject text found e is same = record { job = rejected text file; is_job = its (rejected text file) found e is; out = λ told. refl; did = (refl, refl, refl, same); kept = same }

  whole : (bytes : List ℕ) → get files file ≡ Some bytes → length bytes ≤ MAX_MODULE_BYTES → found_in (get files file) ≡ Whole bytes
  whole = is_whole MAX_MODULE_BYTES (get files file)

  pub ended_read : (why : Stop) → ReadsFileTold conversion files file (Err why) → after ≡ Some files → (why ≡ stop.Host → Rose faults faults' (Reading file)) → Came (Err why)
  ended_read stop.Memory told same rose = ended_memory same
  ended_read stop.Host told same rose =
      let j = some_its in
      record {
        job = j.0;
        is_job = as_job conversion file out files j.0 j.1;
        out = λ none. absurd none;
        did = (Reading file, reads_in j.0 _ j.1, rose refl);
        kept = keeps_same j.0.effect files after same;
      }
  ended_read (stop.Fault fault) told same rose = absurd told
  ended_read (stop.Rejected text) (some, is) same rose =
      ended_reject text Longer (is_longer MAX_MODULE_BYTES (get files file) some) (ap (λ t. rejected t file) is) same

  pub ended_made : (bytes : List ℕ) (why : Stop) → get files file ≡ Some bytes → length bytes ≤ MAX_MODULE_BYTES → Gives (Makes conversion file bytes) (Err why) → after ≡ Some files → Came (Err why)
  ended_made bytes stop.Memory read short answer same = ended_memory same
  ended_made bytes stop.Host read short answer same = absurd answer
  ended_made bytes (stop.Fault fault) read short answer same = absurd answer
  ended_made bytes (stop.Rejected text) read short answer same = ended_reject text (Whole bytes) (whole bytes read short) (Err text, answer, refl) same

  wrote : (bytes text : List ℕ) (end : Result (Unit {0}) Stop) → get files file ≡ Some bytes → length bytes ≤ MAX_MODULE_BYTES → Makes conversion file bytes (Ok text) →
      KeepsOthers (Some files) after out → Did [] (made_of file out (Ok text)) files after faults faults' end → Came end
  wrote bytes text end read short answer others did =
      record { job = made_of file out (Ok text); is_job = its (made_of file out (Ok text)) (Whole bytes) (whole bytes read short) (Ok text, answer, refl); out = λ told. refl; did = did; kept = others }

  pub ended_write : (bytes text : List ℕ) (end : Result (Unit {0}) Stop) → get files file ≡ Some bytes → length bytes ≤ MAX_MODULE_BYTES → Gives (Makes conversion file bytes) (Ok text) →
      OnOk end (Sets (Some files) after out text) → KeepsOthers (Some files) after out → (end ≡ Err stop.Host → Rose faults faults' (Writing out)) →
      ((fault : Fault) → end ≡ Err (stop.Fault fault) → ⊥) → ((line : List ℕ) → end ≡ Err (stop.Rejected line) → ⊥) → Came end
  ended_write bytes text (Ok done) read short answer sets others rose sound quiet = wrote bytes text (Ok done) read short answer others (refl, refl, sets)
  ended_write bytes text (Err stop.Host) read short answer sets others rose sound quiet =
      wrote bytes text (Err stop.Host) read short answer others (Writing out, (1, omega arith, refl), rose refl)
  ended_write bytes text (Err stop.Memory) read short answer sets others rose sound quiet = wrote bytes text (Err stop.Memory) read short answer others tt
  ended_write bytes text (Err (stop.Fault fault)) read short answer sets others rose sound quiet = absurd (sound fault refl)
  ended_write bytes text (Err (stop.Rejected line)) read short answer sets others rose sound quiet = absurd (quiet line refl)

-- ---- what a command makes, or tells

pub told_gives : {E : Type 0} (IsMade : Made → Type 0) (line : Result (List ℕ) E) (said : List ℕ) (end : Stop) → IsMade (Err said) → IfOk line (λ text. text ≡ said) →
    MatchResult line (λ text. end ≡ stop.Rejected text) (λ _. end ≡ stop.Memory) → Gives IsMade (Err end)
told_gives IsMade (Ok text) said end made same is = subst (λ (s : Stop). Gives IsMade (Err s)) (sym is) (subst (λ (t : List ℕ). IsMade (Err t)) (sym same) made)
told_gives IsMade (Err e) said end made same is = subst (λ (s : Stop). Gives IsMade (Err s)) (sym is) tt

refused_gives : (bytes : List ℕ) (fault : WordFault) (why : Unlisted) → AreBytes bytes → HasFault bytes fault → Rejects fault why → Gives (Shows bytes) (Err (refused_by why))
refused_gives bytes fault (unlisted.Told status text) fit has (never, eight, is) = (Err fault, ((λ again. (never, has)), (λ other. absurd (other fit))), ap Err is)
refused_gives bytes fault unlisted.Memory fit has r = tt
refused_gives bytes fault unlisted.Host fit has r = absurd r

pub rejects_gives : (bytes : List ℕ) (fault : WordFault) (why : Unlisted) (end : Stop) → AreBytes bytes → HasFault bytes fault → Rejects fault why → end ≡ refused_by why
    → Gives (Shows bytes) (Err end)
rejects_gives bytes fault why end fit has rejects is = subst (λ (s : Stop). Gives (Shows bytes) (Err s)) (sym is) (refused_gives bytes fault why fit has rejects)

pub writes_in : (conversion : Conversion) (file out : Name) → Contains (targets_of (plan_for conversion file out)) (Writing out)
writes_in Disassemble file out = (1, omega arith, refl)
writes_in Assemble file out = (1, omega arith, refl)

pub file_in : (conversion : Conversion) (file out : Name) → Contains (targets_of (plan_for conversion file out)) (Reading file)
file_in Disassemble file out = (0, omega arith, refl)
file_in Assemble file out = (0, omega arith, refl)
