-- What the words ask for is one job.
use Rattle.std.proofs.Common.{◌≡◌, ℕ, List, ◌∷◌, [], ◌++◌, Result, Ok, Err, ap, sym, ◌∙◌}
use Rattle.std.specs.FinMap.{get}
use Rattle.gsl_base.specs.Checked.{Checked}
use Rattle.gsl_base.specs.declared.stage.Stage.{Stage}
use Rattle.gsl_host.specs.declared.target.Target.{Target}
use Rattle.gsl_host.specs.declared.target.Target.TheVariants.{Reading}
use Rattle.gsl_host.specs.Outside.{Files, Name}
use Rattle.gsl_text.specs.Lines.{lines_of}
use Rattle.gsl_manifest.specs.declared.manifest.Manifest.{Manifest}
use Rattle.gsl_manifest.specs.Manifests.{AreManifest, BreaksAt}
use Rattle.gsl_tree.specs.declared.program.Program.{Program}
use Rattle.gsl_cmd.specs.Job.{Job, Gathered, Sources, Absent, TooLong, gather, reads}
use Rattle.gsl_cmd.specs.Verdict.{linked_of}
use Rattle.gsl_reference.specs.Asked.{Asked}
use Rattle.gsl_reference.specs.Owed.{run_by, Says, IsProgramJob, Manifested, Missing, Longer, Whole, manifested, IsInputsJob, IsSourcesJob, IsJob}

module _ (one : (lines : List (List ℕ)) (m k : Manifest) → AreManifest lines m → AreManifest lines k → m ≡ k)
    (one_break : (lines : List (List ℕ)) (n k : ℕ) → BreaksAt lines n → BreaksAt lines k → n ≡ k)
    (never_both : (lines : List (List ℕ)) (m : Manifest) (n : ℕ) → AreManifest lines m → BreaksAt lines n → ⊥) where
  one_said : (bytes : List ℕ) (a b : Result Manifest ℕ) → Says bytes a → Says bytes b → a ≡ b
  one_said bytes (Ok m) (Ok k) is same = ap Ok (one (lines_of bytes) m k is same)
  one_said bytes (Ok m) (Err n) is same = absurd (never_both (lines_of bytes) m n is same)
  one_said bytes (Err n) (Ok m) is same = absurd (never_both (lines_of bytes) m n same is)
  one_said bytes (Err n) (Err k) is same = ap Err (one_break (lines_of bytes) n k is same)

  module _ (files : Files) (names : List Name) (targets : List Target) (j k : Job) where
    one_program : (bytes : List ℕ) (made : Checked Program) → IsProgramJob files names bytes targets j made → IsProgramJob files names bytes targets k made → j ≡ k
    one_program bytes (Ok p) (a, says, is) (b, also, same) = is ∙ ap (run_by files targets p) (one_said bytes a b says also) ∙ sym same
    one_program bytes (Err fault) is same = is ∙ sym same

    one_inputs : (stage : Stage) (sources : List (List ℕ)) (found : Manifested) → IsInputsJob files stage names sources targets j found → IsInputsJob files stage names sources targets k found
        → j ≡ k
    one_inputs stage sources Missing is same = is ∙ sym same
    one_inputs stage sources Longer is same = is ∙ sym same
    one_inputs stage sources (Whole bytes) is same = one_program bytes (linked_of stage sources) is same

  one_sources : (asked : Asked) (files : Files) (targets : List Target) (j k : Job) (gathered : Gathered) → IsSourcesJob asked files targets j gathered → IsSourcesJob asked files targets k gathered
      → j ≡ k
  one_sources asked files targets j k Absent is same = is ∙ sym same
  one_sources asked files targets j k (TooLong unit) is same = is ∙ sym same
  one_sources asked files targets j k (Sources sources) is same =
      one_inputs files asked.sources (targets ++ Reading asked.inputs ∷ []) j k asked.stage sources (manifested (get files asked.inputs)) is same

  pub one_asked : (asked : Asked) (files : Files) (j k : Job) → IsJob asked files j → IsJob asked files k → j ≡ k
  one_asked asked files j k is same = one_sources asked files (reads files asked.sources) j k (gather files 0 asked.sources) is same
