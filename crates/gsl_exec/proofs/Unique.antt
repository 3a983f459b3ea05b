-- No two things are owed.
use Rattle.std.proofs.Common.{◌≡◌, ℕ, List, Option, Some, None, Result, Ok, Err, ap, sym, subst, ◌∙◌}
use Rattle.gsl_base.specs.declared.input.Input.{Input}
use Rattle.gsl_host.specs.declared.target.Target.{Target}
use Rattle.gsl_host.specs.Outside.{Files, Name}
use Rattle.gsl_text.specs.Lines.{lines_of}
use Rattle.gsl_manifest.specs.declared.manifest.Manifest.{Manifest}
use Rattle.gsl_manifest.specs.Manifests.{AreManifest, BreaksAt}
use Rattle.gsl_inputs.specs.Demands.{Met}
use Rattle.gsl_given.specs.Given.{Found, Got, Absent, TooLong}
use Rattle.gsl_words.specs.declared.fault.WordFault.{WordFault}
use Rattle.gsl_words.specs.declared.module.Module.{Module}
use Rattle.gsl_machine.specs.Fits.{fits}
use Rattle.gsl_machine.specs.State.{Outcome, Ended, Going, Strayed, Stuck}
use Rattle.gsl_exec.specs.Judged.{refusal_of}
use Rattle.gsl_exec.specs.Owed.{Owed, Says, Read, Missing, Longer, Whole, IsCame, IsTested, IsGiven, IsSaid, IsTaken, IsJudged, IsBehind, IsRead}
use Rattle.gsl_exec.proofs.Verdicts.{one_file}

module _ (a b : Owed) where
  one_came : (targets : List Target) (o : Outcome) → IsCame targets a o → IsCame targets b o → a ≡ b
  one_came targets (Ended output) is same = is ∙ sym same
  one_came targets (Going state) is same = is ∙ sym same
  one_came targets (Strayed place) is same = is ∙ sym same
  one_came targets Stuck is same = absurd is

  one_tested : (targets : List Target) (m : Module) (steps : ℕ) (input : Input) (met : Met) → IsTested targets m steps input a met → IsTested targets m steps input b met → a ≡ b
  one_tested targets m steps input (Ok fitting) is same = one_came targets _ is same
  one_tested targets m steps input (Err refusal) is same = is ∙ sym same

  one_given : (targets : List Target) (m : Module) (steps : ℕ) (found : Found Input) → IsGiven targets m steps a found → IsGiven targets m steps b found → a ≡ b
  one_given targets m steps (Got input) is same = one_tested targets m steps input (fits m input) is same
  one_given targets m steps Absent is same = is ∙ sym same
  one_given targets m steps (TooLong line) is same = is ∙ sym same

  one_of_said : (files : Files) (targets : List Target) (m : Module) (said : Result Manifest ℕ) → IsSaid files targets m a said → IsSaid files targets m b said → a ≡ b
  one_of_said files targets m (Ok said) is same = one_given _ m said.steps _ is same
  one_of_said files targets m (Err line) is same = is ∙ sym same

module _ (one : (lines : List (List ℕ)) (m k : Manifest) → AreManifest lines m → AreManifest lines k → m ≡ k)
    (one_break : (lines : List (List ℕ)) (n k : ℕ) → BreaksAt lines n → BreaksAt lines k → n ≡ k)
    (never_both : (lines : List (List ℕ)) (m : Manifest) (n : ℕ) → AreManifest lines m → BreaksAt lines n → ⊥) where
  one_said : (bytes : List ℕ) (x y : Result Manifest ℕ) → Says bytes x → Says bytes y → x ≡ y
  one_said bytes (Ok m) (Ok k) is same = ap Ok (one (lines_of bytes) m k is same)
  one_said bytes (Ok m) (Err n) is same = absurd (never_both (lines_of bytes) m n is same)
  one_said bytes (Err n) (Ok m) is same = absurd (never_both (lines_of bytes) m n same is)
  one_said bytes (Err n) (Err k) is same = ap Err (one_break (lines_of bytes) n k is same)

  module _ (files : Files) (a b : Owed) where
    pub one_taken : (text : List ℕ) (targets : List Target) (verdict : Result Module WordFault) (refusal : Option (List ℕ)) → IsTaken files text targets a verdict refusal
        → IsTaken files text targets b verdict refusal → a ≡ b
    one_taken text targets verdict (Some line) is same = is ∙ sym same
    one_taken text targets (Ok m) None (x, says, is) (y, also, same) =
        one_of_said a b files targets m x is (subst (λ (s : Result Manifest ℕ). IsSaid files targets m b s) (one_said text y x also says) same)
    one_taken text targets (Err fault) None is same = absurd is

    one_judged : (bytes text : List ℕ) (targets : List Target) → IsJudged files bytes text targets a → IsJudged files bytes text targets b → a ≡ b
    one_judged bytes text targets (v, judged, is) (w, also, same) =
        one_taken text targets v (refusal_of v) is (subst (λ (x : Result Module WordFault). IsTaken files text targets b x (refusal_of x)) (one_file bytes w v also judged) same)

    one_behind : (bytes : List ℕ) (targets : List Target) (found : Read) → IsBehind files bytes targets a found → IsBehind files bytes targets b found → a ≡ b
    one_behind bytes targets Missing is same = is ∙ sym same
    one_behind bytes targets Longer is same = is ∙ sym same
    one_behind bytes targets (Whole text) is same = one_judged bytes text targets is same

    pub one_read : (file inputs : Name) (found : Read) → IsRead file inputs files a found → IsRead file inputs files b found → a ≡ b
    one_read file inputs Missing is same = is ∙ sym same
    one_read file inputs Longer is same = is ∙ sym same
    one_read file inputs (Whole bytes) is same = one_behind bytes _ _ is same
