-- Which label a word leads to.
use Rattle.std.proofs.Common.{◌≡◌, refl, ap, ◌∙◌, ℕ, Bool, true, false, ◌||◌, ◌==◌, if◌then◌else◌, List, [], ◌∷◌, ◌++◌, length, arith}
use Rattle.std.specs.List.{list_any}
use Rattle.gsl_base.specs.declared.input.Input.{Input}
use Rattle.gsl_words.specs.declared.module.Module.{Module}
use Rattle.gsl_tree.specs.Around.{Around}
use Rattle.gsl_tree.specs.declared.program.Program.{Program}
use Rattle.gsl_meaning.specs.Statements.{Arm, has_label}
use Rattle.gsl_machine.specs.Steps.{label_for}
use Rattle.gsl_spv.specs.Sections.{Sections}
use Rattle.gsl_lower_stmt.specs.Lowering.{defaults_of, words_of}
use Rattle.gsl_lower_stmt.specs.Parts.{LowerArm, default_of, pairs, targets}
use Rattle.gsl_lower_follows.specs.Frames.{Frame}
use Rattle.gsl_lower_law_switch.specs.Choosing.{AreArms}

-- the label of the first arm that is wanted, or else this one
abbrev pub label_by : (LowerArm → Bool) → ℕ → List ℕ → List LowerArm → ℕ
label_by test end [] arms = end
label_by test end (label ∷ labels) [] = end
label_by test end (label ∷ labels) (arm ∷ arms) = if test arm then label else label_by test end labels arms

abbrev pub has : ℕ → LowerArm → Bool
has word arm = list_any (λ label. label == word) arm.labels

pub default_is : (end : ℕ) (labels : List ℕ) (arms : List LowerArm) → default_of (defaults_of arms) labels end ≡ label_by (λ (arm : LowerArm). arm.is_default) end labels arms
default_is end [] [] = refl
default_is end [] (arm ∷ arms) = refl
default_is end (label ∷ labels) [] = refl
default_is end (label ∷ labels) (arm ∷ arms) = ap (λ l. if arm.is_default then label else l) (default_is end labels arms)

-- among the literals of one arm
among_pairs : (word default label : ℕ) (words rest : List ℕ) → label_for word default (pairs label words ++ rest) ≡ (if list_any (λ l. l == word) words then label else label_for word default rest)
among_pairs word default label [] rest = refl
among_pairs word default label (first ∷ words) rest = by (first == word) (among_pairs word default label words rest)
  where
    by : (is : Bool) → label_for word default (pairs label words ++ rest) ≡ (if list_any (λ l. l == word) words then label else label_for word default rest)
        → (if is then label else label_for word default (pairs label words ++ rest)) ≡ (if is || list_any (λ l. l == word) words then label else label_for word default rest)
    by true e = refl
    by false e = e

pub label_is : (word default : ℕ) (labels : List ℕ) (arms : List LowerArm) → label_for word default (targets (words_of arms) labels) ≡ label_by (has word) default labels arms
label_is word default [] [] = refl
label_is word default [] (arm ∷ arms) = refl
label_is word default (label ∷ labels) [] = refl
label_is word default (label ∷ labels) (arm ∷ arms) = among_pairs word default label arm.labels (targets (words_of arms) labels) ∙ ap (λ l. if has word arm then label else l) (label_is word default labels arms)

-- Where an arm is wanted, it matters not what else would be the label; and where none is, that is the label.
pub label_found : (test : LowerArm → Bool) (one other : ℕ) (labels : List ℕ) (arms : List LowerArm) → length labels ≡ length arms → list_any test arms ≡ true → label_by test one labels arms ≡ label_by test other labels arms
label_found test one other [] [] long is = absurd cc
label_found test one other [] (arm ∷ arms) long is = absurd (omega (arith, long))
label_found test one other (label ∷ labels) [] long is = absurd (omega (arith, long))
label_found test one other (label ∷ labels) (arm ∷ arms) long is = by (test arm) (label_found test one other labels arms (omega (arith, long))) is
  where
    by : (wanted : Bool) → (list_any test arms ≡ true → label_by test one labels arms ≡ label_by test other labels arms) → wanted || list_any test arms ≡ true
        → (if wanted then label else label_by test one labels arms) ≡ (if wanted then label else label_by test other labels arms)
    by true more e = refl
    by false more e = more e

pub label_missed : (test : LowerArm → Bool) (default : ℕ) (labels : List ℕ) (arms : List LowerArm) → list_any test arms ≡ false → label_by test default labels arms ≡ default
label_missed test default [] arms is = refl
label_missed test default (label ∷ labels) [] is = refl
label_missed test default (label ∷ labels) (arm ∷ arms) is = by (test arm) (label_missed test default labels arms) is
  where
    by : (wanted : Bool) → (list_any test arms ≡ false → label_by test default labels arms ≡ default) → wanted || list_any test arms ≡ false → (if wanted then label else label_by test default labels arms) ≡ default
    by true more e = absurd cc
    by false more e = more e

module _ (m : Module) (input : Input) (sections : Sections) (f : Frame m input sections) (p : Program) (around : Around) where
  -- a label is among those of arms as they are lowered, where it is among those that are meant
  pub any_is : (word : ℕ) (arms : List LowerArm) (means : List Arm) → AreArms m input sections f p around arms means → list_any (has word) arms ≡ list_any (has_label word) means
  any_is word [] [] are = refl
  any_is word [] (means ∷ more) are = absurd are
  any_is word (arm ∷ arms) [] are = absurd are
  any_is word (arm ∷ arms) (means ∷ more) are = ap (λ labels. list_any (λ label. label == word) labels || list_any (has word) arms) are.0.labels ∙ ap (λ b. has_label word means || b) (any_is word arms more are.1)
