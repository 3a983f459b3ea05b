-- What a `switch` does, over what its value and its arms do (GLSL 4.50, 6.2).
use Rattle.std.specs.Prelude.{◌≡◌, List, [], ◌∷◌}
use Rattle.gsl_base.specs.declared.input.Input.{Input}
use Rattle.gsl_words.specs.declared.module.Module.{Module}
use Rattle.gsl_values.specs.declared.value.Value.{Value}
use Rattle.gsl_tree.specs.Around.{Around}
use Rattle.gsl_tree.specs.Values.{word_in}
use Rattle.gsl_tree.specs.declared.program.Program.{Program}
use Rattle.gsl_meaning.specs.Running.{Run, ◌>>=◌}
use Rattle.gsl_meaning.specs.Statements as statement
use Rattle.gsl_meaning.specs.Statements.{Arm, arms_for, behind_switch, falling}
use Rattle.gsl_spv.specs.Sections.{Sections}
use Rattle.gsl_lower_stmt.specs.Parts.{LowerArm}
use Rattle.gsl_lower_follows.specs.Frames.{Frame}
use Rattle.gsl_lower_law_stmt.specs.Doing.{DoesStatement}

-- what a `switch` does, of a value and arms
abbrev pub switched_means : Run Value → List Arm → Run statement.Flow
switched_means value arms = value >>= (λ v. falling (arms_for (word_in v) arms) >>= behind_switch)

module _ (m : Module) (input : Input) (sections : Sections) (f : Frame m input sections) (p : Program) (around : Around) where
  -- An arm as it is lowered has the labels of the one that is meant, and does what that does.
  pub record IsArm (arm : LowerArm) (means : Arm) : Type 0 where
    pub labels : arm.labels ≡ means.labels
    pub is_default : arm.is_default ≡ means.is_default
    pub does : DoesStatement m input sections f p around arm.leaves arm.run means.body

  -- Each of some arms is the one at its place.
  abbrev pub AreArms : List LowerArm → List Arm → Type 0
  AreArms [] [] = Unit {0}
  AreArms [] (means ∷ more) = ⊥
  AreArms (arm ∷ arms) [] = ⊥
  AreArms (arm ∷ arms) (means ∷ more) = IsArm arm means × AreArms arms more
