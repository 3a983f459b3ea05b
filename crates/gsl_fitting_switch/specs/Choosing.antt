-- The arms of a `switch`.
use Rattle.std.specs.Prelude.{◌≡◌, ◌<◌, ℕ, true, false, List, [], ◌∷◌, ◌++◌, length}
use Rattle.std.specs.List.{AllByRecursion}
use Rattle.gsl_spv.specs.Sections.{Sections}
use Rattle.gsl_lower_holders.specs.Flow.{Flow}
use Rattle.gsl_lower_stmt.specs.Parts.{LowerArm}
use Rattle.gsl_lower_stmt.specs.declared.exits.Exits.{Exits}
use Rattle.gsl_fitting.specs.Fits.{Frame}
use Rattle.gsl_fitting_stmt.specs.Doing.{Runs}

-- the literals of all arms, in their order
abbrev pub all_literals : List (List ℕ) → List ℕ
all_literals [] = []
all_literals (words ∷ more) = words ++ all_literals more

-- Each of some arms has a literal.
abbrev pub AreNamed : List LowerArm → Type 0
AreNamed arms = AllByRecursion (λ (arm : LowerArm). 0 < length arm.labels) arms

-- Each arm has a literal, or but for the default: the first of the defaults has none.
pub data HaveLiterals : List LowerArm → Type 0 where
  all_named : {arms : List LowerArm} → AreNamed arms → HaveLiterals arms
  default_apart : (front back : List LowerArm) (arm : LowerArm) → AreNamed front → AllByRecursion (λ (one : LowerArm). one.is_default ≡ false) front → arm.labels ≡ [] → arm.is_default ≡ true → AreNamed back → HaveLiterals (front ++ arm ∷ back)

module _ (whole : Sections) (main : ℕ) (local_size : List ℕ) (rank : ℕ → ℕ) (f : Frame) where
  -- Arms run, wherever `break` and `continue` lead.
  pub data ArmsRun (s : Flow) (deep : ℕ) : List LowerArm → List ℕ → Type 0 where
    no_arm : ArmsRun s deep [] []
    one_arm : {arm : LowerArm} {arms : List LowerArm} {asks others : List ℕ} → ((exits : Exits) → Runs whole main local_size rank f s asks deep arm.leaves exits (arm.run exits)) → ArmsRun s deep arms others → ArmsRun s deep (arm ∷ arms) (asks ++ others)
