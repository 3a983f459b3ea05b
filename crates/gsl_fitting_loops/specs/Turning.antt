-- What a loop evaluates on its way.
use Rattle.std.specs.Prelude.{ℕ, ◌≤◌, Bool, true, false, List, [], Option, Some, None}
use Rattle.gsl_tree.specs.Shapes.{flag}
use Rattle.gsl_spv.specs.Sections.{Sections}
use Rattle.gsl_lower_holders.specs.Flow.{Emit, Flow}
use Rattle.gsl_fitting.specs.Fits.{Frame}
use Rattle.gsl_fitting_types.specs.Making.{IsTypeOf}
use Rattle.gsl_fitting_expr.specs.Evaluating.{Evaluates}

module _ (whole : Sections) (main : ℕ) (local_size : List ℕ) (rank : ℕ → ℕ) (f : Frame) where
  -- A value that is dropped, if there is one, evaluates.
  pub data Drops (s : Flow) (deep : ℕ) : Option (Emit ℕ) → List ℕ → Type 0 where
    no_value : Drops s deep None []
    one_value : {asks : List ℕ} {splits : Bool} {type : ℕ} {value : Emit ℕ} → Evaluates whole main local_size rank f s asks deep splits type value → Drops s deep (Some value) asks

  -- So does the condition of a loop, if there is one: it takes its holders before the body or behind the step. Before the body it nests a
  -- construct more.
  pub data Turns (s : Flow) (deep : ℕ) : Bool → Option (Emit ℕ) → List ℕ → List ℕ → Type 0 where
    untested : {last : Bool} → Turns s deep last None [] []
    tested_first : {asks : List ℕ} {splits : Bool} {truth : ℕ} {value : Emit ℕ} → IsTypeOf whole flag truth → Evaluates whole main local_size rank f s asks deep splits truth value → 1 ≤ deep → Turns s deep false (Some value) asks []
    tested_last : {asks : List ℕ} {splits : Bool} {truth : ℕ} {value : Emit ℕ} → IsTypeOf whole flag truth → Evaluates whole main local_size rank f s asks deep splits truth value → Turns s deep true (Some value) [] asks
