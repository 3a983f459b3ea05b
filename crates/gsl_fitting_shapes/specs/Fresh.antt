-- Labels that are still to be taken, and the heads of selections.
use Rattle.std.specs.Prelude.{◌≡◌, ◌≢◌, ℕ, ◌≤◌, true, false, List}
use Rattle.std.specs.List.{AllByRecursion}
use Rattle.gsl_words.specs.declared.module.Instr.{Instr}
use Rattle.gsl_words.specs.declared.module.Module.{Module}
use Rattle.gsl_blocks.specs.declared.around.Around.{Around}
use Rattle.gsl_blocks.specs.declared.block.End.TheVariants.{Conditional, Switch}
use Rattle.gsl_blocks.specs.declared.block.Merge.TheVariants.{Selection}
use Rattle.gsl_blocks.specs.declared.block.Role.TheVariants.{Merges, Ends}
use Rattle.gsl_blocks.specs.Around.{may_end}
use Rattle.gsl_blocks.specs.Blocks.{role_at}
use Rattle.gsl_blocks.specs.Targets.{all_differ, firsts, once}
use Rattle.gsl_instr.specs.Instructions.{seconds}
use Rattle.gsl_fitting.specs.Fits.{Frame, Sits}

-- No label from a number on ends a run that this is around: it is neither its follow nor an exit.
pub record Fresh (c : Around) (least : ℕ) : Type 0 where
  pub ends : (label : ℕ) → least ≤ label → may_end c label ≡ false

-- Two instructions are the merge of a selection and the branch to its arms, and may stand in a block that has given these ids.
pub record Selects (m : Module) (rank : ℕ → ℕ) (f : Frame) (given : List ℕ) (i j : Instr) (merge on_true on_false : ℕ) : Type 0 where
  pub merges : role_at i.op i.args ≡ Merges (Selection merge)
  pub forks : role_at j.op j.args ≡ Ends (Conditional on_true on_false)
  pub first : Sits m rank f given i
  pub second : Sits m rank f given j

-- Two instructions are the merge of a switch and the switch itself, whose literals differ and lead to these labels in the order of their
-- first mention.
pub record Chooses (m : Module) (rank : ℕ → ℕ) (f : Frame) (given : List ℕ) (i j : Instr) (merge default : ℕ) (targets labels : List ℕ) : Type 0 where
  pub merges : role_at i.op i.args ≡ Merges (Selection merge)
  pub chooses : role_at j.op j.args ≡ Ends (Switch default targets)
  pub differ : all_differ (firsts targets) ≡ true
  pub mentions : once (seconds targets) ≡ labels
  pub first : Sits m rank f given i
  pub second : Sits m rank f given j

-- Labels are new from a number on, and none is the merge.
abbrev pub AreNew : ℕ → ℕ → List ℕ → Type 0
AreNew least merge labels = AllByRecursion (λ label. (least ≤ label) × (label ≢ merge)) labels
