use Rattle.std.proofs.Common.{◌≡◌, ℕ, ◌+◌, length}
use Rattle.gsl_words.specs.declared.module.Instr.{Instr}
use Rattle.gsl_words.specs.declared.module.Module.{Module}
use Rattle.gsl_ids.specs.Pass.{first_failed}
use Rattle.gsl_valid_entry.specs.Stages.{entry_at}
use Rattle.gsl_valid_entry.proofs.entry_point.first_unkept.Given as goal

abbrev pub invariant-loop-place : goal.invariant-loop-place
invariant-loop-place l =
    (first_failed entry_at (λ (m : Module) (at : ℕ) (i : Instr). m) l.stage l.at l.each ≡ first_failed entry_at (λ (m : Module) (at : ℕ) (i : Instr). m) l.stage 0 l.fn.each)
    × (l.at + length l.each ≡ length l.fn.each)

abbrev pub decreases-loop-place : goal.decreases-loop-place
decreases-loop-place l = length l.each
