-- Straight code: instructions that are done one by one.
use Rattle.std.specs.Prelude.{◌≡◌, ℕ, List, ◌++◌, length}
use Rattle.gsl_base.specs.declared.input.Input.{Input}
use Rattle.gsl_words.specs.declared.module.Module.{Module}
use Rattle.gsl_valid.specs.Placed.{Code, Placed, placed_from}
use Rattle.gsl_machine.specs.Machine.{run}
use Rattle.gsl_machine.specs.State.{Going, State}

-- Wherever these instructions stand and whatever stands behind them: they are done one by one, and lead from the one state to the other. What
-- is still to come in the two states does not count; it is these instructions with what is behind them, and then that alone.
abbrev pub Leads : Module → Input → Code → State → State → Type 0
Leads m input code before after =
    (at : ℕ) (rest : List Placed) → run m input (length code) (record before { rest = placed_from at code ++ rest }) ≡ Going (record after { rest = rest })
