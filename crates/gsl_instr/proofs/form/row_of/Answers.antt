use Rattle.std.proofs.Common.{◌≤◌, subst, sym, refl}
use Rattle.gsl_instr.specs.declared.form.TheConstants.{ROWS}
use Rattle.gsl_instr.proofs.form.row_of.Goals as goal
use Rattle.gsl_instr.proofs.Forms.{all_below, none_behind}

pub returns-then-op-lt256-clause-known : goal.returns-then-op-lt256-clause-known
returns-then-op-lt256-clause-known c = subst (λ n. n ≤ 86) (sym c.from-then-op-lt256.ensures) (all_below ROWS c.from.result refl)

pub returns-else-op-lt256-clause-is : goal.returns-else-op-lt256-clause-is
returns-else-op-lt256-clause-is c = none_behind _ c.if-op-lt256.false
