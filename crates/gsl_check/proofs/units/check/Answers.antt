use Rattle.std.proofs.Common.{◌∙◌, ap, subst, List, []}
use Rattle.gsl_base.specs.Checked.{Gives}
use Rattle.gsl_tree.specs.declared.unit.Function.{Function}
use Rattle.gsl_check_expr.specs.declared.env.Env.{Env}
use Rattle.gsl_check.specs.Units.{Progress, with_functions, finished, checked}
use Rattle.gsl_check.proofs.units.check.Goals as goal

pub returns : goal.returns
unfolding checked
returns c =
    subst (λ (p : Progress). Gives c.finished.result (finished c.args.unit.now p))
    (ap (λ (fs : List Function). with_functions (fs, c.in_ok-env.env)) c.new.ensures ∙ ap (λ (e : Env). with_functions ([], e)) c.in_ok-env.ensures)
    c.finished.ensures
