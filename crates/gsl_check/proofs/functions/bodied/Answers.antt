use Rattle.std.proofs.Common.{◌∙◌, sym, ap}
use Rattle.gsl_check_expr.specs.declared.env.Env.{Env}
use Rattle.gsl_check_stmt.specs.declared.within.Within.{Within}
use Rattle.gsl_check_stmt.specs.Statements.{statements}
use Rattle.gsl_check_heads.specs.Heads.{head_in, entered}
use Rattle.gsl_check.proofs.Behind.{bodied_is}
use Rattle.gsl_check.proofs.functions.bodied.Goals as goal

pub returns : goal.returns
returns c =
    let h = head_in c.args.head.now c.args.env.now in
    let is = ap (λ (w : Within). statements h.result c.args.body.now w (entered h)) (sym c.nowhere.ensures)
    ∙ ap (λ (e : Env). statements h.result c.args.body.now c.nowhere.result e) (sym c.in_ok-outside.ensures.is)
    ∙ c.in_ok-all.ensures in
    bodied_is h c.in_ok-outside.ensures.scopes c.args.name.now c.args.body.now c.in_ok-outside.outside c.in_ok-all.all c.statements.new.env c.behind_body.new.env c.behind_body.result
    c.in_ok-outside.ensures.outside is c.behind_body.ensures.left c.behind_body.ensures.is
