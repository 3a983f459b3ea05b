use Rattle.std.proofs.Common.{sym, ◌∙◌}
use Rattle.gsl_expr.proofs.Drawn.{advanced}
use Rattle.gsl_expr.proofs.reading.Cursor.advance.Goals as goal

pub returns : goal.returns
returns c = advanced _ _ _ _ _ _ _ _ _ (sym c.self.view_is) (sym c.take.ensures.value ∙ c.in-Some.is) c.take-2.ensures.value c.in_ok-self-inside.ensures
