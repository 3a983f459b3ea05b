use Rattle.std.proofs.Common.{◌∷◌, get_or, sym, ap, ◌∙◌, arith}
use Rattle.gsl_lex.specs.Lines.{text_from}
use Rattle.gsl_lex.proofs.Lines.{plain_first, on, drop_rest}
use Rattle.gsl_lex.proofs.text.Cursor.step.Goals as goal

pub returns-in-len1-up : goal.returns-in-len1-up
returns-in-len1-up c = (
  sym c.self.view_is
      ∙ plain_first c.self.inside.line c.self.inside.rest.now c.in-len1-up.len_at_least (sym c.is_plain.ensures ∙ c.if-is_plain.true)
      ∙ ap (λ rest. on c.self.inside.line (get_or c.self.inside.rest.now 0 0) ∷ rest) (ap (text_from c.self.inside.line) (drop_rest 1 c.self.inside.rest.now) ∙ sym c.at.ensures),
  omega (arith, c.self.invariant, c.in-len1-up.len_at_least),
)
