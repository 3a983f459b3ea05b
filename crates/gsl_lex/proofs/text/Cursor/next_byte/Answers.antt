use Rattle.std.proofs.Common.{sym, ap, ◌∙◌}
use Rattle.gsl_lex.specs.Reading.{next_of}
use Rattle.gsl_lex.proofs.Lines.{plain_first}
use Rattle.gsl_lex.proofs.text.Cursor.next_byte.Goals as goal

pub returns-in-len1-up : goal.returns-in-len1-up
returns-in-len1-up c =
    sym (ap next_of (sym c.self.view_is ∙ plain_first c.self.inside.line c.self.inside.rest.now c.in-len1-up.len_at_least (sym c.is_plain.ensures ∙ c.if-is_plain.true)))
