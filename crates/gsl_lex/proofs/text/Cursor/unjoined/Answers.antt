use Rattle.std.proofs.Common.{sym, ◌∙◌, arith}
use Rattle.gsl_lex.proofs.Lines.{text_join}
use Rattle.gsl_lex.proofs.text.Cursor.unjoined.Goals as goal

pub loop-after-preserved : goal.loop-after-preserved
loop-after-preserved c =
    let met = text_join c.loop-after.line c.loop-after.rest.now c.in-Some.after.now (sym c.in-Some.ensures) in
    (sym met.0 ∙ c.loop-after.invariant.0, omega (arith, met.1, c.loop-after.invariant.1))
