use Rattle.std.proofs.Common.{length, arith, sym, ◌∙◌}
use Rattle.gsl_asm.proofs.Cutting.{blank_skipped, fewer}
use Rattle.gsl_asm.proofs.line.skip_blanks.Goals as goal

pub loop-rest-preserved : goal.loop-rest-preserved
loop-rest-preserved c = (blank_skipped c.loop-rest.rest.now (omega arith) (sym c.is_blank.ensures ∙ c.if-not-is_blank.false) ∙ c.loop-rest.invariant.0, fewer c.loop-rest.rest.now (length c.args.bytes.now) c.loop-rest.invariant.1)
