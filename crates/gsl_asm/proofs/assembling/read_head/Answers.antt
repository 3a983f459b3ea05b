use Rattle.std.proofs.Common.{◌+◌, sym, ap, ◌∙◌}
use Rattle.gsl_text.proofs.Splitting.{no_lines}
use Rattle.gsl_asm.specs.Reading.{module_from}
use Rattle.gsl_asm.proofs.assembling.read_head.Goals as goal

pub returns : goal.returns
returns c = sym c.loop-rest.invariant.read ∙ ap (λ lines. module_from (c.loop-rest.line + 1) lines) (no_lines c.loop-rest.rest.now c.loop-rest-test.ensures)
