use Rattle.std.proofs.Common.{◌+◌, append-nil, sym, ap, ◌∙◌}
use Rattle.std.specs.Prelude.{Ok}
use Rattle.gsl_text.proofs.Splitting.{no_lines}
use Rattle.gsl_asm.specs.Reading.{body, code_before}
use Rattle.gsl_asm.proofs.assembling.read_body.Goals as goal

pub returns : goal.returns
returns c =
    sym c.loop-rest.invariant.read
    ∙ ap (λ lines. code_before c.loop-rest.instrs (body c.args.target (c.loop-rest.number + 1) lines)) (no_lines c.loop-rest.rest.now c.loop-rest-test.ensures)
    ∙ ap Ok (append-nil c.loop-rest.instrs)
