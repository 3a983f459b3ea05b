use Rattle.std.proofs.Common.{arith}
use Rattle.std.proofs.lemmas.List.{take_rest}
use Rattle.gsl_text.proofs.Splitting.{last_line, line_ended}
use Rattle.gsl_text.proofs.lines.first_line.Goals as goal

pub returns-in-empty-clause-lines : goal.returns-in-empty-clause-lines
returns-in-empty-clause-lines c =
    last_line c.args.bytes.now c.split_at.result.0.now c.split_at.result.1.now _ c.piece_len.ensures.value c.split_at.ensures.front c.split_at.ensures.back
    (omega arith) c.requires

pub returns-in-len1-up-clause-lines : goal.returns-in-len1-up-clause-lines
returns-in-len1-up-clause-lines c =
    line_ended c.args.bytes.now c.split_at.result.0.now c.split_at.result.1.now c.without_cr.result.now _ _ c.piece_len.ensures.value c.split_at.ensures.front c.split_at.ensures.back
    (omega arith) c.without_cr.ensures (take_rest c.split_at.result.1.now 1)
