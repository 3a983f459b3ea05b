use Rattle.std.proofs.Common.{ap, sym, ◌∙◌}
use Rattle.gsl_base.specs.declared.input.Buffer.{Buffer}
use Rattle.gsl_words.specs.Words.{put_word}
use Rattle.gsl_slow.specs.States.{pointer_of}
use Rattle.gsl_slow.proofs.Actions.{write_none, write_some}
use Rattle.gsl_slow.proofs.machine.write.Goals as goal

pub returns-in-None-clause-write : goal.returns-in-None-clause-write
returns-in-None-clause-write c = λ go. write_none c.args.instrs.now c.args.buffers.now (pointer_of c.args.to) c.args.word go c.in-None.ensures

pub returns-in-Some-clause-write : goal.returns-in-Some-clause-write
returns-in-Some-clause-write c = λ go.
    let before = c.index-buffers-place.result in
    write_some c.args.instrs.now c.args.buffers.now (pointer_of c.args.to) c.args.word go c.in-Some.place before c.put_in.new.buffer
    (sym c.is_integer.ensures ∙ c.if-not-is_integer.false) c.in-Some.ensures c.index-buffers-place.is
    (c.put_in.ensures ∙ ap (λ (b : Buffer). record b { bytes = put_word b.bytes c.args.to.offset c.args.word }) (sym c.index-buffers-place.is))
