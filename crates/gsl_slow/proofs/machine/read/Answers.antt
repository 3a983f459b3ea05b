use Rattle.std.proofs.Common.{ap, sym, ◌∙◌}
use Rattle.gsl_base.specs.declared.input.Buffer.{Buffer}
use Rattle.gsl_words.specs.Words.{word_at}
use Rattle.gsl_slow.specs.States.{pointer_of}
use Rattle.gsl_slow.proofs.Actions.{read_none, read_some}
use Rattle.gsl_slow.proofs.machine.read.Goals as goal

pub returns-in-None : goal.returns-in-None
returns-in-None c = λ go. read_none c.args.instrs.now c.args.buffers.now (pointer_of c.args.from) go c.in-None.ensures

pub returns-in-Some : goal.returns-in-Some
returns-in-Some c = λ go.
    let before = c.index-buffers-place.result in
    read_some c.args.instrs.now c.args.buffers.now (pointer_of c.args.from) go c.in-Some.place before
    (sym c.is_integer.ensures ∙ c.if-not-is_integer.false) c.in-Some.ensures c.index-buffers-place.is
    ∙ ap go (sym (c.word_at.ensures ∙ ap (λ bytes. word_at bytes c.args.from.offset) (c.as_slice.ensures ∙ ap (λ (b : Buffer). b.bytes) (sym c.index-buffers-place.is))))
