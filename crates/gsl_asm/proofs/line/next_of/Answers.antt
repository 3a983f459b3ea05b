use Rattle.gsl_asm.proofs.Cutting.{words_end, words_comment, words_word, words_bad, some_bytes, no_bytes}
use Rattle.gsl_asm.proofs.line.next_of.Goals as goal

pub returns-then-is_empty-clause-next : goal.returns-then-is_empty-clause-next
returns-then-is_empty-clause-next c = words_end c.args.bytes.now (no_bytes c.args.bytes.now c.is_empty.result c.is_empty.ensures c.if-is_empty.true)

pub returns-then-bytes-eq59-clause-next : goal.returns-then-bytes-eq59-clause-next
returns-then-bytes-eq59-clause-next c = words_comment c.args.bytes.now (some_bytes c.args.bytes.now c.is_empty.result c.is_empty.ensures c.if-is_empty.false) c.requires c.if-bytes-eq59.true

pub returns-in-None-clause-next : goal.returns-in-None-clause-next
returns-in-None-clause-next c = words_bad c.args.bytes.now (some_bytes c.args.bytes.now c.is_empty.result c.is_empty.ensures c.if-is_empty.false) c.requires c.if-bytes-eq59.false c.in-None.ensures.value

pub returns-in-Some-clause-next : goal.returns-in-Some-clause-next
returns-in-Some-clause-next c =
    words_word c.args.bytes.now c.in-Some.word c.in-Some.len (some_bytes c.args.bytes.now c.is_empty.result c.is_empty.ensures c.if-is_empty.false) c.requires c.if-bytes-eq59.false
    c.in-Some.ensures.value c.in-Some.ensures.some
