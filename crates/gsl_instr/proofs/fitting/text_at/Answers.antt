use Rattle.std.proofs.Common.{◌-◌, length, get_or, take, drop, arith, sym, ap, ◌∙◌, ◌++◌}
use Rattle.gsl_instr.specs.Texts.{text_at}
use Rattle.gsl_instr.proofs.Texts.{bad_end, good_end, bad_word, good_word, no_end, opened}
use Rattle.gsl_instr.proofs.fitting.text_at.Goals as goal

pub returns-in_default-last_len : goal.returns-in_default-last_len
returns-in_default-last_len c =
    bad_end c.loop-rest.bytes (get_or c.loop-rest.rest.now 0 0) (take (length c.loop-rest.rest.now - 1) (drop 1 c.loop-rest.rest.now)) (text_at c.args.words.now) (omega arith)
    c.in_default-last_len.ensures.value (opened c.loop-rest.bytes c.loop-rest.rest.now _ (omega arith) c.loop-rest.invariant)

pub returns-then-word : goal.returns-then-word
returns-then-word c =
    good_end c.loop-rest.bytes (get_or c.loop-rest.rest.now 0 0) c.in-Some.len (take (length c.loop-rest.rest.now - 1) (drop 1 c.loop-rest.rest.now)) c.extend_from_slice.new.self
    (text_at c.args.words.now) (omega arith) c.in-Some.ensures.value (opened c.loop-rest.bytes c.loop-rest.rest.now _ (omega arith) c.loop-rest.invariant)
    (c.in_ok-extend_from_slice.ensures.ok ∙ ap (λ b. c.loop-rest.bytes ++ take c.in-Some.len b) c.bytes_of.ensures)

pub returns-then-not-is_full : goal.returns-then-not-is_full
returns-then-not-is_full c =
    bad_word c.loop-rest.bytes (get_or c.loop-rest.rest.now 0 0) (take (length c.loop-rest.rest.now - 1) (drop 1 c.loop-rest.rest.now)) (text_at c.args.words.now) (omega arith)
    (sym c.is_full.ensures ∙ c.if-not-is_full.true) (opened c.loop-rest.bytes c.loop-rest.rest.now _ (omega arith) c.loop-rest.invariant)

pub loop-rest-preserved : goal.loop-rest-preserved
loop-rest-preserved c =
    good_word c.loop-rest.bytes (get_or c.loop-rest.rest.now 0 0) (take (length c.loop-rest.rest.now - 1) (drop 1 c.loop-rest.rest.now)) _ (text_at c.args.words.now) (omega arith)
    (sym c.is_full.ensures ∙ c.if-not-is_full.false) (opened c.loop-rest.bytes c.loop-rest.rest.now _ (omega arith) c.loop-rest.invariant)
    (c.in_ok-extend_from_slice-2.ensures.ok ∙ ap (λ b. c.loop-rest.bytes ++ b) c.bytes_of-in-len1-up.ensures)

pub returns : goal.returns
returns c = no_end c.loop-rest.bytes c.loop-rest.rest.now (text_at c.args.words.now) (omega arith) c.loop-rest.invariant
