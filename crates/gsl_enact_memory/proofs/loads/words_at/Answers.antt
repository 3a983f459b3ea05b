use Rattle.std.proofs.Common.{◌+◌, ◌*◌, ◌<◌, ◌∙◌, ap, arith}
use Rattle.gsl_words.specs.Words.{word_at}
use Rattle.gsl_enact_memory.proofs.Storing.{run_on}
use Rattle.gsl_enact_memory.proofs.loads.words_at.Goals as goal

pub loop-k-preserved : goal.loop-k-preserved
loop-k-preserved c =
    let below : c.loop-k.k < c.lanes_size-size.result = omega (arith, c.loop-k-test.true) in
    run_on (λ k. word_at c.args.bytes.now (c.args.offset + 4 * k)) c.loop-k.words c.push.new.self c.loop-k.k c.lanes_size-size.result c.word_at.result _ below c.in_ok-push.ensures.ok
    (c.word_at.ensures ∙ ap (λ b. word_at b (c.args.offset + 4 * c.loop-k.k)) c.as_slice.ensures) c.loop-k.invariant
