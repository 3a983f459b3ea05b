use Rattle.std.proofs.Common.{[], ◌+◌, length, ap, ◌∙◌}
use Rattle.std.proofs.lemmas.List.{length_push}
use Rattle.gsl_words.specs.Words.{word_at}
use Rattle.gsl_cmd.specs.Buffers.{word_offset}
use Rattle.gsl_cmd.proofs.Constants.{run_more}
use Rattle.gsl_slow.proofs.shader.seen_words.Goals as goal

pub loop-i-preserved : goal.loop-i-preserved
loop-i-preserved c = record {
  words = run_more (λ i. word_at c.args.bytes.now (word_offset i)) [] _ _ c.loop-i.i c.word_at.result c.loop-i.invariant.words c.in_ok-push.ensures.ok c.word_at.ensures;
  count = ap length c.in_ok-push.ensures.ok ∙ length_push c.loop-i.words c.word_at.result ∙ ap (λ n. n + 1) c.loop-i.invariant.count;
}
