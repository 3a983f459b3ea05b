use Rattle.std.proofs.Common.{◌≡◌, ap, ◌∙◌, subst, arith}
use Rattle.gsl_words.specs.declared.module.Module.{Module}
use Rattle.gsl_frames.specs.Frames.{frame, told_taken}
use Rattle.gsl_leaves.specs.Table.{told}
use Rattle.gsl_positions.specs.Positions.{left}
use Rattle.gsl_chains.specs.Chains.{body_of, words_in}
use Rattle.gsl_chains.proofs.Longer.{one_more, row_told}
use Rattle.gsl_chains.proofs.chains.own_rows.Goals as goal

pub loop-id-preserved : goal.loop-id-preserved
loop-id-preserved c =
    let m = c.args.frames.now in
    let same = c.definitions-definitions.ensures ∙ c.leaves.ensures in
    let body = subst (λ (n : Module). left n c.body_at.result ≡ body_of n c.loop-id.id) same c.body_at.ensures in
    let item = c.words_in.ensures ∙ ap (words_in c.args.row) (c.frame-taken.ensures ∙ ap (λ b. told_taken (frame m b)) body) ∙ row_told c.args.row (frame m (body_of m c.loop-id.id)) in (
      c.loop-id.invariant.0,
      omega (arith, c.loop-id-test.true),
      one_more (λ id. told (words_in c.args.row (frame m (body_of m id)))) c.loop-id.id c.loop-id.rows.items _ c.words_in.result c.loop-id.invariant.2 c.in_ok-push.ensures.items item,
    )
