use Rattle.std.proofs.Common.{◌≡◌, ◌+◌, ap, ◌∙◌, subst, arith}
use Rattle.std.specs.Prelude.{slice_index}
use Rattle.gsl_words.specs.declared.module.Module.{Module}
use Rattle.gsl_frames.specs.Frames.{plus_told}
use Rattle.gsl_leaves.specs.Table.{told}
use Rattle.gsl_positions.specs.Positions.{left}
use Rattle.gsl_chains.specs.Chains.{body_of, calls_of, greatest}
use Rattle.gsl_chains.proofs.Longer.{one_more}
use Rattle.gsl_chains.proofs.chains.longer.Goals as goal

pub loop-id-preserved : goal.loop-id-preserved
loop-id-preserved c =
    let m = c.args.frames.now in
    let own = c.args.own.now in
    let rows = c.args.rows.now in
    let id = c.loop-id.id in
    let same = c.definitions-definitions.ensures ∙ c.leaves.ensures in
    let body = subst (λ (n : Module). left n c.body_at.result ≡ body_of n id) same c.body_at.ensures in
    let most = subst (λ (n : Module). c.greatest_called-most.result ≡ greatest (slice_index rows) (calls_of (left n c.body_at.result))) same c.greatest_called-most.ensures in
    let item = c.plus.ensures ∙ ap (λ n. told (n + c.greatest_called-most.result)) c.word_at.ensures ∙ ap (λ n. told (slice_index own id + n)) (most ∙ ap (λ b. greatest (slice_index rows) (calls_of b)) body) in (
      c.loop-id.invariant.0,
      omega (arith, c.loop-id-test.true),
      one_more (λ id. plus_told (slice_index own id) (greatest (slice_index rows) (calls_of (body_of m id)))) id c.loop-id.next.items _ c.plus.result c.loop-id.invariant.2 c.in_ok-push.ensures.items item,
    )
